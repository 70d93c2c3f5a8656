-- What becomes of an id where what it belongs to is copied.
use Rattle.std.specs.Prelude.{Option, None}
use Rattle.syntax_sem.specs.declared.semantic_id.CloneInSemanticIds.{CloneInSemanticIds}
use Rattle.syntax_sem.specs.declared.semantic_id.CloneInSemanticIds.TheVariants.{With, Without}

-- it is kept, or it becomes the id zero
abbrev pub cloned_id : {T : Type 0} → T → T → CloneInSemanticIds → T
cloned_id zero id With = id
cloned_id zero id Without = zero

-- it is kept, if there is one, or there is none
abbrev pub cloned_option : {T : Type 0} → Option T → CloneInSemanticIds → Option T
cloned_option id With = id
cloned_option id Without = None
