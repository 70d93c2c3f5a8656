use Rattle.std.specs.Prelude.{List, None, Option, get_or, is_some, ℕ}
use Rattle.std.proofs.Common.{ap, sym, ◌∙◌}
use Rattle.syntax_sem.specs.ClassId.{number_of}
use Rattle.syntax_sem.specs.declared.class.ClassId.{ClassId}
use Rattle.tree_semantic.specs.ClassBodies.{node_class}
use Rattle.tree_semantic.proofs.Declared.{class_exactly, some_mapped}
use Rattle.tree_semantic.proofs.classes.Classes.node_class.Goals as goal

pub returns-clause-class : goal.returns-clause-class
returns-clause-class c = λ ps count a.
    c.class_of.ensures ∙ c.number_or_none.ensures ∙ ap (λ (os : List (Option ℕ)). get_or os c.index-n.result None) c.as_slice.ensures.value ∙ a.by_node c.index-n.result ∙ ap (λ (n : ℕ). node_class ps n) c.index-n.ensures.value

pub returns-clause-exactly : goal.returns-clause-exactly
returns-clause-exactly c = λ ps count a sound.
    sym (some_mapped (λ (k : ClassId). number_of k) c.class_of.result)
    ∙ ap (λ (o : Option ℕ). is_some o)
    (c.class_of.ensures ∙ c.number_or_none.ensures ∙ ap (λ (os : List (Option ℕ)). get_or os c.index-n.result None) c.as_slice.ensures.value ∙ a.by_node c.index-n.result ∙ ap (λ (n : ℕ). node_class ps n) c.index-n.ensures.value)
    ∙ class_exactly ps sound a.bound _
