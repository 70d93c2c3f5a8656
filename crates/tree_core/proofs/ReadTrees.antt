-- From the shape of a value to the tree that it is.
use Rattle.std.proofs.Common.{◌≡◌, Bool, true, false, Option, Some, None, option_and_then, if◌then◌else◌, ap, ◌∙◌}
use Rattle.json_text.specs.Json.{Json}
use Rattle.tree_core.specs.declared.read.ReadError.{ReadError}
use Rattle.tree_core.specs.declared.read.ReadError.TheVariants.{TooLarge, BadTree, Memory}
use Rattle.tree_core.specs.ReadError.{Says}
use Rattle.tree_core.specs.Reading.{shape_of, tree_of}
use Rattle.tree_nodes.specs.Standing.{is_placed}
use Rattle.tree_nodes.specs.Tree.{Tree}

-- the tree of a shape
abbrev pub if_placed : Tree → Option Tree
if_placed t = if is_placed t then Some t else None

pub tree_of-placed : (v : Json) (t : Tree) → shape_of v ≡ Some t → is_placed t ≡ true → tree_of v ≡ Some t
unfolding tree_of
tree_of-placed v t e p = ap (option_and_then if_placed) e ∙ ap (λ (b : Bool). if b then Some t else None) p

pub tree_of-misplaced : (v : Json) (t : Tree) → shape_of v ≡ Some t → is_placed t ≡ false → tree_of v ≡ None
unfolding tree_of
tree_of-misplaced v t e p = ap (option_and_then if_placed) e ∙ ap (λ (b : Bool). if b then Some t else None) p

pub tree_of-shapeless : (v : Json) → shape_of v ≡ None → tree_of v ≡ None
unfolding tree_of
tree_of-shapeless v e = ap (option_and_then if_placed) e

pub says_bad : {P : Type 0} (e : ReadError) → Says e P → e ≡ BadTree → P
says_bad TooLarge h e = absurd h
says_bad BadTree h e = h
says_bad Memory h e = absurd (cc)
