-- Reading undoes printing, and the text of what is printed reads as it.
use Rattle.std.proofs.Common.{◌≡◌, true, Some, ap, ◌∙◌, subst}
use Rattle.json_text.specs.Json.{Json}
use Rattle.json_text.specs.HasText.{HasText}
use Rattle.json_text.proofs.Texts.{text_reads_alone}
use Rattle.tree_core.specs.Laws.{PrintedTextReads}
use Rattle.tree_core.specs.Reading.{shape_of, tree_of}
use Rattle.tree_nodes.specs.Standing.{is_placed}
use Rattle.tree_nodes.specs.Tree.{Tree}
use Rattle.tree_core.specs.Values.{value_of}
use Rattle.tree_nodes.proofs.Cases.{if_some, some_same, then_some}
use Rattle.tree_core.proofs.Fits.{Fits}
use Rattle.tree_core.proofs.FitsBack.{tree_back}
use Rattle.tree_core.proofs.ReadFits.{shape_fits}
use Rattle.tree_core.proofs.ReadTrees.{if_placed, tree_of-placed}

-- the shape that was read, which is the tree, and it stands where it may
pub shape_read : (v : Json) (t : Tree) → tree_of v ≡ Some t → (shape_of v ≡ Some t) × (is_placed t ≡ true)
unfolding tree_of
shape_read v t e =
    let a = then_some if_placed (shape_of v) t e in
    let b = if_some (is_placed a.0) (Some a.0) t a.2 in
    let same = some_same a.0 t b.1 in
    (a.1 ∙ ap Some same, subst (λ x. is_placed x ≡ true) same b.0)

pub tree_fits : (v : Json) (t : Tree) → tree_of v ≡ Some t → Fits t
tree_fits v t e = shape_fits v t (shape_read v t e).0

pub reading_undoes_printing : (v : Json) (t : Tree) → tree_of v ≡ Some t → tree_of (value_of t) ≡ Some t
reading_undoes_printing v t e = tree_of-placed (value_of t) t (tree_back t (tree_fits v t e)).0 (shape_read v t e).1

pub tree_has_text : (v : Json) (t : Tree) → tree_of v ≡ Some t → HasText (value_of t)
tree_has_text v t e = (tree_back t (tree_fits v t e)).1

pub printed_text_reads : PrintedTextReads
printed_text_reads l v t e = text_reads_alone l (value_of t) (tree_has_text v t e)
