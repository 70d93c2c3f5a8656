-- Taking a mark off, in the list of fields and in the run that it stands for.
use Rattle.std.proofs.Common.{◌≡◌, ℕ, zero, suc, ◌<◌, ◌≤◌, List, [], ◌∷◌, length, get_or, slice_set, refl, sym, ap, ◌∙◌, arith}
use Rattle.tree_nodes.specs.Look.{onto}
use Rattle.tree_nodes.specs.Tree.{Parts}
use Rattle.tree_nodes.specs.Views.{part_of, parts_of}
use Rattle.tree_nodes.specs.declared.node.Field.{Field}
use Rattle.tree_nodes.specs.declared.node.Field.TheVariants.{Empty, Flag, Word, Text, Str, Whole, Child, List as Several}
use Rattle.tree_rename.specs.Renamed.{off_at}

off_at_onto_first : (f : Field) (p : Parts) → off_at 0 (onto (part_of f) p) ≡ onto (off_at 0 (part_of f)) p
unfolding off_at
off_at_onto_first Empty p = refl
off_at_onto_first (Flag b) p = refl
off_at_onto_first (Word w) p = refl
off_at_onto_first (Text t) p = refl
off_at_onto_first (Str us) p = refl
off_at_onto_first (Whole n) p = refl
off_at_onto_first (Child b) p = refl
off_at_onto_first (Several ts) p = refl

off_at_onto_later : (f : Field) (p : Parts) (i : ℕ) → off_at (suc i) (onto (part_of f) p) ≡ onto (part_of f) (off_at i p)
unfolding off_at
off_at_onto_later Empty p i = refl
off_at_onto_later (Flag b) p i = refl
off_at_onto_later (Word w) p i = refl
off_at_onto_later (Text t) p i = refl
off_at_onto_later (Str us) p i = refl
off_at_onto_later (Whole n) p i = refl
off_at_onto_later (Child b) p i = refl
off_at_onto_later (Several ts) p i = refl

pub off_at_set : (fs : List Field) (i : ℕ) (d f : Field) → i < length fs → part_of f ≡ off_at 0 (part_of (get_or fs i d))
    → parts_of (slice_set fs i f) ≡ off_at i (parts_of fs)
off_at_set [] i d f h e = absurd (omega (arith, h))
off_at_set (g ∷ fs) zero d f h e = ap (λ p. onto p (parts_of fs)) e ∙ sym (off_at_onto_first g (parts_of fs))
off_at_set (g ∷ fs) (suc i) d f h e = ap (onto (part_of g)) (off_at_set fs i d f (omega (arith, h)) e) ∙ sym (off_at_onto_later g (parts_of fs) i)

pub off_at_past : (fs : List Field) (i : ℕ) → length fs ≤ i → parts_of fs ≡ off_at i (parts_of fs)
unfolding off_at
off_at_past [] i h = refl
off_at_past (g ∷ fs) zero h = absurd (omega (arith, h))
off_at_past (g ∷ fs) (suc i) h = ap (onto (part_of g)) (off_at_past fs i (omega (arith, h))) ∙ sym (off_at_onto_later g (parts_of fs) i)
