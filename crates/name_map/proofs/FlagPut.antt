-- Giving a field a flag, in the list of fields and in the run that it stands for.
use Rattle.std.proofs.Common.{◌≡◌, ℕ, zero, suc, ◌<◌, ◌≤◌, Bool, List, [], ◌∷◌, length, get_or, slice_set, refl, sym, ap, ◌∙◌, arith}
use Rattle.name_map.specs.Filled.{flag_put}
use Rattle.tree_nodes.specs.Look.{onto}
use Rattle.tree_nodes.specs.Tree.{Parts}
use Rattle.tree_nodes.specs.Views.{part_of, parts_of}
use Rattle.tree_nodes.specs.declared.node.Field.{Field}
use Rattle.tree_nodes.specs.declared.node.Field.TheVariants.{Empty, Flag, Word, Text, Str, Whole, Child, List as Several}

first_put : (b : Bool) (f : Field) (p : Parts) → flag_put 0 b (onto (part_of f) p) ≡ onto (flag_put 0 b (part_of f)) p
unfolding flag_put
first_put b Empty p = refl
first_put b (Flag c) p = refl
first_put b (Word w) p = refl
first_put b (Text t) p = refl
first_put b (Str us) p = refl
first_put b (Whole n) p = refl
first_put b (Child n) p = refl
first_put b (Several ts) p = refl

later_put : (b : Bool) (f : Field) (p : Parts) (i : ℕ) → flag_put (suc i) b (onto (part_of f) p) ≡ onto (part_of f) (flag_put i b p)
unfolding flag_put
later_put b Empty p i = refl
later_put b (Flag c) p i = refl
later_put b (Word w) p i = refl
later_put b (Text t) p i = refl
later_put b (Str us) p i = refl
later_put b (Whole n) p i = refl
later_put b (Child n) p i = refl
later_put b (Several ts) p i = refl

pub flag_put_set : (b : Bool) (fs : List Field) (i : ℕ) (d f : Field) → i < length fs → part_of f ≡ flag_put 0 b (part_of (get_or fs i d))
    → parts_of (slice_set fs i f) ≡ flag_put i b (parts_of fs)
flag_put_set b [] i d f h e = absurd (omega (arith, h))
flag_put_set b (g ∷ fs) zero d f h e = ap (λ p. onto p (parts_of fs)) e ∙ sym (first_put b g (parts_of fs))
flag_put_set b (g ∷ fs) (suc i) d f h e = ap (onto (part_of g)) (flag_put_set b fs i d f (omega (arith, h)) e) ∙ sym (later_put b g (parts_of fs) i)

pub flag_put_past : (b : Bool) (fs : List Field) (i : ℕ) → length fs ≤ i → parts_of fs ≡ flag_put i b (parts_of fs)
unfolding flag_put
flag_put_past b [] i h = refl
flag_put_past b (g ∷ fs) zero h = absurd (omega (arith, h))
flag_put_past b (g ∷ fs) (suc i) h = ap (onto (part_of g)) (flag_put_past b fs i (omega (arith, h))) ∙ sym (later_put b g (parts_of fs) i)
