-- What the proofs ask of a class of field: where its fields lie, and how they are printed and read.
use Rattle.std.proofs.Common.{◌≡◌, ℕ, List, Bool, true, false, ◌&&◌, Option, Some, None, if◌then◌else◌, refl, sym, ap, ◌∙◌, true≢false, codes}
use Rattle.json_text.specs.Json.{Json, Members, member}
use Rattle.tree_core.specs.Reading.{holder, outer_key, part_from}
use Rattle.tree_nodes.specs.Table.{Column}
use Rattle.tree_nodes.specs.Tree.{Atom, Parts, Tree, atom, empty, flag, is_empty, text, units, whole, word}
use Rattle.tree_core.specs.Values.{atom_value, held, is_null_atom, without_next}
use Rattle.tree_nodes.specs.declared.table.Class.{Class as FieldClass}
use Rattle.tree_nodes.specs.declared.table.Class.TheVariants.{Cooked, Flags, Pattern, Raw}
use Rattle.tree_nodes.proofs.Cases.{none_some}
use Rattle.tree_core.proofs.Fits.{inner_part}
use Rattle.tree_core.proofs.RowFacts.{is_cooked, is_first, is_flags, is_outer, takes_next}

-- as `put_member`, with the column's class beside it
abbrev pub put_at : FieldClass → Column → Atom → Members → Members
put_at class c a more = elim class [
  | Pattern ↦ (if is_null_atom a then without_next more else held (codes "regex") c.key (atom_value c.class a) more)
  | Raw ↦ held (codes "value") c.key (atom_value c.class a) more
  | _ ↦ (if c.omit && is_null_atom a then more else member c.key (atom_value c.class a) more)
]

-- a class whose fields lie in the node's own object
pub record IsPlain (class : FieldClass) : Type 0 where
  pub first : (c : Column) (cs : List Column) → is_first class c cs ≡ is_outer c cs
  pub single : takes_next class ≡ false
  pub prints : (c : Column) (a : Atom) (more : Members)
      → put_at class c a more ≡ (if c.omit && is_null_atom a then more else member c.key (atom_value c.class a) more)
  pub reads : (k : List ℕ) (d : Json) (t : Option Tree) (ts : Bool → Option Parts)
      → part_from class k d t ts ≡ inner_part class d t ts

pub plain_class : (class : FieldClass) → holder class ≡ None → IsPlain class
plain_class Pattern h = none_some _ (sym h)
plain_class Flags h = none_some _ (sym h)
plain_class Raw h = none_some _ (sym h)
plain_class Cooked h = none_some _ (sym h)
plain_class _ h = record { first = λ c cs. refl; single = refl; prints = λ c a more. refl; reads = λ k d t ts. refl }

-- where the fields of a class lie
pub data Sort (class : FieldClass) : Type 0 where
  of_pattern : class ≡ Pattern → Sort class
  of_flags : class ≡ Flags → Sort class
  of_raw : class ≡ Raw → Sort class
  of_cooked : class ≡ Cooked → Sort class
  of_plain : holder class ≡ None → Sort class

pub sort_of : (class : FieldClass) → Sort class
sort_of Pattern = of_pattern refl
sort_of Flags = of_flags refl
sort_of Raw = of_raw refl
sort_of Cooked = of_cooked refl
sort_of _ = of_plain refl

pub own_key : (c : Column) → holder c.class ≡ None → outer_key c ≡ c.key
own_key c h = ap (λ o. elim o [ Some k ↦ k | None ↦ c.key ]) h

pub key_of_class : (c : Column) (class : FieldClass) (k : List ℕ) → holder class ≡ Some k → c.class ≡ class
    → outer_key c ≡ k
key_of_class c class k e same = ap (λ x. elim (holder x) [ Some l ↦ l | None ↦ c.key ]) same
    ∙ ap (λ o. elim o [ Some l ↦ l | None ↦ c.key ]) e

pub is_flags-Flags : (class : FieldClass) → is_flags class ≡ true → class ≡ Flags
is_flags-Flags Flags e = refl
is_flags-Flags _ e = absurd (true≢false (sym e))

pub is_cooked-Cooked : (class : FieldClass) → is_cooked class ≡ true → class ≡ Cooked
is_cooked-Cooked Cooked e = refl
is_cooked-Cooked _ e = absurd (true≢false (sym e))

pub never_takes : {A : Type 0} (class : FieldClass) (k : List ℕ) → holder class ≡ Some k → (o : FieldClass) → o ≡ class
    → holder o ≡ None → A
never_takes class k h o same n = none_some k (sym n ∙ ap holder same ∙ h)

pub is_empty-atom : (a : Atom) (more : Parts) → is_empty (atom a more) ≡ is_null_atom a
is_empty-atom empty more = refl
is_empty-atom (flag b) more = refl
is_empty-atom (word n) more = refl
is_empty-atom (text x) more = refl
is_empty-atom (units us) more = refl
is_empty-atom (whole n) more = refl
