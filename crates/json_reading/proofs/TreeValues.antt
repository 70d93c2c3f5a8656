-- The value of a tree in which no surrogate stands alone can be read.
use Rattle.std.proofs.Common.{◌≡◌, ℕ, pos, ◌<◌, ◌^◌, List, [], ◌∷◌, Bool, true, false, ◌&&◌, nat_lt, Some, None, if◌then◌else◌, refl, arith, ltb-true}
use Rattle.std.specs.Char.Utf16.{has_unpaired_surrogate}
use Rattle.json_text.proofs.Units.{are_code_units-AreCodeUnits}
use Rattle.json_text.specs.HasText.{AreCodeUnits, HasText, ItemsHaveText, MembersHaveText}
use Rattle.json_text.specs.Json.{Json, null, truth, whole as number, other_number, string, list, object, Items, no_items, item, Members, no_members, member}
use Rattle.tree_core.proofs.FieldClasses.{put_at}
use Rattle.tree_core.proofs.Fits.{FitFields, FitItems, Fits, FitsAtom, FitsHead}
use Rattle.tree_core.proofs.ReadsBack.{tree_fits, tree_has_text}
use Rattle.tree_core.specs.Reading.{below, one, tree_of}
use Rattle.tree_core.specs.Values.{atom_value, fields_value, held, is_null_atom, items_value, node_value, value_of, without_next}
use Rattle.tree_nodes.proofs.Cases.{if_some, map_some, none_some}
use Rattle.tree_nodes.specs.Table.{Column, row}
use Rattle.tree_nodes.specs.Tree.{Atom, Parts, Tree, atom, child, done, empty, flag, many, text, units, whole, word}
use Rattle.tree_nodes.specs.declared.kind.Kind.{Kind}
use Rattle.tree_nodes.specs.declared.table.Class.{Class as FieldClass}
use Rattle.tree_nodes.specs.declared.table.Class.TheVariants.{LiteralValue, Pattern, Raw}
use Rattle.json_reading.specs.Readable.{AreReadable, HasBits, HasNoLone, HaveNoLone, HaveReadable, IsReadable, LackLone, are_paired}

-- ---- numbers

abbrev mutual
  HasSmall : Json → Type 0
  HasSmall null = Unit {0}
  HasSmall (truth b) = Unit {0}
  HasSmall (number z) = HasBits z
  HasSmall other_number = Unit {0}
  HasSmall (string us) = Unit {0}
  HasSmall (list xs) = AreSmall xs
  HasSmall (object ms) = HaveSmall ms

  AreSmall : Items → Type 0
  AreSmall no_items = Unit {0}
  AreSmall (item x xs) = HasSmall x × AreSmall xs

  HaveSmall : Members → Type 0
  HaveSmall no_members = Unit {0}
  HaveSmall (member k x ms) = HasSmall x × HaveSmall ms

whole_small : (c : FieldClass) (n : ℕ) → FitsAtom c (whole n) → n < 2 ^ 64
whole_small LiteralValue n f =
    let a = map_some (λ k. one (whole k)) (below (2 ^ 64) (number (pos n))) (one (whole n)) (f.0 None (λ holes. None)) in
    ltb-true n (2 ^ 64) (if_some (nat_lt n (2 ^ 64)) (Some n) a.0 a.1).0
whole_small _ n f = none_some (one (whole n)) (f.0 None (λ holes. None))

atom_small : (c : FieldClass) (a : Atom) → FitsAtom c a → HasSmall (atom_value c a)
atom_small c empty f = tt
atom_small c (flag b) f = tt
atom_small c (word n) f = tt
atom_small c (text x) f = tt
atom_small c (units us) f = tt
atom_small c (whole n) f = whole_small c n f

rest_small : (ms : Members) → HaveSmall ms → HaveSmall (without_next ms)
rest_small no_members h = tt
rest_small (member k x ms) h = h.1

held_small : (outer k : List ℕ) (v : Json) (ms : Members) → HasSmall v → HaveSmall ms → HaveSmall (held outer k v ms)
held_small outer k v no_members h i = tt
held_small outer k v (member l w ms) h i = ((h, (i.0, tt)), i.1)

either_small : (b : Bool) (a c : Members) → HaveSmall a → HaveSmall c → HaveSmall (if b then a else c)
either_small true a c h i = h
either_small false a c h i = i

put_small : (class : FieldClass) (c : Column) (a : Atom) (more : Members) → HasSmall (atom_value c.class a) → HaveSmall more → HaveSmall (put_at class c a more)
put_small Pattern c a more h i = either_small (is_null_atom a) (without_next more) (held _ c.key (atom_value c.class a) more) (rest_small more i) (held_small _ c.key (atom_value c.class a) more h i)
put_small Raw c a more h i = held_small _ c.key (atom_value c.class a) more h i
put_small _ c a more h i = either_small (c.omit && is_null_atom a) more (member c.key (atom_value c.class a) more) i (h, i)

head_small : (k : Kind) (s e : ℕ) (fields : Members) → FitsHead s e → HaveSmall fields → HasSmall (node_value k s e fields)
head_small k s e fields h i = (tt, (omega (arith, h.0), (omega (arith, h.1), i)))

mutual
  fields_small : (ps : Parts) (cs : List Column) → FitFields ps cs → HaveSmall (fields_value ps cs)
  fields_small done [] f = tt
  fields_small done (c ∷ cs) f = absurd f
  fields_small (atom a more) [] f = absurd f
  fields_small (atom a more) (c ∷ cs) f = put_small c.class c a (fields_value more cs) (atom_small c.class a f.0) (fields_small more cs f.2)
  fields_small (child k s e fields more) [] f = absurd f
  fields_small (child k s e fields more) (c ∷ cs) f =
      (head_small k s e (fields_value fields (row k).columns) f.1 (fields_small fields (row k).columns f.2), fields_small more cs f.3)
  fields_small (many items more) [] f = absurd f
  fields_small (many items more) (c ∷ cs) f = (items_small items f.0 f.2, fields_small more cs f.3)

  items_small : (ps : Parts) (holes : Bool) → FitItems ps holes → AreSmall (items_value ps)
  items_small done holes f = tt
  items_small (atom a more) holes f = (tt, items_small more holes f.2)
  items_small (child k s e fields more) holes f =
      (head_small k s e (fields_value fields (row k).columns) f.0 (fields_small fields (row k).columns f.1), items_small more holes f.2)
  items_small (many items more) holes f = absurd f

-- ---- all of it

paired : (us : List ℕ) → AreCodeUnits us → has_unpaired_surrogate us ≡ false → are_paired us ≡ true
paired us a n = rw (are_code_units-AreCodeUnits us a, n) refl

mutual
  readable : (v : Json) → HasText v → HasNoLone v → HasSmall v → IsReadable v
  readable null t n s = tt
  readable (truth b) t n s = tt
  readable (number z) t n s = s
  readable other_number t n s = absurd t
  readable (string us) t n s = paired us t n
  readable (list xs) t n s = items_readable xs t n s
  readable (object ms) t n s = members_readable ms t n s

  items_readable : (xs : Items) → ItemsHaveText xs → LackLone xs → AreSmall xs → AreReadable xs
  items_readable no_items t n s = tt
  items_readable (item x xs) t n s = (readable x t.0 n.0 s.0, items_readable xs t.1 n.1 s.1)

  members_readable : (ms : Members) → MembersHaveText ms → HaveNoLone ms → HaveSmall ms → HaveReadable ms
  members_readable no_members t n s = tt
  members_readable (member k x ms) t n s = (paired k t.0 n.0, readable x t.1 n.1 s.0, members_readable ms t.2 n.2 s.1)

pub tree_readable : (v : Json) (t : Tree) → tree_of v ≡ Some t → HasNoLone (value_of t) → IsReadable (value_of t)
tree_readable v t e n =
    let f : Fits t = tree_fits v t e in
    readable (value_of t) (tree_has_text v t e) n
    (head_small t.kind t.start t.stop (fields_value t.fields (row t.kind).columns) f.0 (fields_small t.fields (row t.kind).columns f.1))
