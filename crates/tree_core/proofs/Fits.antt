-- Trees whose parts fit the node table: each field is one that its column can be read as. What is read is such a tree,
-- and the value of such a tree is read as it.
use Rattle.std.specs.Prelude.{ℕ, ◌^◌, ◌<◌, ◌≡◌, List, [], ◌∷◌, Bool, true, false, Option, Some, None, option_map}
use Rattle.json_text.specs.Json.{Json}
use Rattle.json_text.specs.HasText.{HasText}
use Rattle.tree_core.specs.Reading.{is_null_value, one, or_null, text_in, units_in, part_from, holder}
use Rattle.tree_nodes.specs.Table.{Column, row}
use Rattle.tree_nodes.specs.Tree.{Atom, Parts, Tree, alone, atom, child, done, empty, is_empty, many, text, units}
use Rattle.tree_core.specs.Values.{atom_value, is_null_atom}
use Rattle.tree_nodes.specs.declared.table.Class.{Class as FieldClass}
use Rattle.tree_nodes.specs.declared.table.Class.TheVariants.{Cooked, Flags, Pattern, Raw}

-- the part that a value is by its class, out of the object that holds it
abbrev pub inner_part : FieldClass → Json → Option Tree → (Bool → Option Parts) → Option Parts
inner_part Pattern d t ts = or_null d (option_map (λ x. one (text x)) (text_in d))
inner_part Flags d t ts = or_null d (option_map (λ x. one (text x)) (text_in d))
inner_part Raw d t ts = option_map (λ x. one (units x)) (units_in d)
inner_part Cooked d t ts = or_null d (option_map (λ x. one (units x)) (units_in d))
inner_part c d t ts = part_from c [] d t ts

-- a field that is no node: its value is read as it, and has a text
abbrev pub FitsAtom : FieldClass → Atom → Type 0
FitsAtom c a =
    ((t : Option Tree) (ts : Bool → Option Parts) → inner_part c (atom_value c a) t ts ≡ Some (one a)) × HasText (atom_value c a)

-- a pattern stands where flags do
abbrev pub FitsNext : FieldClass → Atom → Parts → Type 0
FitsNext Pattern a more = is_null_atom a ≡ is_empty more
FitsNext _ a more = Unit {0}

-- a class that takes a node
abbrev pub TakesNode : FieldClass → Type 0
TakesNode c = (holder c ≡ None) × ((k : List ℕ) (d : Json) (t : Tree) (ts : Bool → Option Parts) → is_null_value d ≡ false
    → part_from c k d (Some t) ts ≡ Some (alone t))

-- a class that takes a list, with holes or without
abbrev pub TakesList : FieldClass → Bool → Type 0
TakesList c holes = (holder c ≡ None) × ((k : List ℕ) (d : Json) (t : Option Tree) (ts : Bool → Option Parts)
    → part_from c k d t ts ≡ option_map (λ us. many us done) (ts holes))

abbrev pub FitsHead : ℕ → ℕ → Type 0
FitsHead start stop = (start < 2 ^ 32) × (stop < 2 ^ 32)

abbrev mutual
  -- the fields of a node, beside its columns
  pub FitFields : Parts → List Column → Type 0
  FitFields done [] = Unit {0}
  FitFields done (c ∷ cs) = ⊥
  FitFields (atom a more) [] = ⊥
  FitFields (atom a more) (c ∷ cs) = FitsAtom c.class a × FitsNext c.class a more × FitFields more cs
  FitFields (child k s e fields more) [] = ⊥
  FitFields (child k s e fields more) (c ∷ cs) =
      TakesNode c.class × FitsHead s e × FitFields fields (row k).columns × FitFields more cs
  FitFields (many items more) [] = ⊥
  FitFields (many items more) (c ∷ cs) = (holes : Bool) × TakesList c.class holes × FitItems items holes × FitFields more cs

  -- the items of a list, with holes or without
  pub FitItems : Parts → Bool → Type 0
  FitItems done holes = Unit {0}
  FitItems (atom a more) holes = (holes ≡ true) × (a ≡ empty) × FitItems more holes
  FitItems (child k s e fields more) holes = FitsHead s e × FitFields fields (row k).columns × FitItems more holes
  FitItems (many items more) holes = ⊥

abbrev pub Fits : Tree → Type 0
Fits t = FitsHead t.start t.stop × FitFields t.fields (row t.kind).columns

-- one part, by itself
abbrev pub FitsPart : FieldClass → Parts → Type 0
FitsPart c (atom a done) = FitsAtom c a
FitsPart c (child k s e fields done) = TakesNode c × FitsHead s e × FitFields fields (row k).columns
FitsPart c (many items done) = (holes : Bool) × TakesList c holes × FitItems items holes
FitsPart c _ = ⊥
