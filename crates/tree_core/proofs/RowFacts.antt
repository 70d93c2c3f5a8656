-- What the proofs take from the node table: a few facts, each by computing over its rows.
use Rattle.std.specs.Prelude.{ℕ, List, [], ◌∷◌, Bool, true, false, not, ◌&&◌, ◌||◌, bytes_eq, codes, if◌then◌else◌}
use Rattle.std.specs.List.{list_all}
use Rattle.std.proofs.Common.{◌≡◌, refl}
use Rattle.json_text.specs.Units.{are_code_units}
use Rattle.tree_core.specs.Reading.{is_listed}
use Rattle.tree_nodes.specs.Kinds.{all_kinds}
use Rattle.tree_nodes.specs.Table.{Column, Row, row, word_list}
use Rattle.tree_core.specs.Readable.{is_ascii}
use Rattle.tree_nodes.proofs.Cases.{both, not_true}
use Rattle.tree_nodes.proofs.EachKind.{of_each}
use Rattle.tree_nodes.specs.declared.kind.Kind.{Kind}
use Rattle.tree_nodes.specs.declared.table.Class.{Class as FieldClass}
use Rattle.tree_nodes.specs.declared.table.Class.TheVariants.{Cooked, Flags, Pattern, Raw, TextOr}
use Rattle.tree_nodes.specs.declared.table.Words.{Words}
use Rattle.tree_nodes.specs.declared.table.Words.TheVariants.{SourceTypes, VariableKinds, MethodKinds, PropertyKinds, UnaryOperators, UpdateOperators, BinaryOperators, LogicalOperators, AssignmentOperators}

-- a class that may be left out in printing
abbrev pub is_omittable : FieldClass → Bool
is_omittable TextOr = true
is_omittable _ = false

abbrev pub is_flags : FieldClass → Bool
is_flags Flags = true
is_flags _ = false

abbrev pub is_cooked : FieldClass → Bool
is_cooked Cooked = true
is_cooked _ = false

-- a field in an object of its own, under this key
abbrev pub is_inner : Column → List ℕ → Bool
is_inner c k = bytes_eq c.key k && not c.omit

-- a field of the node's object, whose key no other of these has
abbrev pub is_outer : Column → List Column → Bool
is_outer c cs = not (is_listed c.key cs) && ((not c.omit || is_omittable c.class) && are_code_units c.key)

-- of a class, the first column before the others: `pattern` stands before `flags`, and `raw` before `cooked`
abbrev pub is_first : FieldClass → Column → List Column → Bool
is_first Pattern c [] = false
is_first Pattern c (d ∷ cs) =
    is_inner c (codes "pattern") && (is_flags d.class && (is_inner d (codes "flags") && not (is_listed (codes "regex") cs)))
is_first Raw c [] = false
is_first Raw c (d ∷ cs) =
    is_inner c (codes "raw") && (is_cooked d.class && (is_inner d (codes "cooked") && not (is_listed (codes "value") cs)))
is_first Flags c cs = false
is_first Cooked c cs = false
is_first _ c cs = is_outer c cs

-- whether the next column is in the object of a first one of this class
abbrev pub takes_next : FieldClass → Bool
takes_next Pattern = true
takes_next Raw = true
takes_next _ = false

-- columns of which each is a field of its own or, with the next, an object
abbrev pub are_ordered : List Column → Bool
are_ordered [] = true
are_ordered (c ∷ []) = is_first c.class c []
are_ordered (c ∷ d ∷ cs) = is_first c.class c (d ∷ cs) && (if takes_next c.class then are_ordered cs else are_ordered (d ∷ cs))

-- flags stand right after a pattern
abbrev pub is_followed : FieldClass → List Column → Bool
is_followed Pattern [] = false
is_followed Pattern (d ∷ cs) = is_flags d.class
is_followed _ cs = true

abbrev pub are_followed : List Column → Bool
are_followed [] = true
are_followed (c ∷ cs) = is_followed c.class cs && are_followed cs

abbrev pub is_sound_row : Row → Bool
is_sound_row r =
    is_ascii r.name && (not (is_listed (codes "type") r.columns) && (not (is_listed (codes "start") r.columns)
    && (not (is_listed (codes "end") r.columns) && (are_followed r.columns && are_ordered r.columns))))

abbrev is_sound : Kind → Bool
is_sound k = is_sound_row (row k)

sound_rows : list_all is_sound all_kinds ≡ true
sound_rows = refl

pub record IsSoundRow (r : Row) : Type 0 where
  pub ascii : is_ascii r.name ≡ true
  pub typed : is_listed (codes "type") r.columns ≡ false
  pub starts : is_listed (codes "start") r.columns ≡ false
  pub ends : is_listed (codes "end") r.columns ≡ false
  pub followed : are_followed r.columns ≡ true
  pub ordered : are_ordered r.columns ≡ true

pub row_sound : (k : Kind) → IsSoundRow (row k)
row_sound k =
    let r = row k in
    let a = both (is_ascii r.name) _ (of_each is_sound sound_rows refl k) in
    let b = both (not (is_listed (codes "type") r.columns)) _ a.1 in
    let c = both (not (is_listed (codes "start") r.columns)) _ b.1 in
    let d = both (not (is_listed (codes "end") r.columns)) _ c.1 in
    let e = both (are_followed r.columns) _ d.1 in
    record {
      ascii = a.0;
      typed = not_true _ b.0;
      starts = not_true _ c.0;
      ends = not_true _ d.0;
      followed = e.0;
      ordered = e.1;
    }

pub ascii_words : (w : Words) → list_all is_ascii (word_list w) ≡ true
ascii_words SourceTypes = refl
ascii_words VariableKinds = refl
ascii_words MethodKinds = refl
ascii_words PropertyKinds = refl
ascii_words UnaryOperators = refl
ascii_words UpdateOperators = refl
ascii_words BinaryOperators = refl
ascii_words LogicalOperators = refl
ascii_words AssignmentOperators = refl
