-- What is printed field by field is the value of the tree, and what is marked in it are its literals
-- that JSON can't hold.
use Rattle.std.proofs.Common.{◌≡◌, ℕ, suc, List, [], ◌∷◌, ◌++◌, Bool, true, false, not, ◌&&◌, ◌||◌, Some, is_some, if◌then◌else◌, map, codes, refl, sym, ap, ◌∙◌, true≢false}
use Rattle.std.specs.List.{list_all}
use Rattle.std.proofs.Math.Bool.{and-false}
use Rattle.json_text.specs.Json.{Json, member}
use Rattle.json_text.specs.Units.{units_of}
use Rattle.json_text.proofs.Units.{units_of-text_of_units}
use Rattle.oxc_estree.specs.Open.{Field, element_marks, field_marks, items_of, members_of}
use Rattle.oxc_estree.specs.Out.{Meaning, Part, key, index}
use Rattle.tree_nodes.specs.Literals.{case_from, case_of, is_fixed, with_value}
use Rattle.tree_nodes.specs.declared.literals.LiteralCase.TheVariants as case
use Rattle.tree_core.specs.Meanings.{are_paired, atom_meaning, field, field_meanings, has_next, held_field, is_always, is_value_class, item_meanings, node_meaning, node_of, null_meaning, object_key, put_field, without_next}
use Rattle.tree_core.specs.Reading.{holder, tree_of}
use Rattle.tree_nodes.specs.Table.{Column, row}
use Rattle.tree_nodes.specs.Tree.{Atom, Parts, Tree, atom, child, done, empty, flag, many, text, units, whole, word}
use Rattle.tree_core.specs.Values.{atom_value, fields_paths, fields_value, fix_paths, is_marked, is_null_atom, items_paths, items_value, meaning_of, node_value, own_path, put_member, value_of}
use Rattle.tree_core.specs.Values as values
use Rattle.tree_nodes.specs.declared.kind.Kind.{Kind}
use Rattle.tree_nodes.specs.declared.kind.Kind.TheVariants.{Literal}
use Rattle.tree_nodes.specs.declared.table.Class.{Class as FieldClass}
use Rattle.tree_nodes.specs.declared.table.Class.TheVariants.{Pattern, Raw}
use Rattle.tree_nodes.specs.declared.table.Mark.{Mark}
use Rattle.tree_nodes.specs.declared.table.Mode.{Mode}
use Rattle.tree_core.specs.Readable.{is_ascii}
use Rattle.tree_core.proofs.AsciiTexts.{text_of_ascii}
use Rattle.tree_nodes.proofs.Cases.{both, not_true}
use Rattle.tree_nodes.proofs.EachKind.{of_each}
use Rattle.tree_core.proofs.Fits.{FitFields, FitItems, Fits}
use Rattle.tree_core.proofs.LeftToPrint.{put_always, rows_are_paired}
use Rattle.tree_core.proofs.ReadsBack.{tree_fits}
use Rattle.tree_core.proofs.RowFacts.{row_sound}

-- ---- the value

-- keys that are their own code units
abbrev has_ascii_key : Column → Bool
has_ascii_key c = is_ascii c.key

ascii_keys : (k : Kind) → list_all has_ascii_key (row k).columns ≡ true
ascii_keys = of_each (λ k. list_all has_ascii_key (row k).columns) refl refl

own_units : (bytes : List ℕ) → is_ascii bytes ≡ true → units_of bytes ≡ bytes
own_units bytes e = units_of-text_of_units bytes bytes (text_of_ascii bytes e)

value_of_atom : (marked : Bool) (class : FieldClass) (a : Atom) → (atom_meaning marked class a).value ≡ atom_value class a
value_of_atom marked class empty = refl
value_of_atom marked class a = refl

module _ (marked : Bool) (k : List ℕ) (mode : Mode) (inner : Bool) (mark : Mark) (omit : Bool) (own : units_of k ≡ k) where
  abbrev column : FieldClass → Column
  column class = record { key = k; class = class; mode = mode; inside = inner; mark = mark; omit = omit }

  plain_members : (class : FieldClass) (a : Atom) (rest : List Field)
      → members_of (if omit && is_null_atom a then rest else field k (atom_meaning marked class a) ∷ rest)
      ≡ (if omit && is_null_atom a then members_of rest else member k (atom_value class a) (members_of rest))
  plain_members class a rest = by_test (omit && is_null_atom a)
    where
      by_test : (b : Bool) → members_of (if b then rest else field k (atom_meaning marked class a) ∷ rest)
          ≡ (if b then members_of rest else member k (atom_value class a) (members_of rest))
      by_test true = refl
      by_test false = rw (own, value_of_atom marked class a) refl

  held_members : (class : FieldClass) (outer : List ℕ) (a : Atom) (rest : List Field) → units_of outer ≡ outer
      → members_of (held_field outer (field k (atom_meaning marked class a)) rest) ≡ values.held outer k (atom_value class a) (members_of rest)
  held_members class outer a [] e = refl
  held_members class outer a (g ∷ more) e = rw (e, own, value_of_atom marked class a) refl

  next_members : (rest : List Field) → members_of (without_next rest) ≡ values.without_next (members_of rest)
  next_members [] = refl
  next_members (g ∷ more) = refl

  put_members : (class : FieldClass) (a : Atom) (rest : List Field)
      → members_of (put_field marked (column class) a rest) ≡ put_member (column class) a (members_of rest)
  put_members Pattern a rest = by_test (is_null_atom a)
    where
      by_test : (b : Bool) → members_of (if b then without_next rest else held_field (codes "regex") (field k (atom_meaning marked Pattern a)) rest)
          ≡ (if b then values.without_next (members_of rest) else values.held (codes "regex") k (atom_value Pattern a) (members_of rest))
      by_test true = next_members rest
      by_test false = held_members Pattern (codes "regex") a rest (own_units (codes "regex") refl)
  put_members Raw a rest = held_members Raw (codes "value") a rest (own_units (codes "value") refl)
  put_members class a rest = plain_members class a rest

abbrev FieldsSame : Parts → List Column → Type 0
FieldsSame ps cs = (marked : Bool) → list_all has_ascii_key cs ≡ true → members_of (field_meanings marked ps cs) ≡ fields_value ps cs

node_same : (k : Kind) (s e : ℕ) (fs : Parts) → FieldsSame fs (row k).columns
    → (node_of k s e (field_meanings (is_marked k fs) fs (row k).columns)).value ≡ node_value k s e (fields_value fs (row k).columns)
node_same k s e fs same =
    rw (
      same (is_marked k fs) (ascii_keys k),
      own_units (row k).name (row_sound k).ascii,
      own_units (codes "type") refl,
      own_units (codes "start") refl,
      own_units (codes "end") refl,
    ) refl

mutual
  fields_same : (ps : Parts) (cs : List Column) → FieldsSame ps cs
  fields_same done cs marked h = refl
  fields_same (atom a more) [] marked h = refl
  fields_same (atom a more) (c ∷ cs) marked h =
      let keys = both (has_ascii_key c) (list_all has_ascii_key cs) h in
      put_members marked c.key c.mode c.inside c.mark c.omit (own_units c.key keys.0) c.class a (field_meanings marked more cs)
      ∙ ap (put_member c a) (fields_same more cs marked keys.1)
  fields_same (child k s e fs more) [] marked h = refl
  fields_same (child k s e fs more) (c ∷ cs) marked h =
      let keys = both (has_ascii_key c) (list_all has_ascii_key cs) h in
      rw (own_units c.key keys.0, node_same k s e fs (fields_same fs (row k).columns), fields_same more cs marked keys.1) refl
  fields_same (many items more) [] marked h = refl
  fields_same (many items more) (c ∷ cs) marked h =
      let keys = both (has_ascii_key c) (list_all has_ascii_key cs) h in
      rw (own_units c.key keys.0, items_same items, fields_same more cs marked keys.1) refl

  items_same : (ps : Parts) → items_of (item_meanings ps) ≡ items_value ps
  items_same done = refl
  items_same (atom a more) = rw (items_same more) refl
  items_same (child k s e fs more) = rw (node_same k s e fs (fields_same fs (row k).columns), items_same more) refl
  items_same (many items more) = items_same more

pub printed_value : (t : Tree) → (node_meaning t).value ≡ value_of t
printed_value t = node_same t.kind t.start t.stop t.fields (fields_same t.fields (row t.kind).columns)

-- ---- the marks

-- the path to the `value` of a node
abbrev to_value : List Part → List Part
to_value p = p ++ key (codes "value") ∷ []

to_value-append : (a b : List (List Part)) → map to_value (a ++ b) ≡ map to_value a ++ map to_value b
to_value-append [] b = refl
to_value-append (p ∷ a) b = ap (λ (ps : List (List Part)). to_value p ∷ ps) (to_value-append a b)

to_value-under : (p : Part) (a : List (List Part)) → map to_value (map (λ m. p ∷ m) a) ≡ map (λ m. p ∷ m) (map to_value a)
to_value-under p [] = refl
to_value-under p (m ∷ a) = ap (λ (ps : List (List Part)). (p ∷ to_value m) ∷ ps) (to_value-under p a)

-- a field that marks nothing
abbrev marks_nothing : Bool → Column → Bool
marks_nothing marked c = not (marked && is_value_class c.class)

-- a `value` is always printed, and what shares its object stands before a field that holds no node
abbrev is_steady : Column → List Column → Bool
is_steady c [] = not (c.omit && is_value_class c.class)
is_steady c (d ∷ ds) = not (c.omit && is_value_class c.class) && (not (is_some (object_key c.class)) || is_some (holder d.class))

abbrev are_steady : List Column → Bool
are_steady [] = true
are_steady (c ∷ cs) = is_steady c cs && are_steady cs

rows_are_steady : (k : Kind) → are_steady (row k).columns ≡ true
rows_are_steady = of_each (λ k. are_steady (row k).columns) refl refl

-- of a node whose `value` is marked: only the first field may hold a `value`
abbrev later_mark_nothing : Bool → List Column → Bool
later_mark_nothing marked [] = true
later_mark_nothing marked (c ∷ cs) = list_all (marks_nothing marked) cs

rows_mark_first : (marked : Bool) (k : Kind) → later_mark_nothing marked (row k).columns ≡ true
rows_mark_first true = of_each (λ k. later_mark_nothing true (row k).columns) refl refl
rows_mark_first false = of_each (λ k. later_mark_nothing false (row k).columns) refl refl

-- the mark of a first field that is a `value`
abbrev own_marks : Bool → Parts → List Column → List (List Part)
own_marks marked (atom a more) (c ∷ cs) = map (λ m. key c.key ∷ m) (atom_meaning marked c.class a).marks
own_marks marked _ _ = []

atom_unmarked : (marked : Bool) (class : FieldClass) (a : Atom) → (marked && is_value_class class) ≡ false
    → (atom_meaning marked class a).marks ≡ []
atom_unmarked marked class empty h = ap (λ b. (null_meaning b).marks) h
atom_unmarked marked class a h = refl

abbrev FirstIsUnmarked : List Field → Type 0
FirstIsUnmarked [] = Unit {0}
FirstIsUnmarked (g ∷ more) = g.meaning.marks ≡ []

held_marks : (outer : List ℕ) (f : Field) (rest : List Field) → f.meaning.marks ≡ [] → FirstIsUnmarked rest
    → field_marks (held_field outer f rest) ≡ field_marks rest
held_marks outer f [] e h = refl
held_marks outer f (g ∷ more) e h = rw (e, h) refl

next_marks : (rest : List Field) → FirstIsUnmarked rest → field_marks (without_next rest) ≡ field_marks rest
next_marks [] h = refl
next_marks (g ∷ more) h = rw h refl

module _ (marked : Bool) (k : List ℕ) (mode : Mode) (inner : Bool) (mark : Mark) (omit : Bool) where
  abbrev marked_column : FieldClass → Column
  marked_column class = record { key = k; class = class; mode = mode; inside = inner; mark = mark; omit = omit }

  abbrev own : FieldClass → Atom → List (List Part)
  own class a = map (λ m. key k ∷ m) (atom_meaning marked class a).marks

  no_own : (class : FieldClass) (a : Atom) (rest : List Field) → (marked && is_value_class class) ≡ false
      → own class a ++ field_marks rest ≡ field_marks rest
  no_own class a rest h = ap (λ ms. map (λ m. key k ∷ m) ms ++ field_marks rest) (atom_unmarked marked class a h)

  plain_marks : (class : FieldClass) (a : Atom) (rest : List Field) → not (omit && is_value_class class) ≡ true
      → field_marks (if omit && is_null_atom a then rest else field k (atom_meaning marked class a) ∷ rest)
      ≡ own class a ++ field_marks rest
  plain_marks class a rest h = by_test (omit && is_null_atom a) refl
    where
      shown : (omit && is_null_atom a) ≡ true → (marked && is_value_class class) ≡ false
      shown e =
          let o = (both omit (is_null_atom a) e).0 in
          let v : is_value_class class ≡ false = sym (ap (λ b. b && is_value_class class) o) ∙ not_true _ h in
          ap (λ b. marked && b) v ∙ and-false marked

      by_test : (b : Bool) → (omit && is_null_atom a) ≡ b
          → field_marks (if b then rest else field k (atom_meaning marked class a) ∷ rest) ≡ own class a ++ field_marks rest
      by_test true e = sym (no_own class a rest (shown e))
      by_test false e = refl

  put_marks : (class : FieldClass) (a : Atom) (rest : List Field) → not (omit && is_value_class class) ≡ true
      → (is_some (object_key class) ≡ true → FirstIsUnmarked rest)
      → field_marks (put_field marked (marked_column class) a rest) ≡ own class a ++ field_marks rest
  put_marks Pattern a rest h first = by_test (is_null_atom a) ∙ sym (no_own Pattern a rest (and-false marked))
    where
      by_test : (b : Bool) → field_marks (if b then without_next rest else held_field (codes "regex") (field k (atom_meaning marked Pattern a)) rest)
          ≡ field_marks rest
      by_test true = next_marks rest (first refl)
      by_test false = held_marks (codes "regex") (field k (atom_meaning marked Pattern a)) rest (atom_unmarked marked Pattern a (and-false marked)) (first refl)
  put_marks Raw a rest h first =
      held_marks (codes "value") (field k (atom_meaning marked Raw a)) rest (atom_unmarked marked Raw a (and-false marked)) (first refl)
      ∙ sym (no_own Raw a rest (and-false marked))
  put_marks class a rest h first = plain_marks class a rest h

-- what the lemmas ask of columns
record Ready (marked : Bool) (cs : List Column) : Type 0 where
  paired : are_paired cs ≡ true
  steady : are_steady cs ≡ true
  later : later_mark_nothing marked cs ≡ true

later_of_all : (marked : Bool) (cs : List Column) → list_all (marks_nothing marked) cs ≡ true → later_mark_nothing marked cs ≡ true
later_of_all marked [] h = refl
later_of_all marked (c ∷ cs) h = (both (marks_nothing marked c) _ h).1

ready_rest : (marked : Bool) (c : Column) (cs : List Column) → Ready marked (c ∷ cs) → Ready marked cs
ready_rest marked c cs r = record {
  paired = (both (has_next c.class cs) (are_paired cs) r.paired).1;
  steady = (both (is_steady c cs) (are_steady cs) r.steady).1;
  later = later_of_all marked cs r.later;
}

value_shown : (c : Column) (cs : List Column) → is_steady c cs ≡ true → not (c.omit && is_value_class c.class) ≡ true
value_shown c [] h = h
value_shown c (d ∷ ds) h = (both (not (c.omit && is_value_class c.class)) _ h).0

-- the first of these fields is that of a column that holds no node, and so isn't marked
first_unmarked : (marked : Bool) (ps : Parts) (d : Column) (ds : List Column) → FitFields ps (d ∷ ds) → is_always d ≡ true
    → is_some (holder d.class) ≡ true → marks_nothing marked d ≡ true → FirstIsUnmarked (field_meanings marked ps (d ∷ ds))
first_unmarked marked done d ds f always inner quiet = absurd f
first_unmarked marked (atom b more) d ds f always inner quiet =
    rw (put_always marked d b (field_meanings marked more ds) always) (atom_unmarked marked d.class b (not_true _ quiet))
first_unmarked marked (child k s e fs more) d ds f always inner quiet = absurd (true≢false (sym inner ∙ ap is_some f.0.0))
first_unmarked marked (many items more) d ds f always inner quiet = absurd (true≢false (sym inner ∙ ap is_some f.1.0))

after_shared : (marked : Bool) (c : Column) (cs : List Column) (more : Parts) → FitFields more cs → Ready marked (c ∷ cs)
    → is_some (object_key c.class) ≡ true → FirstIsUnmarked (field_meanings marked more cs)
after_shared marked c [] done f r shared = tt
after_shared marked c [] (atom a more) f r shared = absurd f
after_shared marked c [] (child k s e fs more) f r shared = absurd f
after_shared marked c [] (many items more) f r shared = absurd f
after_shared marked c (d ∷ ds) more f r shared =
    let p = (both (has_next c.class (d ∷ ds)) (are_paired (d ∷ ds)) r.paired).0 in
    let s = (both (not (c.omit && is_value_class c.class)) _ (both (is_steady c (d ∷ ds)) (are_steady (d ∷ ds)) r.steady).0).1 in
    first_unmarked marked more d ds f (sym (ap (λ b. not b || is_always d) shared) ∙ p)
    (sym (ap (λ b. not b || is_some (holder d.class)) shared) ∙ s) (both (marks_nothing marked d) _ r.later).0

no_own_marks : (marked : Bool) (ps : Parts) (cs : List Column) → list_all (marks_nothing marked) cs ≡ true → own_marks marked ps cs ≡ []
no_own_marks marked (atom a more) (c ∷ cs) h =
    ap (map (λ m. key c.key ∷ m)) (atom_unmarked marked c.class a (not_true _ (both (marks_nothing marked c) _ h).0))
no_own_marks marked _ _ h = refl

-- a literal that has a value is one that JSON can hold
holds_value : (a : Atom) (p q : Parts) → elim (with_value a p q) [ case.RegExp ↦ true | case.BigInt ↦ true | _ ↦ false ] ≡ false
unfolding with_value
holds_value (units u) (atom empty x) (atom empty y) = refl
holds_value (flag b) (atom empty x) (atom empty y) = refl
holds_value (whole n) (atom empty x) (atom empty y) = refl
holds_value _ _ _ = refl

fixed_marks : (fs : Parts) → is_fixed fs ≡ true → own_marks true fs (row Literal).columns ≡ to_value [] ∷ []
unfolding is_fixed case_of case_from
fixed_marks done e = absurd (true≢false (sym e))
fixed_marks (atom empty more) e = refl
fixed_marks (atom (flag b) more) e = absurd (true≢false (sym e ∙ holds_value (flag b) _ _))
fixed_marks (atom (word n) more) e = absurd (true≢false (sym e ∙ holds_value (word n) _ _))
fixed_marks (atom (text t) more) e = absurd (true≢false (sym e ∙ holds_value (text t) _ _))
fixed_marks (atom (units t) more) e = absurd (true≢false (sym e ∙ holds_value (units t) _ _))
fixed_marks (atom (whole n) more) e = absurd (true≢false (sym e ∙ holds_value (whole n) _ _))
fixed_marks (child k s t fs more) e = absurd (true≢false (sym e))
fixed_marks (many items more) e = absurd (true≢false (sym e))

-- a node's `value` is marked where the node is a literal that JSON can't hold
is_value_marked : (k : Kind) (fs : Parts) → is_marked k fs ≡ true → own_marks true fs (row k).columns ≡ to_value [] ∷ []
unfolding is_marked
is_value_marked Literal fs h = fixed_marks fs h
is_value_marked _ fs h = absurd (true≢false (sym h))

all_quiet : (cs : List Column) → list_all (marks_nothing false) cs ≡ true
all_quiet [] = refl
all_quiet (c ∷ cs) = all_quiet cs

-- what is marked in a value under a key, and in what stands behind it
under : (p : Part) (ms rest here later : List (List Part)) → ms ≡ map to_value here → rest ≡ map to_value later
    → map (λ m. p ∷ m) ms ++ rest ≡ map to_value (map (λ m. p ∷ m) here ++ later)
under p ms rest here later e f =
    rw (e, f) (sym (to_value-append (map (λ m. p ∷ m) here) later ∙ ap (λ xs. xs ++ map to_value later) (to_value-under p here)))

abbrev FieldsMarked : Parts → Type 0
FieldsMarked ps = (marked : Bool) (cs : List Column) → FitFields ps cs → Ready marked cs
    → field_marks (field_meanings marked ps cs) ≡ own_marks marked ps cs ++ map to_value (fields_paths ps cs)

node_marks : (k : Kind) (s e : ℕ) (fs : Parts) → FitFields fs (row k).columns → FieldsMarked fs
    → (node_of k s e (field_meanings (is_marked k fs) fs (row k).columns)).marks ≡ map to_value (own_path k fs ++ fields_paths fs (row k).columns)
node_marks k s e fs f h = by_test (is_marked k fs) refl
  where
    ready : (marked : Bool) → Ready marked (row k).columns
    ready marked = record { paired = rows_are_paired k; steady = rows_are_steady k; later = rows_mark_first marked k }

    by_test : (b : Bool) → is_marked k fs ≡ b
        → field_marks (field_meanings b fs (row k).columns)
        ≡ map to_value ((if b then [] ∷ [] else []) ++ fields_paths fs (row k).columns)
    by_test true e = h true (row k).columns f (ready true) ∙ ap (λ ms. ms ++ map to_value (fields_paths fs (row k).columns)) (is_value_marked k fs e)
    by_test false e = h false (row k).columns f (ready false)
        ∙ ap (λ ms. ms ++ map to_value (fields_paths fs (row k).columns)) (no_own_marks false fs (row k).columns (all_quiet (row k).columns))

mutual
  fields_marked : (ps : Parts) → FieldsMarked ps
  fields_marked done marked cs f r = refl
  fields_marked (atom a more) marked [] f r = absurd f
  fields_marked (atom a more) marked (c ∷ cs) f r =
      put_marks marked c.key c.mode c.inside c.mark c.omit c.class a (field_meanings marked more cs)
      (value_shown c cs (both (is_steady c cs) (are_steady cs) r.steady).0) (after_shared marked c cs more f.2 r)
      ∙ ap (λ ms. own_marks marked (atom a more) (c ∷ cs) ++ ms) (fields_marked more marked cs f.2 (ready_rest marked c cs r)
      ∙ ap (λ ms. ms ++ map to_value (fields_paths more cs)) (no_own_marks marked more cs r.later))
  fields_marked (child k s e fs more) marked [] f r = absurd f
  fields_marked (child k s e fs more) marked (c ∷ cs) f r =
      under (key c.key) _ _ _ _ (node_marks k s e fs f.2 (fields_marked fs)) (fields_marked more marked cs f.3 (ready_rest marked c cs r)
      ∙ ap (λ ms. ms ++ map to_value (fields_paths more cs)) (no_own_marks marked more cs r.later))
  fields_marked (many items more) marked [] f r = absurd f
  fields_marked (many items more) marked (c ∷ cs) f r =
      under (key c.key) _ _ _ _ (items_marked items 0 f.0 f.2) (fields_marked more marked cs f.3 (ready_rest marked c cs r)
      ∙ ap (λ ms. ms ++ map to_value (fields_paths more cs)) (no_own_marks marked more cs r.later))

  items_marked : (ps : Parts) (i : ℕ) (holes : Bool) → FitItems ps holes → element_marks i (item_meanings ps) ≡ map to_value (items_paths ps i)
  items_marked done i holes f = refl
  items_marked (atom a more) i holes f = items_marked more (suc i) holes f.2
  items_marked (child k s e fs more) i holes f =
      under (index i) _ _ _ _ (node_marks k s e fs f.1 (fields_marked fs)) (items_marked more (suc i) holes f.2)
  items_marked (many items more) i holes f = absurd f

printed_marks : (t : Tree) → Fits t → (node_meaning t).marks ≡ map to_value (fix_paths t)
printed_marks t f = node_marks t.kind t.start t.stop t.fields f.1 (fields_marked t.fields)

abbrev meaning : Json → List (List Part) → Meaning
meaning v ms = record { value = v; marks = ms }

same_meaning : (m n : Meaning) → m.value ≡ n.value → m.marks ≡ n.marks → m ≡ n
same_meaning m n e f = ap (λ v. meaning v m.marks) e ∙ ap (meaning n.value) f

-- what is printed of a program
pub printed_meaning : (t : Tree) → tree_of (value_of t) ≡ Some t → node_meaning t ≡ meaning_of t
printed_meaning t e = same_meaning _ _ (printed_value t) (printed_marks t (tree_fits (value_of t) t e))
