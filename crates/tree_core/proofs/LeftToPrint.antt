-- What is left to print, from one field or item to the next.
use Rattle.std.proofs.Common.{◌≡◌, ℕ, zero, suc, ◌+◌, ◌<◌, ◌≤◌, List, [], ◌∷◌, ◌++◌, Bool, Bor, true, false, not, ◌&&◌, ◌||◌, Option, Some, None, is_some, option_map, if◌then◌else◌, map, drop, length, slice_get, refl, sym, ap, subst, ◌∙◌, ◌⊎◌, inl, inr, get_or, arith, true≢false, add-one, IfSome}
use Rattle.std.specs.List.{list_all}
use Rattle.std.proofs.Math.Bool.{and-false}
use Rattle.std.proofs.lemmas.List.{drop_all}
use Rattle.json_text.specs.Units.{units_of}
use Rattle.json_text.proofs.Units.{units_of-text_of_units}
use Rattle.oxc_estree.specs.Open.{Field, OpenStruct, add_element, add_field, add_fields, closed, new_struct, object_of}
use Rattle.oxc_estree.specs.Out.{Out, wrote}
use Rattle.oxc_estree.specs.Refused.{IsCutShort}
use Rattle.oxc_estree.proofs.Growth.{Grows-add_fields, Grows-refl, cut_short_after}
use Rattle.oxc_estree.proofs.ListUnderWay.{IsListUnderWay, element_refused, element_written}
use Rattle.oxc_estree.proofs.StructUnderWay.{IsStructUnderWay, fields_refused, fields_written, struct_begins}
use Rattle.tree_nodes.specs.Look.{are_items, item_at, onto, part_at, part_size, parts_len, past}
use Rattle.tree_core.specs.Meanings.{are_paired, field, field_meanings, has_next, head_fields, inside, inside_list, is_always, is_left_out, item_meaning, item_meanings, node_meaning, object_key, part_meaning, put_field, shared_field, shared_key, single_field, atom_meaning}
use Rattle.tree_nodes.specs.Rows.{column_of}
use Rattle.tree_nodes.specs.Table.{Column, Row, row, word_list}
use Rattle.tree_nodes.specs.Tree.{Atom, Parts, Tree, atom, child, done, empty, is_empty, many}
use Rattle.tree_core.specs.Values.{is_marked, is_null_atom, word_text}
use Rattle.tree_nodes.specs.Views.{item_of, part_of}
use Rattle.tree_nodes.specs.declared.kind.Kind.{Kind}
use Rattle.tree_nodes.specs.declared.node.Field.{Field as NodeField}
use Rattle.tree_nodes.specs.declared.table.Class.{Class as FieldClass}
use Rattle.tree_nodes.specs.declared.table.Column.{Column as RowColumn}
use Rattle.tree_nodes.specs.declared.table.Class.TheVariants.{Pattern, Raw, Word}
use Rattle.tree_nodes.specs.declared.table.Mark.{Mark}
use Rattle.tree_nodes.specs.declared.table.Mode.{Mode}
use Rattle.tree_core.specs.Readable.{is_ascii}
use Rattle.tree_core.proofs.AsciiTexts.{text_of_ascii}
use Rattle.tree_nodes.proofs.Cases.{both, none_some, not_true, some_same}
use Rattle.tree_core.proofs.FieldClasses.{is_empty-atom}
use Rattle.tree_nodes.proofs.EachKind.{of_each}
use Rattle.tree_nodes.proofs.Lists.{past_end, past_item, past_len}
use Rattle.tree_core.proofs.RowFacts.{ascii_words}

-- in each row a field that shares its object stands before one that does so with no other
pub rows_are_paired : (k : Kind) → are_paired (row k).columns ≡ true
rows_are_paired = of_each (λ k. are_paired (row k).columns) refl refl

-- ---- a node

-- a refusal after these fields
pub refused_after_fields : {p n : Out} (s : OpenStruct) (fs : List Field) (full : Out → Out) → p ≡ (add_fields s fs).out
    → IsCutShort p n (full p) → IsCutShort s.out n (full (add_fields s fs).out)
refused_after_fields {p} {n} s fs full e h =
    cut_short_after (Grows-add_fields s fs) (subst (λ (x : Out). IsCutShort x n (full x)) e h)

pub head_written : {o p : Out} (name : List ℕ) (s e : ℕ) (fs : List Field)
    → p ≡ (add_fields (new_struct o) (head_fields name s e)).out
    → IsStructUnderWay o (inside false p) fs (wrote o (object_of (head_fields name s e ++ fs)))
head_written {o} {p} name s e fs h =
    fields_written (λ _. head_fields name s e) (struct_begins (head_fields name s e ++ fs) refl) (ap (inside false) h)

pub head_refused : {o n : Out} (name : List ℕ) (s e : ℕ) (fs : List Field)
    → IsCutShort o n (add_fields (new_struct o) (head_fields name s e)).out
    → IsCutShort o n (wrote o (object_of (head_fields name s e ++ fs)))
head_refused {o} {n} name s e fs h =
    fields_refused (λ _. head_fields name s e) fs (struct_begins (head_fields name s e ++ fs) refl) h

pub node_refused : {o n : Out} (r : Row) (t : Tree) → r ≡ row t.kind
    → IsCutShort o n (add_fields (new_struct o) (head_fields r.name t.start t.stop)).out → IsCutShort o n (wrote o (node_meaning t))
node_refused {o} {n} r t e h =
    head_refused (row t.kind).name t.start t.stop (field_meanings (is_marked t.kind t.fields) t.fields (row t.kind).columns) (rw e at h)

pub node_under_way : {o p : Out} (r : Row) (t : Tree) → r ≡ row t.kind
    → p ≡ (add_fields (new_struct o) (head_fields r.name t.start t.stop)).out
    → IsStructUnderWay o (inside false p) (field_meanings (is_marked t.kind t.fields) t.fields r.columns) (wrote o (node_meaning t))
node_under_way {o} {p} r t e h =
    rw e (head_written (row t.kind).name t.start t.stop (field_meanings (is_marked t.kind t.fields) t.fields (row t.kind).columns) (rw e at h))

-- ---- one field

module _ (marked : Bool) (k : List ℕ) (mode : Mode) (inner : Bool) (mark : Mark) (omit : Bool) where
  abbrev column : FieldClass → Column
  column class = record { key = k; class = class; mode = mode; inside = inner; mark = mark; omit = omit }

  single : (class : FieldClass) (a : Atom) (rest : List Field)
      → (if omit && is_null_atom a then rest else field k (atom_meaning marked class a) ∷ rest)
      ≡ single_field marked (column class) (atom a done) ++ rest
  single class a rest = by_test (omit && is_null_atom a)
      ∙ ap (λ b. (if omit && b then [] else field k (atom_meaning marked class a) ∷ []) ++ rest) (sym (is_empty-atom a done))
    where
      by_test : (b : Bool) → (if b then rest else field k (atom_meaning marked class a) ∷ rest)
          ≡ (if b then [] else field k (atom_meaning marked class a) ∷ []) ++ rest
      by_test true = refl
      by_test false = refl

  put_single : (class : FieldClass) (a : Atom) (rest : List Field) → object_key class ≡ None
      → put_field marked (column class) a rest ≡ single_field marked (column class) (atom a done) ++ rest
  put_single Pattern a rest h = none_some _ (sym h)
  put_single Raw a rest h = none_some _ (sym h)
  put_single class a rest h = single class a rest

  put_shared : (class : FieldClass) (a : Atom) (outer : List ℕ) (g : Field) (rest : List Field) → object_key class ≡ Some outer
      → put_field marked (column class) a (g ∷ rest)
      ≡ (if is_left_out class (atom a done) then [] else field outer (object_of (field k (atom_meaning marked class a) ∷ g ∷ [])) ∷ []) ++ rest
  put_shared Pattern a outer g rest h =
      ap (λ o. if is_null_atom a then rest else field o (object_of (field k (atom_meaning marked Pattern a) ∷ g ∷ [])) ∷ rest) (some_same _ outer h)
      ∙ by_test (is_null_atom a)
      ∙ ap (λ b. (if b then [] else field outer (object_of (field k (atom_meaning marked Pattern a) ∷ g ∷ [])) ∷ []) ++ rest) (sym (is_empty-atom a done))
    where
      by_test : (b : Bool) → (if b then rest else field outer (object_of (field k (atom_meaning marked Pattern a) ∷ g ∷ [])) ∷ rest)
          ≡ (if b then [] else field outer (object_of (field k (atom_meaning marked Pattern a) ∷ g ∷ [])) ∷ []) ++ rest
      by_test true = refl
      by_test false = refl
  put_shared Raw a outer g rest h =
      ap (λ o. field o (object_of (field k (atom_meaning marked Raw a) ∷ g ∷ [])) ∷ rest) (some_same _ outer h)
  put_shared _ a outer g rest h = none_some outer h

  -- a field that has nothing behind it
  put_last : (class : FieldClass) (a : Atom) (outer : List ℕ) → object_key class ≡ Some outer → put_field marked (column class) a [] ≡ []
  put_last Pattern empty outer h = refl
  put_last Pattern a outer h = refl
  put_last Raw a outer h = refl
  put_last _ a outer h = none_some outer h

-- ---- from a field to the next

no_columns : (marked : Bool) (ps : Parts) → field_meanings marked ps [] ≡ []
no_columns marked done = refl
no_columns marked (atom a rest) = refl
no_columns marked (child k s e fs rest) = refl
no_columns marked (many items rest) = refl

is_none : {A : Type 0} (o : Option A) → is_some o ≡ false → o ≡ None
is_none None e = refl
is_none (Some a) e = absurd (true≢false e)

single_next : (marked : Bool) (c : Column) (cs : List Column) (ps : Parts) (i : ℕ) (p : Parts) → part_at ps i ≡ Some p
    → shared_key c.class p ≡ None
    → field_meanings marked (past i ps) (c ∷ cs) ≡ single_field marked c p ++ field_meanings marked (past (suc i) ps) cs
single_next marked c cs done i p e h = none_some p e
single_next marked c cs (atom a rest) zero p e h =
    let same : atom a done ≡ p = cc in
    let key : object_key c.class ≡ None = rw (← same) at h in
    rw (← same) (put_single marked c.key c.mode c.inside c.mark c.omit c.class a (field_meanings marked rest cs) key)
single_next marked c cs (atom a rest) (suc i) p e h = single_next marked c cs rest i p e h
single_next marked c cs (child k s t fs rest) zero p e h =
    let same : child k s t fs done ≡ p = cc in
    rw (← same, and-false) refl
single_next marked c cs (child k s t fs rest) (suc i) p e h = single_next marked c cs rest i p e h
single_next marked c cs (many items rest) zero p e h =
    let same : many items done ≡ p = cc in
    rw (← same, and-false) refl
single_next marked c cs (many items rest) (suc i) p e h = single_next marked c cs rest i p e h

abbrev pub first : {A : Type 0} → List A → Option A
first [] = None
first (x ∷ xs) = Some x

abbrev pub rest : {A : Type 0} → List A → List A
rest [] = []
rest (x ∷ xs) = xs

-- a field that is always printed
pub put_always : (marked : Bool) (d : Column) (b : Atom) (m : List Field) → is_always d ≡ true
    → put_field marked d b m ≡ field d.key (atom_meaning marked d.class b) ∷ m
put_always marked d b m always =
    let parts = both (not d.omit) _ always in
    put_single marked d.key d.mode d.inside d.mark d.omit d.class b m (is_none _ (not_true _ parts.1))
    ∙ ap (λ o. (if o && is_empty (atom b done) then [] else field d.key (atom_meaning marked d.class b) ∷ []) ++ m) (not_true d.omit parts.0)

shared_first : (marked : Bool) (c : Column) (cs : List Column) (a : Atom) (more : Parts) (outer : List ℕ)
    → object_key c.class ≡ Some outer → has_next c.class cs ≡ true
    → put_field marked c a (field_meanings marked more cs)
    ≡ shared_field marked outer c (atom a done) (first cs) (part_at more 0) ++ field_meanings marked (past 1 more) (rest cs)
shared_first marked c [] a more outer key n =
    ap (put_field marked c a) (no_columns marked more) ∙ put_last marked c.key c.mode c.inside c.mark c.omit c.class a outer key
    ∙ sym (no_columns marked (past 1 more))
shared_first marked c (d ∷ ds) a done outer key n = put_last marked c.key c.mode c.inside c.mark c.omit c.class a outer key
shared_first marked c (d ∷ ds) a (atom b more) outer key n =
    let always : is_always d ≡ true = sym (ap (λ o. not (is_some o) || is_always d) key) ∙ n in
    let m = field_meanings marked more ds in
    let g = field d.key (atom_meaning marked d.class b) in
    let next : put_field marked d b m ≡ g ∷ m = put_always marked d b m always in
    ap (put_field marked c a) next ∙ put_shared marked c.key c.mode c.inside c.mark c.omit c.class a outer g m key
shared_first marked c (d ∷ ds) a (child k s e fs more) outer key n =
    put_shared marked c.key c.mode c.inside c.mark c.omit c.class a outer
    (field d.key (part_meaning marked d.class (child k s e fs done))) (field_meanings marked more ds) key
shared_first marked c (d ∷ ds) a (many items more) outer key n =
    put_shared marked c.key c.mode c.inside c.mark c.omit c.class a outer
    (field d.key (part_meaning marked d.class (many items done))) (field_meanings marked more ds) key

shared_next : (marked : Bool) (c : Column) (cs : List Column) (ps : Parts) (i : ℕ) (p : Parts) (outer : List ℕ)
    → part_at ps i ≡ Some p → shared_key c.class p ≡ Some outer → has_next c.class cs ≡ true
    → field_meanings marked (past i ps) (c ∷ cs)
    ≡ shared_field marked outer c p (first cs) (part_at ps (suc i)) ++ field_meanings marked (past (suc (suc i)) ps) (rest cs)
shared_next marked c cs done i p outer e h n = none_some p e
shared_next marked c cs (atom a rest) zero p outer e h n =
    let same : atom a done ≡ p = cc in
    let key : object_key c.class ≡ Some outer = rw (← same) at h in
    rw (← same) (shared_first marked c cs a rest outer key n)
shared_next marked c cs (atom a rest) (suc i) p outer e h n = shared_next marked c cs rest i p outer e h n
shared_next marked c cs (child k s t fs rest) zero p outer e h n =
    let same : child k s t fs done ≡ p = cc in
    none_some outer (rw (← same) at h)
shared_next marked c cs (child k s t fs rest) (suc i) p outer e h n = shared_next marked c cs rest i p outer e h n
shared_next marked c cs (many items rest) zero p outer e h n =
    let same : many items done ≡ p = cc in
    none_some outer (rw (← same) at h)
shared_next marked c cs (many items rest) (suc i) p outer e h n = shared_next marked c cs rest i p outer e h n

-- how large the next field is, where there is one
abbrev pub next_size : Option (Bor NodeField) → ℕ
next_size None = 0
next_size (Some f) = part_size (part_of f.now)

pub next_falls : (r : Option (Bor NodeField)) (n : ℕ) → 0 < n → IfSome r (λ f. part_size (part_of f.now) < n) → next_size r < n
next_falls None n h i = h
next_falls (Some f) n h i = i

-- ---- a loop along the fields

-- a struct that has a field is one with fields before what comes
still_inside : (fs : List Field) (o : Out) → add_fields (inside false o) fs ≡ inside false (add_fields (inside false o) fs).out
still_inside [] o = refl
still_inside (f ∷ fs) o = still_inside fs (add_field (inside false o) f.name f.meaning).out

-- which fields are left past the first i, and that full is made once they are written
pub record FieldsLeft (marked : Bool) (fields : Parts) (columns : List RowColumn) (i : ℕ) (old now full : Out) : Type 0 where
  pub paired : are_paired (map column_of (drop i columns)) ≡ true
  pub under_way : IsStructUnderWay old (inside false now) (field_meanings marked (past i fields) (map column_of (drop i columns))) full

abbrev left : Bool → Parts → List RowColumn → ℕ → List Field
left marked fields columns i = field_meanings marked (past i fields) (map column_of (drop i columns))

pub fields_begin : (marked : Bool) (fields : Parts) (columns : List RowColumn) (o : Out)
    → are_paired (map column_of columns) ≡ true
    → FieldsLeft marked fields columns 0 o o (closed (add_fields (inside false o) (field_meanings marked fields (map column_of columns))))
fields_begin marked fields columns o e = record { paired = e; under_way = record { grown = Grows-refl o; ends = refl } }

-- a step that writes the fields fs
module _ {marked : Bool} {fields : Parts} {columns : List RowColumn} {i : ℕ} {old now full : Out} (l : FieldsLeft marked fields columns i old now full)
    (fs : List Field) (j : ℕ) (same : left marked fields columns i ≡ fs ++ left marked fields columns j) where
  from_here : IsStructUnderWay old (inside false now) (fs ++ left marked fields columns j) full
  from_here = rw same at l.under_way

  step : {new : Out} → are_paired (map column_of (drop j columns)) ≡ true → new ≡ (add_fields (inside false now) fs).out
      → FieldsLeft marked fields columns j old new full
  step {new} paired e = record {
    paired = paired;
    under_way = fields_written (λ _. fs) from_here (ap (inside false) e ∙ sym (still_inside fs now));
  }

  refused : {new : Out} → IsCutShort now new (add_fields (inside false now) fs).out → IsCutShort old new full
  refused h = fields_refused (λ _. fs) (left marked fields columns j) from_here h

abbrev next_column : (c : RowColumn) (columns : List RowColumn) (i : ℕ) → Type 0
next_column c columns i = drop i columns ≡ c ∷ drop (i + 1) columns

single_left : (marked : Bool) (fields : Parts) (columns : List RowColumn) (i : ℕ) (c : RowColumn) (p : Parts)
    → part_at fields i ≡ Some p → next_column c columns i → shared_key c.class p ≡ None
    → left marked fields columns i ≡ single_field marked (column_of c) p ++ left marked fields columns (i + 1)
single_left marked fields columns i c p found here alone =
    ap (λ cs. field_meanings marked (past i fields) (map column_of cs)) here
    ∙ single_next marked (column_of c) (map column_of (drop (i + 1) columns)) fields i p found alone
    ∙ ap (λ j. single_field marked (column_of c) p ++ field_meanings marked (past j fields) (map column_of (drop (i + 1) columns))) (sym (add-one i))

first_at : (columns : List RowColumn) (j : ℕ) → first (map column_of (drop j columns)) ≡ option_map column_of (slice_get columns j)
first_at [] zero = refl
first_at [] (suc j) = refl
first_at (c ∷ columns) zero = refl
first_at (c ∷ columns) (suc j) = first_at columns j

rest_at : (columns : List RowColumn) (j : ℕ) → rest (map column_of (drop j columns)) ≡ map column_of (drop (suc j) columns)
rest_at [] zero = refl
rest_at [] (suc j) = refl
rest_at (c ∷ columns) zero = refl
rest_at (c ∷ columns) (suc j) = rest_at columns j

paired_rest : (cs : List Column) → are_paired cs ≡ true → are_paired (rest cs) ≡ true
paired_rest [] e = e
paired_rest (c ∷ cs) e = (both (has_next c.class cs) (are_paired cs) e).1

shared_left : (marked : Bool) (fields : Parts) (columns : List RowColumn) (i : ℕ) (c : RowColumn) (p : Parts) (outer : List ℕ)
    → part_at fields i ≡ Some p → next_column c columns i → shared_key c.class p ≡ Some outer
    → are_paired (map column_of (drop i columns)) ≡ true
    → left marked fields columns i
    ≡ shared_field marked outer (column_of c) p (option_map column_of (slice_get columns (i + 1))) (part_at fields (i + 1))
    ++ left marked fields columns (i + 2)
shared_left marked fields columns i c p outer found here shared paired =
    let k = column_of c in
    let cs = map column_of (drop (i + 1) columns) in
    let at : are_paired (k ∷ cs) ≡ true = ap (λ xs. are_paired (map column_of xs)) (sym here) ∙ paired in
    let two : suc (suc i) ≡ i + 2 = omega arith in
    let after : rest cs ≡ map column_of (drop (i + 2) columns) =
    rest_at columns (i + 1) ∙ ap (λ j. map column_of (drop j columns)) (ap suc (add-one i) ∙ two) in
    ap (λ xs. field_meanings marked (past i fields) (map column_of xs)) here
    ∙ shared_next marked k cs fields i p outer found shared (both (has_next k.class cs) (are_paired cs) at).0
    ∙ ap (λ d. shared_field marked outer k p d (part_at fields (suc i)) ++ field_meanings marked (past (suc (suc i)) fields) (rest cs)) (first_at columns (i + 1))
    ∙ ap (λ j. shared_field marked outer k p (option_map column_of (slice_get columns (i + 1))) (part_at fields j) ++ field_meanings marked (past (suc (suc i)) fields) (rest cs)) (sym (add-one i))
    ∙ ap (λ xs. shared_field marked outer k p (option_map column_of (slice_get columns (i + 1))) (part_at fields (i + 1)) ++ field_meanings marked (past (suc (suc i)) fields) xs) after
    ∙ ap (λ j. shared_field marked outer k p (option_map column_of (slice_get columns (i + 1))) (part_at fields (i + 1)) ++ field_meanings marked (past j fields) (map column_of (drop (i + 2) columns))) two

paired_next : (columns : List RowColumn) (i : ℕ) (c : RowColumn) → next_column c columns i
    → are_paired (map column_of (drop i columns)) ≡ true → are_paired (map column_of (drop (i + 1) columns)) ≡ true
paired_next columns i c here e =
    (both (has_next c.class (map column_of (drop (i + 1) columns))) _ (ap (λ xs. are_paired (map column_of xs)) (sym here) ∙ e)).1

paired_past : (columns : List RowColumn) (i : ℕ) (c : RowColumn) → next_column c columns i
    → are_paired (map column_of (drop i columns)) ≡ true → are_paired (map column_of (drop (i + 2) columns)) ≡ true
paired_past columns i c here e =
    let two : suc (i + 1) ≡ i + 2 = omega arith in
    ap (λ j. are_paired (map column_of (drop j columns))) (sym two) ∙ ap are_paired (sym (rest_at columns (i + 1)))
    ∙ paired_rest (map column_of (drop (i + 1) columns)) (paired_next columns i c here e)

-- the steps of the loop: of a field of its own, and of two in one object
module _ {marked : Bool} {fields : Parts} {columns : List RowColumn} {i : ℕ} {old now full : Out} (l : FieldsLeft marked fields columns i old now full)
    (c : RowColumn) (p : Parts) (found : part_at fields i ≡ Some p) (here : next_column c columns i) where
  pub single_written : {new : Out} → shared_key c.class p ≡ None
      → new ≡ (add_fields (inside false now) (single_field marked (column_of c) p)).out
      → FieldsLeft marked fields columns (i + 1) old new full
  single_written alone e = step l (single_field marked (column_of c) p) (i + 1) (single_left marked fields columns i c p found here alone)
      (paired_next columns i c here l.paired) e

  pub single_refused : {new : Out} → shared_key c.class p ≡ None
      → IsCutShort now new (add_fields (inside false now) (single_field marked (column_of c) p)).out → IsCutShort old new full
  single_refused alone h = refused l (single_field marked (column_of c) p) (i + 1) (single_left marked fields columns i c p found here alone) h

  -- d and q are the next column and field
  module _ (outer : List ℕ) (d : Option Column) (q : Option Parts) (k : shared_key c.class p ≡ Some outer)
      (next : d ≡ option_map column_of (slice_get columns (i + 1))) (second : q ≡ part_at fields (i + 1)) where
    abbrev shared : List Field
    shared = shared_field marked outer (column_of c) p d q

    same_left : left marked fields columns i ≡ shared ++ left marked fields columns (i + 2)
    same_left = rw (next, second) (shared_left marked fields columns i c p outer found here k l.paired)

    pub shared_written : {new : Out} → new ≡ (add_fields (inside false now) shared).out → FieldsLeft marked fields columns (i + 2) old new full
    shared_written e = step l shared (i + 2) same_left (paired_past columns i c here l.paired) e

    pub shared_refused : {new : Out} → IsCutShort now new (add_fields (inside false now) shared).out → IsCutShort old new full
    shared_refused h = refused l shared (i + 2) same_left h

-- at the end of the columns or of the fields
pub no_fields_left : {marked : Bool} {fields : Parts} {columns : List RowColumn} {i : ℕ} {old now full : Out}
    → FieldsLeft marked fields columns i old now full → (length columns ≤ i) ⊎ (part_at fields i ≡ None)
    → IsStructUnderWay old (inside false now) [] full
no_fields_left {marked} {fields} {columns} {i} l none = rw (nothing none) at l.under_way
  where
    nothing : (length columns ≤ i) ⊎ (part_at fields i ≡ None) → left marked fields columns i ≡ []
    nothing (inl h) = ap (λ xs. field_meanings marked (past i fields) (map column_of xs)) (drop_all i columns h) ∙ no_columns marked (past i fields)
    nothing (inr e) = ap (λ ps. field_meanings marked ps (map column_of (drop i columns))) (past_end fields i e)

-- ---- a loop along the items of a list

item_next : (ps : Parts) (i : ℕ) (t : Option Tree) → are_items ps ≡ true → item_at ps i ≡ Some t
    → item_meanings (past i ps) ≡ item_meaning t ∷ item_meanings (past (suc i) ps)
item_next ps i t shaped e = ap item_meanings (past_item ps i t shaped e) ∙ one t
  where
    one : (t : Option Tree) → item_meanings (onto (item_of t) (past (suc i) ps)) ≡ item_meaning t ∷ item_meanings (past (suc i) ps)
    one None = refl
    one (Some t) = refl

module _ {o full p : Out} (ps : Parts) (i : ℕ) (t : Option Tree) (shaped : are_items ps ≡ true) (e : Some t ≡ item_at ps i)
    (u : IsListUnderWay o (inside_list i p) (item_meanings (past i ps)) full) where
  item_here : IsListUnderWay o (inside_list i p) (item_meaning t ∷ item_meanings (past (suc i) ps)) full
  item_here = rw (item_next ps i t shaped (sym e)) at u

  pub item_written : {n : Out} → n ≡ (add_element (inside_list i p) (item_meaning t)).out
      → IsListUnderWay o (inside_list (i + 1) n) (item_meanings (past (i + 1) ps)) full
  item_written h = rw add-one (element_written (λ _. item_meaning t) item_here (ap (inside_list (suc i)) h))

  pub item_refused : {n : Out} → IsCutShort p n (add_element (inside_list i p) (item_meaning t)).out → IsCutShort o n full
  item_refused h = element_refused (λ _. item_meaning t) item_here h

-- an item that isn't there lies at the end
pub end_of_items : (ps : Parts) (i : ℕ) → None ≡ item_at ps i → parts_len ps ≤ i
end_of_items done i e = omega arith
end_of_items (atom a rest) zero e = none_some _ e
end_of_items (atom a rest) (suc i) e = omega (arith, end_of_items rest i e)
end_of_items (child k s t fs rest) zero e = none_some _ e
end_of_items (child k s t fs rest) (suc i) e = omega (arith, end_of_items rest i e)
end_of_items (many items rest) zero e = none_some _ e
end_of_items (many items rest) (suc i) e = omega (arith, end_of_items rest i e)

pub no_items_left : {o full p : Out} (ps : Parts) (i : ℕ) → parts_len ps ≤ i
    → IsListUnderWay o (inside_list i p) (item_meanings (past i ps)) full → IsListUnderWay o (inside_list i p) [] full
no_items_left ps i h u = rw (ap item_meanings (past_len ps i h)) at u

-- ---- words

list_at : (p : List ℕ → Bool) (words : List (List ℕ)) (n : ℕ) → p [] ≡ true → list_all p words ≡ true → p (get_or words n []) ≡ true
list_at p [] n e h = e
list_at p (w ∷ words) zero e h = (both (p w) (list_all p words) h).0
list_at p (w ∷ words) (suc n) e h = list_at p words n e (both (p w) (list_all p words) h).1

ascii_word : (class : FieldClass) (n : ℕ) → is_ascii (word_text class n) ≡ true
ascii_word (Word w) n = list_at is_ascii (word_list w) n refl (ascii_words w)
ascii_word _ n = refl

-- a word is its own code units
pub units_of-word : (class : FieldClass) (n : ℕ) → units_of (word_text class n) ≡ word_text class n
units_of-word class n = units_of-text_of_units _ _ (text_of_ascii (word_text class n) (ascii_word class n))
