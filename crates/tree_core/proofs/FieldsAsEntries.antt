-- The fields of a node that fit its columns, as entries of its object.
use Rattle.std.proofs.Common.{◌≡◌, ℕ, List, [], ◌∷◌, ◌++◌, Bool, true, false, not, ◌&&◌, ◌||◌, Option, Some, None, option_map, if◌then◌else◌, refl, sym, ap, ◌∙◌, subst, bytes_eq, true≢false, codes}
use Rattle.json_text.specs.Json.{Json, object, Members, no_members, member}
use Rattle.json_text.specs.HasText.{AreCodeUnits, HasText}
use Rattle.json_text.specs.Units.{are_code_units}
use Rattle.json_text.proofs.Units.{AreCodeUnits-are_code_units}
use Rattle.tree_nodes.specs.Look.{onto}
use Rattle.tree_core.specs.Reading.{absent, holder, is_listed, is_null_value, list_of, one, or_null, outer_key, part_from, shape_of, text_in}
use Rattle.tree_nodes.specs.Table.{Column}
use Rattle.tree_nodes.specs.Tree.{Atom, Parts, atom, child, done, empty, flag, is_empty, many, text, units, whole, word}
use Rattle.tree_core.specs.Values.{atom_value, fields_value, is_null_atom, put_member}
use Rattle.tree_nodes.specs.declared.table.Class.{Class as FieldClass}
use Rattle.tree_nodes.specs.declared.table.Class.TheVariants.{Cooked, Flags, Pattern, Raw, TextOr}
use Rattle.tree_nodes.proofs.Cases.{both, bytes_equal, bytes_same, not_true}
use Rattle.tree_core.proofs.ObjectEntries.{AreEntries, Cell, Entry, HasOptionText, IsEntry, all_columns, all_members, all_parts, columns_of, parts_of, put}
use Rattle.tree_core.proofs.FieldClasses.{Sort, is_empty-atom, key_of_class, never_takes, of_cooked, of_flags, of_pattern, of_plain, of_raw, own_key, plain_class, put_at, is_cooked-Cooked, is_flags-Flags}
use Rattle.tree_core.proofs.Fits.{FitFields, FitsAtom, FitsNext}
use Rattle.tree_core.proofs.FieldUnderKey.{part_found}
use Rattle.tree_core.proofs.RowFacts.{are_ordered, is_cooked, is_first, is_flags, is_inner, is_omittable, is_outer, takes_next}

-- of a field in the node's own object: what the table says of it and of those after it
pub record IsOuter (c : Column) (cs : List Column) : Type 0 where
  pub unlisted : is_listed c.key cs ≡ false
  pub omits : c.omit ≡ true → is_omittable c.class ≡ true
  pub text : AreCodeUnits c.key
  pub rest : are_ordered cs ≡ true

outer_from : (c : Column) (cs : List Column) → is_outer c cs ≡ true → are_ordered cs ≡ true → IsOuter c cs
outer_from c cs e o =
    let a = both (not (is_listed c.key cs)) _ e in
    let b = both (not c.omit || is_omittable c.class) (are_code_units c.key) a.1 in
    record {
      unlisted = not_true _ a.0;
      omits = λ h. sym (ap (λ x. not x || is_omittable c.class) h) ∙ b.0;
      text = AreCodeUnits-are_code_units c.key b.1;
      rest = o;
    }

pub plain_ordered : (c : Column) (cs : List Column) → holder c.class ≡ None → are_ordered (c ∷ cs) ≡ true → IsOuter c cs
plain_ordered c [] h o = outer_from c [] (sym ((plain_class c.class h).first c []) ∙ o) refl
plain_ordered c (d ∷ cs) h o =
    let p = plain_class c.class h in
    let b = both (is_first c.class c (d ∷ cs)) _ o in
    outer_from c (d ∷ cs) (sym (p.first c (d ∷ cs)) ∙ b.0)
    (sym (ap (λ x. if x then are_ordered cs else are_ordered (d ∷ cs)) p.single) ∙ b.1)

-- ---- fields as entries

-- the fields of columns, as entries
pub record Listed (ps : Parts) (cs : List Column) : Type 0 where
  pub entries : List Entry
  pub columns : all_columns entries ≡ cs
  pub parts : all_parts entries ≡ ps
  pub members : all_members entries ≡ fields_value ps cs
  pub good : AreEntries entries

pub nothing : Listed done []
nothing = record { entries = []; columns = refl; parts = refl; members = refl; good = tt }

-- an entry more
entry_more : (e : Entry) (cs all_cs : List Column) (more all : Parts) → IsEntry e → is_listed e.key cs ≡ false
    → columns_of e.cells ++ cs ≡ all_cs
    → onto (parts_of e.cells) more ≡ all → put e.key e.value (fields_value more cs) ≡ fields_value all all_cs
    → Listed more cs → Listed all all_cs
entry_more e cs all_cs more all good unlisted columns parts members l = record {
  entries = e ∷ l.entries;
  columns = ap (λ x. columns_of e.cells ++ x) l.columns ∙ columns;
  parts = ap (onto (parts_of e.cells)) l.parts ∙ parts;
  members = ap (put e.key e.value) l.members ∙ members;
  good = (good, ap (is_listed e.key) l.columns ∙ unlisted, l.good);
}

listed_first : (c : Column) (cs : List Column) (k : List ℕ) → outer_key c ≡ k → is_listed k (c ∷ cs) ≡ true
listed_first c cs k e = ap (λ x. bytes_eq x k || is_listed k cs) e ∙ ap (λ b. b || is_listed k cs) (bytes_same k)

-- a field of its own more
pub one_more : (c : Column) (cs : List Column) (p more all : Parts) (o : Option Json) → holder c.class ≡ None → IsOuter c cs
    → part_found c o ≡ Some p → HasOptionText o
    → onto (onto p done) more ≡ all → put c.key o (fields_value more cs) ≡ fields_value all (c ∷ cs) → Listed more cs
    → Listed all (c ∷ cs)
one_more c cs p more all o own outer found legible parts members l =
    let key = own_key c own in
    entry_more (record { key = c.key; value = o; cells = record { column = c; part = p } ∷ [] }) cs (c ∷ cs) more all
    (record { read = (key, found, tt); listed = listed_first c [] c.key key; key_text = outer.text; value_text = legible })
    outer.unlisted refl parts members l

-- two fields of one object more
two_more : (c d : Column) (cs : List Column) (p q more all : Parts) (k : List ℕ) (o : Option Json) → outer_key c ≡ k
    → outer_key d ≡ k → is_listed k cs ≡ false → AreCodeUnits k
    → part_found c o ≡ Some p → part_found d o ≡ Some q → HasOptionText o → onto (onto p (onto q done)) more ≡ all
    → put k o (fields_value more cs) ≡ fields_value all (c ∷ d ∷ cs)
    → Listed more cs → Listed all (c ∷ d ∷ cs)
two_more c d cs p q more all k o key_c key_d unlisted key found_c found_d legible parts members l =
    let cells : List Cell = record { column = c; part = p } ∷ record { column = d; part = q } ∷ [] in
    entry_more (record { key = k; value = o; cells = cells }) cs (c ∷ d ∷ cs) more all
    (record {
      read = (key_c, found_c, (key_d, found_d, tt));
      listed = listed_first c (d ∷ []) k key_c;
      key_text = key;
      value_text = legible;
    })
    unlisted refl parts members l

null_atom : (a : Atom) → is_null_atom a ≡ true → a ≡ empty
null_atom empty e = refl
null_atom (flag b) e = absurd (true≢false (sym e))
null_atom (word n) e = absurd (true≢false (sym e))
null_atom (text x) e = absurd (true≢false (sym e))
null_atom (units us) e = absurd (true≢false (sym e))
null_atom (whole n) e = absurd (true≢false (sym e))

omittable_absent : (class : FieldClass) → is_omittable class ≡ true → absent class ≡ Some (one empty)
omittable_absent TextOr e = refl
omittable_absent _ e = absurd (true≢false (sym e))

plain_atom : (c : Column) (cs : List Column) (a : Atom) (more : Parts) → holder c.class ≡ None → IsOuter c cs
    → FitsAtom c.class a → Listed more cs → Listed (atom a more) (c ∷ cs)
plain_atom c cs a more own outer fit l = by_test (c.omit && is_null_atom a) refl
  where
    rest : Members
    rest = fields_value more cs

    prints : (b : Bool) → (c.omit && is_null_atom a) ≡ b
        → fields_value (atom a more) (c ∷ cs) ≡ (if b then rest else member c.key (atom_value c.class a) rest)
    prints b e = (plain_class c.class own).prints c a rest ∙ ap (λ x. if x then rest else member c.key (atom_value c.class a) rest) e

    by_test : (b : Bool) → (c.omit && is_null_atom a) ≡ b → Listed (atom a more) (c ∷ cs)
    by_test true e =
        let b = both c.omit (is_null_atom a) e in
        one_more c cs (one a) more (atom a more) None own outer
        (omittable_absent c.class (outer.omits b.0) ∙ ap (λ x. Some (one x)) (sym (null_atom a b.1))) tt
        refl (sym (prints true e)) l
    by_test false e =
        let v = atom_value c.class a in
        one_more c cs (one a) more (atom a more) (Some v) own outer
        ((plain_class c.class own).reads c.key v (shape_of v) (list_of v) ∙ fit.0 (shape_of v) (list_of v)) fit.1
        refl (sym (prints false e)) l

-- ---- two fields in one object

-- what the table says of two columns whose fields lie in the object under `outer`
record ArePaired (c d : Column) (cs : List Column) (outer first second : List ℕ) : Type 0 where
  first_key : c.key ≡ first
  second_key : d.key ≡ second
  kept : d.omit ≡ false
  unlisted : is_listed outer cs ≡ false
  rest : are_ordered cs ≡ true

paired_from : (c d : Column) (cs : List Column) (outer first second : List ℕ) (b : Bool)
    → (is_inner c first && (b && (is_inner d second && not (is_listed outer cs)))) ≡ true → are_ordered cs ≡ true
    → (b ≡ true) × ArePaired c d cs outer first second
paired_from c d cs outer first second b e o =
    let f = both (is_inner c first) _ e in
    let g = both b _ f.1 in
    let h = both (is_inner d second) _ g.1 in
    let i = both (bytes_eq c.key first) _ f.0 in
    let j = both (bytes_eq d.key second) _ h.0 in (
      g.0,
      record {
        first_key = bytes_equal c.key first i.0;
        second_key = bytes_equal d.key second j.0;
        kept = not_true _ j.1;
        unlisted = not_true _ h.1;
        rest = o;
      },
    )

-- after a class that takes the next column, the others are in order
rest_ordered : (c d : Column) (cs : List Column) → takes_next c.class ≡ true → are_ordered (c ∷ d ∷ cs) ≡ true
    → are_ordered cs ≡ true
rest_ordered c d cs t o = sym (ap (λ x. if x then are_ordered cs else are_ordered (d ∷ cs)) t)
    ∙ (both (is_first c.class c (d ∷ cs)) _ o).1

pattern_ordered : (c d : Column) (cs : List Column) → c.class ≡ Pattern → are_ordered (c ∷ d ∷ cs) ≡ true
    → (d.class ≡ Flags) × ArePaired c d cs (codes "regex") (codes "pattern") (codes "flags")
pattern_ordered c d cs same o =
    let e = sym (ap (λ x. is_first x c (d ∷ cs)) same) ∙ (both (is_first c.class c (d ∷ cs)) _ o).0 in
    let p = paired_from c d cs (codes "regex") (codes "pattern") (codes "flags") (is_flags d.class) e
    (rest_ordered c d cs (ap takes_next same) o) in
    (is_flags-Flags d.class p.0, p.1)

raw_ordered : (c d : Column) (cs : List Column) → c.class ≡ Raw → are_ordered (c ∷ d ∷ cs) ≡ true
    → (d.class ≡ Cooked) × ArePaired c d cs (codes "value") (codes "raw") (codes "cooked")
raw_ordered c d cs same o =
    let e = sym (ap (λ x. is_first x c (d ∷ cs)) same) ∙ (both (is_first c.class c (d ∷ cs)) _ o).0 in
    let p = paired_from c d cs (codes "value") (codes "raw") (codes "cooked") (is_cooked d.class) e
    (rest_ordered c d cs (ap takes_next same) o) in
    (is_cooked-Cooked d.class p.0, p.1)

-- an object with two members
abbrev pair_object : List ℕ → Json → List ℕ → Json → Json
pair_object k v l w = object (member k v (member l w no_members))

pair_text : (k : List ℕ) (v : Json) (l : List ℕ) (w : Json) → are_code_units k ≡ true → HasText v
    → are_code_units l ≡ true → HasText w → HasText (pair_object k v l w)
pair_text k v l w e h f i = (AreCodeUnits-are_code_units k e, h, (AreCodeUnits-are_code_units l f, i, tt))

-- what the second of two fields prints
prints_second : (d : Column) (class : FieldClass) (b : Atom) (l : List ℕ) (more : Members) → d.class ≡ class
    → ((x : Column) → put_at class x b more ≡ (if x.omit && is_null_atom b then more else member x.key (atom_value x.class b) more))
    → d.omit ≡ false → d.key ≡ l
    → put_member d b more ≡ member l (atom_value class b) more
prints_second d class b l more same prints kept key =
    ap (λ x. put_at x d b more) same ∙ prints d
    ∙ ap (λ x. if x && is_null_atom b then more else member d.key (atom_value d.class b) more) kept
    ∙ ap (λ x. member x (atom_value d.class b) more) key ∙ ap (λ x. member l (atom_value x b) more) same

value_not_null : (class : FieldClass) (a : Atom) → is_null_atom a ≡ false → is_null_value (atom_value class a) ≡ false
value_not_null class empty e = absurd (true≢false e)
value_not_null class (flag b) e = refl
value_not_null class (word n) e = refl
value_not_null class (text x) e = refl
value_not_null class (units us) e = refl
value_not_null class (whole n) e = refl

or_null_other : (d : Json) (o : Option Parts) → is_null_value d ≡ false → or_null d o ≡ o
or_null_other d o e = rw e refl

found_at : (c : Column) (class : FieldClass) (k : List ℕ) (d : Json) → c.class ≡ class → c.key ≡ k
    → part_found c (Some d) ≡ part_from class k d (shape_of d) (list_of d)
found_at c class k d same key = ap (λ x. part_from x c.key d (shape_of d) (list_of d)) same
    ∙ ap (λ x. part_from class x d (shape_of d) (list_of d)) key

-- a pattern and flags, or none
regex_fields : (c d : Column) (cs : List Column) (a b : Atom) (more : Parts) → c.class ≡ Pattern → d.class ≡ Flags
    → ArePaired c d cs (codes "regex") (codes "pattern") (codes "flags")
    → FitsAtom Pattern a → FitsAtom Flags b → is_null_atom a ≡ is_null_atom b → Listed more cs
    → Listed (atom a (atom b more)) (c ∷ d ∷ cs)
regex_fields c d cs a b more same_c same_d p fit_a fit_b together l = by_test (is_null_atom a) refl
  where
    v : Json
    v = atom_value Pattern a

    w : Json
    w = atom_value Flags b

    rest : Members
    rest = fields_value more cs

    key_c : outer_key c ≡ codes "regex"
    key_c = key_of_class c Pattern (codes "regex") refl same_c

    key_d : outer_key d ≡ codes "regex"
    key_d = key_of_class d Flags (codes "regex") refl same_d

    both_texts : Json
    both_texts = pair_object (codes "pattern") v (codes "flags") w

    prints : (n : Bool) → is_null_atom a ≡ n
        → fields_value (atom a (atom b more)) (c ∷ d ∷ cs) ≡ (if n then rest else member (codes "regex") both_texts rest)
    prints n e =
        ap (put_member c a) (prints_second d Flags b (codes "flags") rest same_d (λ x. refl) p.kept p.second_key)
        ∙ ap (λ x. put_at x c a (member (codes "flags") w rest)) same_c
        ∙ ap (λ x. if x then rest else member (codes "regex") (pair_object c.key (atom_value c.class a) (codes "flags") w) rest) e
        ∙ ap (λ k. if n then rest else member (codes "regex") (pair_object k (atom_value c.class a) (codes "flags") w) rest) p.first_key
        ∙ ap (λ x. if n then rest else member (codes "regex") (pair_object (codes "pattern") (atom_value x a) (codes "flags") w) rest) same_c

    by_test : (n : Bool) → is_null_atom a ≡ n → Listed (atom a (atom b more)) (c ∷ d ∷ cs)
    by_test true e =
        two_more c d cs (one a) (one b) more (atom a (atom b more)) (codes "regex") None key_c key_d p.unlisted
        (AreCodeUnits-are_code_units (codes "regex") refl)
        (ap absent same_c ∙ ap (λ x. Some (one x)) (sym (null_atom a e)))
        (ap absent same_d ∙ ap (λ x. Some (one x)) (sym (null_atom b (sym together ∙ e))))
        tt refl (sym (prints true e)) l
    by_test false e =
        let not_null_v = value_not_null Pattern a e in
        let not_null_w = value_not_null Flags b (sym together ∙ e) in
        let read_a = sym (or_null_other v (option_map (λ x. one (text x)) (text_in v)) not_null_v) ∙ fit_a.0 None (λ h. None) in
        let read_b = sym (or_null_other w (option_map (λ x. one (text x)) (text_in w)) not_null_w) ∙ fit_b.0 None (λ h. None) in
        two_more c d cs (one a) (one b) more (atom a (atom b more)) (codes "regex") (Some both_texts) key_c key_d p.unlisted
        (AreCodeUnits-are_code_units (codes "regex") refl)
        (found_at c Pattern (codes "pattern") both_texts same_c p.first_key ∙ read_a)
        (found_at d Flags (codes "flags") both_texts same_d p.second_key ∙ read_b)
        (pair_text (codes "pattern") v (codes "flags") w refl fit_a.1 refl fit_b.1) refl (sym (prints false e)) l

-- raw and cooked
template_fields : (c d : Column) (cs : List Column) (a b : Atom) (more : Parts) → c.class ≡ Raw → d.class ≡ Cooked
    → ArePaired c d cs (codes "value") (codes "raw") (codes "cooked")
    → FitsAtom Raw a → FitsAtom Cooked b → Listed more cs → Listed (atom a (atom b more)) (c ∷ d ∷ cs)
template_fields c d cs a b more same_c same_d p fit_a fit_b l =
    let v = atom_value Raw a in
    let w = atom_value Cooked b in
    let o = pair_object (codes "raw") v (codes "cooked") w in
    let rest = fields_value more cs in
    let prints : fields_value (atom a (atom b more)) (c ∷ d ∷ cs) ≡ member (codes "value") o rest =
    ap (put_member c a) (prints_second d Cooked b (codes "cooked") rest same_d (λ x. refl) p.kept p.second_key)
    ∙ ap (λ x. put_at x c a (member (codes "cooked") w rest)) same_c
    ∙ ap (λ k. member (codes "value") (pair_object k (atom_value c.class a) (codes "cooked") w) rest) p.first_key
    ∙ ap (λ x. member (codes "value") (pair_object (codes "raw") (atom_value x a) (codes "cooked") w) rest) same_c in
    two_more c d cs (one a) (one b) more (atom a (atom b more)) (codes "value") (Some o)
    (key_of_class c Raw (codes "value") refl same_c) (key_of_class d Cooked (codes "value") refl same_d) p.unlisted
    (AreCodeUnits-are_code_units (codes "value") refl)
    (found_at c Raw (codes "raw") o same_c p.first_key ∙ fit_a.0 None (λ h. None))
    (found_at d Cooked (codes "cooked") o same_d p.second_key ∙ fit_b.0 None (λ h. None))
    (pair_text (codes "raw") v (codes "cooked") w refl fit_a.1 refl fit_b.1) refl (sym prints) l

-- the fields after the next one
abbrev pub Tail : Parts → List Column → Type 0
Tail (atom b more) (d ∷ cs) = are_ordered cs ≡ true → Listed more cs
Tail _ _ = Unit {0}

regex_listed : (c : Column) (cs : List Column) (a : Atom) (more : Parts) → c.class ≡ Pattern
    → are_ordered (c ∷ cs) ≡ true → FitsAtom c.class a → FitsNext c.class a more → FitFields more cs → Tail more cs
    → Listed (atom a more) (c ∷ cs)
regex_listed c [] a more same o f n fs t = absurd (true≢false (sym (sym (ap (λ x. is_first x c []) same) ∙ o)))
regex_listed c (d ∷ cs) a done same o f n fs t = absurd fs
regex_listed c (d ∷ cs) a (child k s e fields more) same o f n fs t =
    never_takes Flags (codes "regex") refl d.class (pattern_ordered c d cs same o).0 fs.0.0
regex_listed c (d ∷ cs) a (many items more) same o f n fs t =
    never_takes Flags (codes "regex") refl d.class (pattern_ordered c d cs same o).0 fs.1.0
regex_listed c (d ∷ cs) a (atom b more) same o f n fs t =
    let p = pattern_ordered c d cs same o in
    let next : is_null_atom a ≡ is_empty (atom b more) = subst (λ x. FitsNext x a (atom b more)) same n in
    regex_fields c d cs a b more same p.0 p.1 (subst (λ x. FitsAtom x a) same f) (subst (λ x. FitsAtom x b) p.0 fs.0)
    (next ∙ is_empty-atom b more) (t p.1.rest)

template_listed : (c : Column) (cs : List Column) (a : Atom) (more : Parts) → c.class ≡ Raw
    → are_ordered (c ∷ cs) ≡ true → FitsAtom c.class a → FitFields more cs → Tail more cs
    → Listed (atom a more) (c ∷ cs)
template_listed c [] a more same o f fs t = absurd (true≢false (sym (sym (ap (λ x. is_first x c []) same) ∙ o)))
template_listed c (d ∷ cs) a done same o f fs t = absurd fs
template_listed c (d ∷ cs) a (child k s e fields more) same o f fs t =
    never_takes Cooked (codes "value") refl d.class (raw_ordered c d cs same o).0 fs.0.0
template_listed c (d ∷ cs) a (many items more) same o f fs t =
    never_takes Cooked (codes "value") refl d.class (raw_ordered c d cs same o).0 fs.1.0
template_listed c (d ∷ cs) a (atom b more) same o f fs t =
    let p = raw_ordered c d cs same o in
    template_fields c d cs a b more same p.0 p.1 (subst (λ x. FitsAtom x a) same f) (subst (λ x. FitsAtom x b) p.0 fs.0)
    (t p.1.rest)

-- a class whose columns never stand first
never_first : {A : Type 0} (c : Column) (cs : List Column) (class : FieldClass)
    → ((ds : List Column) → is_first class c ds ≡ false) → c.class ≡ class → are_ordered (c ∷ cs) ≡ true → A
never_first c [] class h same o = absurd (true≢false (sym (sym (h []) ∙ sym (ap (λ x. is_first x c []) same) ∙ o)))
never_first c (d ∷ cs) class h same o =
    let first = (both (is_first c.class c (d ∷ cs)) _ o).0 in
    absurd (true≢false (sym (sym (h (d ∷ cs)) ∙ sym (ap (λ x. is_first x c (d ∷ cs)) same) ∙ first)))

pub atom_listed : (c : Column) (cs : List Column) (a : Atom) (more : Parts) → Sort c.class → are_ordered (c ∷ cs) ≡ true
    → FitsAtom c.class a → FitsNext c.class a more → FitFields more cs
    → (are_ordered cs ≡ true → Listed more cs) → Tail more cs → Listed (atom a more) (c ∷ cs)
atom_listed c cs a more (of_pattern e) o f n fs r t = regex_listed c cs a more e o f n fs t
atom_listed c cs a more (of_flags e) o f n fs r t = never_first c cs Flags (λ ds. refl) e o
atom_listed c cs a more (of_raw e) o f n fs r t = template_listed c cs a more e o f fs t
atom_listed c cs a more (of_cooked e) o f n fs r t = never_first c cs Cooked (λ ds. refl) e o
atom_listed c cs a more (of_plain h) o f n fs r t =
    let outer = plain_ordered c cs h o in
    plain_atom c cs a more h outer f (r outer.rest)
