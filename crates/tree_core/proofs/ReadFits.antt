-- What is read fits the node table.
use Rattle.std.proofs.Common.{◌≡◌, ℕ, suc, ◌+◌, ◌^◌, ◌<◌, pos, negsuc, List, [], ◌∷◌, get_or, Bool, true, false, cond, ◌&&◌, nat_lt, Option, Some, None, option_map, option_and_then, if◌then◌else◌, refl, sym, ap, ◌∙◌, subst, arith, true≢false, bytes_eq, IsUtf8, ltb-true, lt-ltb, codes}
use Rattle.std.specs.List.{list_all, position_from}
use Rattle.json_text.specs.Json.{Json, null, truth, whole as number, other_number, string, list, object, Items, no_items, item, Members, no_members, member}
use Rattle.json_text.specs.HasText.{AreCodeUnits}
use Rattle.json_text.specs.Units.{are_code_units, text_of_units, units_of}
use Rattle.json_text.proofs.Units.{text_of_units-units_of, IsUtf8-text_of_units, AreCodeUnits-units_of, AreCodeUnits-are_code_units, are_code_units-AreCodeUnits, AreCodeUnits-text_of_units}
use Rattle.syntax_lex.specs.Identifier.{is_identifier_name}
use Rattle.tree_nodes.specs.Look.{onto}
use Rattle.tree_core.specs.Reading.{absent, are_distinct, below, find_member, has_only, is_null_value, is_paired, items_from, list_of, name_part, offset_of, one, only_known, or_hole, or_null, outer_key, part_from, part_in, regex_part, row_for, run_of, shape_from, shape_of, template_part, text_in, units_in, units_in_list, value_part, word_number}
use Rattle.tree_nodes.specs.Table.{Column, Row, row, row_among, row_named, word_list}
use Rattle.tree_nodes.specs.Tree.{Atom, Parts, Tree, Text, alone, atom, child, done, empty, flag, is_empty, many, text, units, whole, word}
use Rattle.tree_nodes.specs.declared.kind.Kind.{Kind}
use Rattle.tree_nodes.specs.declared.table.Class.{Class as FieldClass}
use Rattle.tree_nodes.specs.declared.table.Class.TheVariants.{Cooked, Flag, Flags, Holes, LiteralValue, Many, ManyOr, Maybe, Name, One, Pattern, Raw, Text as TextClass, TextOr, Word}
use Rattle.tree_nodes.specs.declared.table.Words.{Words}
use Rattle.tree_core.specs.Readable.{is_ascii}
use Rattle.tree_core.proofs.AsciiTexts.{text_of_ascii}
use Rattle.tree_nodes.proofs.Cases.{both, if_some, map_some, none_some, some_same, then_some, bytes_equal}
use Rattle.tree_core.proofs.FieldUnderKey.{part_found, part_in-part_found}
use Rattle.tree_nodes.specs.Kinds.{all_kinds}
use Rattle.tree_core.proofs.FieldClasses.{is_empty-atom, is_flags-Flags, key_of_class}
use Rattle.tree_core.proofs.Fits.{FitFields, FitItems, Fits, FitsAtom, FitsNext, FitsPart, TakesList, TakesNode}
use Rattle.tree_core.proofs.RowFacts.{are_followed, ascii_words, is_followed, row_sound}
use Rattle.tree_nodes.proofs.RowNames.{row_kind}

-- ---- values that are no objects

below_bound : (bound : ℕ) (d : Json) (n : ℕ) → below bound d ≡ Some n → (d ≡ number (pos n)) × (n < bound)
below_bound bound null n e = none_some n e
below_bound bound (truth b) n e = none_some n e
below_bound bound (number (negsuc m)) n e = none_some n e
below_bound bound other_number n e = none_some n e
below_bound bound (string us) n e = none_some n e
below_bound bound (list ds) n e = none_some n e
below_bound bound (object ms) n e = none_some n e
below_bound bound (number (pos m)) n e =
    let t = if_some (nat_lt m bound) (Some m) n e in
    let same = some_same m n t.1 in
    (ap (λ k. number (pos k)) same, subst (λ k. k < bound) same (ltb-true m bound t.0))

text_in_string : (d : Json) (x : Text) → text_in d ≡ Some x
    → (us : List ℕ) × (d ≡ string us) × (text_of_units us ≡ Some x)
text_in_string null x e = none_some x e
text_in_string (truth b) x e = none_some x e
text_in_string (number n) x e = none_some x e
text_in_string other_number x e = none_some x e
text_in_string (string us) x e = (us, refl, e)
text_in_string (list ds) x e = none_some x e
text_in_string (object ms) x e = none_some x e

text_is_utf8 : (d : Json) (x : Text) → text_in d ≡ Some x → IsUtf8 x
text_is_utf8 d x e = let s = text_in_string d x e in IsUtf8-text_of_units s.0 x s.2

pub listed_units : (ds : Items) (us : List ℕ) → units_in_list ds ≡ Some us → AreCodeUnits us
listed_units no_items us e = subst AreCodeUnits (some_same [] us e) tt
listed_units (item d ds) us e =
    let a = then_some (λ u. option_map (λ vs. u ∷ vs) (units_in_list ds)) (below (2 ^ 16) d) us e in
    let b = map_some (λ vs. a.0 ∷ vs) (units_in_list ds) us a.2 in
    subst AreCodeUnits b.2 ((below_bound (2 ^ 16) d a.0 a.1).1, listed_units ds b.0 b.1)

units_are_code_units : (d : Json) (us : List ℕ) → units_in d ≡ Some us → AreCodeUnits us
units_are_code_units null us e = none_some us e
units_are_code_units (truth b) us e = none_some us e
units_are_code_units (number n) us e = none_some us e
units_are_code_units other_number us e = none_some us e
units_are_code_units (string vs) us e =
    let t = if_some (are_code_units vs) (Some vs) us e in
    subst AreCodeUnits (some_same vs us t.1) (AreCodeUnits-are_code_units vs t.0)
units_are_code_units (list ds) us e = listed_units ds us e
units_are_code_units (object ms) us e = none_some us e

units_again : (us : List ℕ) → AreCodeUnits us → units_in (string us) ≡ Some us
units_again us a = rw (are_code_units-AreCodeUnits us a) refl

-- ---- words

-- the j-th word, of ASCII
abbrev IsWordAt : List (List ℕ) → List ℕ → ℕ → Type 0
IsWordAt ws s j = (get_or ws j [] ≡ s) × (is_ascii s ≡ true)

word_here : (b : Bool) (w s : List ℕ) (ws : List (List ℕ)) (i k : ℕ) → bytes_eq w s ≡ b → is_ascii w ≡ true
    → cond b (Some i) (position_from (λ x. bytes_eq x s) (i + 1) ws) ≡ Some k
    → (position_from (λ x. bytes_eq x s) (i + 1) ws ≡ Some k → (j : ℕ) × (k ≡ (i + 1) + j) × IsWordAt ws s j)
    → (j : ℕ) × (k ≡ i + j) × IsWordAt (w ∷ ws) s j
word_here true w s ws i k b a e later =
    let same = bytes_equal w s b in
    (0, (let f = some_same i k e in omega arith), (same, subst (λ x. is_ascii x ≡ true) same a))
word_here false w s ws i k b a e later = let r = later e in (suc r.0, (let f : k ≡ (i + 1) + r.0 = r.1 in omega arith), r.2)

word_found : (ws : List (List ℕ)) (s : List ℕ) (i k : ℕ) → list_all is_ascii ws ≡ true
    → position_from (λ x. bytes_eq x s) i ws ≡ Some k
    → (j : ℕ) × (k ≡ i + j) × IsWordAt ws s j
word_found [] s i k a e = none_some k e
word_found (w ∷ ws) s i k a e =
    let b = both (is_ascii w) (list_all is_ascii ws) a in
    word_here (bytes_eq w s) w s ws i k refl b.0 e (word_found ws s (i + 1) k b.1)

word_again : (ws : List (List ℕ)) (s : List ℕ) (k : ℕ) → list_all is_ascii ws ≡ true → word_number ws s ≡ Some k
    → (option_and_then (word_number ws) (text_of_units (get_or ws k [])) ≡ Some k) × AreCodeUnits (get_or ws k [])
word_again ws s k a e =
    let p = word_found ws s 0 k a e in
    let at : p.0 ≡ k = let f : k ≡ 0 + p.0 = p.1 in omega arith in
    let same : get_or ws k [] ≡ s = subst (λ j. get_or ws j [] ≡ s) at p.2.0 in
    let own : text_of_units s ≡ Some s = text_of_ascii s p.2.1 in
    (rw (same, own) e, subst AreCodeUnits (sym same) (AreCodeUnits-text_of_units s s own))

-- ---- one field

as_part : (c : FieldClass) (p q : Parts) → Some p ≡ Some q → FitsPart c p → FitsPart c q
as_part c p q e f = subst (FitsPart c) (some_same p q e) f

-- null in place of a part
null_or : (c : FieldClass) (d : Json) (o : Option Parts) (p : Parts) → or_null d o ≡ Some p → FitsPart c (one empty)
    → (o ≡ Some p → FitsPart c p) → FitsPart c p
null_or c d o p e none some = by_test (is_null_value d) e
  where
    by_test : (b : Bool) → (if b then Some (one empty) else o) ≡ Some p → FitsPart c p
    by_test true f = as_part c (one empty) p f none
    by_test false f = some f

text_part : (c : FieldClass) (d : Json) (p : Parts) → ((x : Text) → IsUtf8 x → FitsAtom c (text x))
    → option_map (λ x. one (text x)) (text_in d) ≡ Some p → FitsPart c p
text_part c d p h e =
    let a = map_some (λ x. one (text x)) (text_in d) p e in
    subst (FitsPart c) a.2 (h a.0 (text_is_utf8 d a.0 a.1))

units_part : (c : FieldClass) (d : Json) (p : Parts) → ((us : List ℕ) → AreCodeUnits us → FitsAtom c (units us))
    → option_map (λ x. one (units x)) (units_in d) ≡ Some p → FitsPart c p
units_part c d p h e =
    let a = map_some (λ x. one (units x)) (units_in d) p e in
    subst (FitsPart c) a.2 (h a.0 (units_are_code_units d a.0 a.1))

-- a text is read as itself
text_back : (x : Text) → IsUtf8 x → option_map (λ y. one (text y)) (text_in (string (units_of x))) ≡ Some (one (text x))
text_back x u = ap (option_map (λ y. one (text y))) (text_of_units-units_of x u)

units_back : (us : List ℕ) → AreCodeUnits us
    → option_map (λ y. one (units y)) (units_in (string us)) ≡ Some (one (units us))
units_back us a = ap (option_map (λ y. one (units y))) (units_again us a)

absent_fits : (c : FieldClass) (p : Parts) → absent c ≡ Some p → FitsPart c p
absent_fits Flag p e = as_part Flag (one (flag false)) p e ((λ t ts. refl), tt)
absent_fits (Word w) p e = none_some p e
absent_fits TextClass p e = none_some p e
absent_fits TextOr p e = as_part TextOr (one empty) p e ((λ t ts. refl), tt)
absent_fits Name p e = none_some p e
absent_fits LiteralValue p e = as_part LiteralValue (one empty) p e ((λ t ts. refl), tt)
absent_fits Pattern p e = as_part Pattern (one empty) p e ((λ t ts. refl), tt)
absent_fits Flags p e = as_part Flags (one empty) p e ((λ t ts. refl), tt)
absent_fits Raw p e = none_some p e
absent_fits Cooked p e = none_some p e
absent_fits (One g) p e = none_some p e
absent_fits (Maybe g) p e = as_part (Maybe g) (one empty) p e ((λ t ts. refl), tt)
absent_fits (Many g) p e = none_some p e
absent_fits (ManyOr g) p e = as_part (ManyOr g) (many done done) p e (false, (refl, λ k d t ts. refl), tt)
absent_fits (Holes g) p e = none_some p e

flag_fits : (d : Json) (p : Parts) → elim d [ truth b ↦ Some (one (flag b)) | _ ↦ None ] ≡ Some p → FitsPart Flag p
flag_fits null p e = none_some p e
flag_fits (truth b) p e = as_part Flag (one (flag b)) p e ((λ t ts. refl), tt)
flag_fits (number n) p e = none_some p e
flag_fits other_number p e = none_some p e
flag_fits (string us) p e = none_some p e
flag_fits (list ds) p e = none_some p e
flag_fits (object ms) p e = none_some p e

whole_back : (n : ℕ) → n < 2 ^ 64 → FitsAtom LiteralValue (whole n)
whole_back n h = ((λ t ts. rw (lt-ltb n (2 ^ 64) h) refl), omega arith)

value_fits : (d : Json) (p : Parts) → value_part d ≡ Some p → FitsPart LiteralValue p
value_fits null p e = as_part LiteralValue (one empty) p e ((λ t ts. refl), tt)
value_fits (truth b) p e = as_part LiteralValue (one (flag b)) p e ((λ t ts. refl), tt)
value_fits (number n) p e =
    let a = map_some (λ k. one (whole k)) (below (2 ^ 64) (number n)) p e in
    subst (FitsPart LiteralValue) a.2 (whole_back a.0 (below_bound (2 ^ 64) (number n) a.0 a.1).1)
value_fits other_number p e = none_some p e
value_fits (string us) p e = units_part LiteralValue (string us) p (λ x a. ((λ t ts. units_back x a), a)) e
value_fits (list ds) p e = units_part LiteralValue (list ds) p (λ x a. ((λ t ts. units_back x a), a)) e
value_fits (object no_members) p e = as_part LiteralValue (one empty) p e ((λ t ts. refl), tt)
value_fits (object (member k d ms)) p e = none_some p e

regex_fits : (c : FieldClass) (k : List ℕ) (d : Json) (p : Parts) → FitsPart c (one empty)
    → ((x : Text) → IsUtf8 x → FitsAtom c (text x)) → regex_part k d ≡ Some p → FitsPart c p
regex_fits c k null p none some e = as_part c (one empty) p e none
regex_fits c k (object ms) p none some e =
    let t = if_some (are_distinct ms && has_only (codes "pattern") (codes "flags") ms) _ p e in
    let a = map_some (λ x. one (text x)) (option_and_then text_in (find_member k ms)) p t.1 in
    let b = then_some text_in (find_member k ms) a.0 a.1 in
    subst (FitsPart c) a.2 (some a.0 (text_is_utf8 b.0 a.0 b.2))
regex_fits c k (truth b) p none some e = none_some p e
regex_fits c k (number n) p none some e = none_some p e
regex_fits c k other_number p none some e = none_some p e
regex_fits c k (string us) p none some e = none_some p e
regex_fits c k (list ds) p none some e = none_some p e

-- what is read from a member of a template element's `value`
abbrev template_found : Bool → Option Json → Option Parts
template_found optional o = elim o [
  | None ↦ (if optional then Some (one empty) else None)
  | Some d ↦ (if optional && is_null_value d then Some (one empty) else option_map (λ us. one (units us)) (units_in d))
]

template_text : (c : FieldClass) (optional : Bool) (o : Option Json) (p : Parts)
    → (optional ≡ true → FitsPart c (one empty)) → ((us : List ℕ) → AreCodeUnits us → FitsAtom c (units us))
    → template_found optional o ≡ Some p
    → FitsPart c p
template_text c true None p none some e = as_part c (one empty) p e (none refl)
template_text c false None p none some e = none_some p e
template_text c true (Some d) p none some e =
    null_or c d (option_map (λ us. one (units us)) (units_in d)) p e (none refl) (λ f. units_part c d p some f)
template_text c false (Some d) p none some e = units_part c d p some e

template_fits : (c : FieldClass) (optional : Bool) (k : List ℕ) (d : Json) (p : Parts)
    → (optional ≡ true → FitsPart c (one empty)) → ((us : List ℕ) → AreCodeUnits us → FitsAtom c (units us))
    → template_part optional k d ≡ Some p → FitsPart c p
template_fits c optional k null p none some e = none_some p e
template_fits c optional k (truth b) p none some e = none_some p e
template_fits c optional k (number n) p none some e = none_some p e
template_fits c optional k other_number p none some e = none_some p e
template_fits c optional k (string us) p none some e = none_some p e
template_fits c optional k (list ds) p none some e = none_some p e
template_fits c optional k (object ms) p none some e =
    let t = if_some (are_distinct ms && has_only (codes "raw") (codes "cooked") ms) _ p e in
    template_text c optional (find_member k ms) p none some t.1

name_fits : (d : Json) (p : Parts) → name_part d ≡ Some p → FitsPart Name p
name_fits d p e =
    let a = then_some (λ x. if is_identifier_name x then Some (one (text x)) else None) (text_in d) p e in
    let t = if_some (is_identifier_name a.0) (Some (one (text a.0))) p a.2 in
    let u = text_is_utf8 d a.0 a.1 in
    as_part Name (one (text a.0)) p t.1 ((λ o ts. rw (text_of_units-units_of a.0 u, t.0) refl), AreCodeUnits-units_of a.0 u)

word_fits : (w : Words) (d : Json) (p : Parts)
    → option_map (λ n. one (word n)) (option_and_then (word_number (word_list w)) (text_in d)) ≡ Some p
    → FitsPart (Word w) p
word_fits w d p e =
    let a = map_some (λ n. one (word n)) (option_and_then (word_number (word_list w)) (text_in d)) p e in
    let b = then_some (word_number (word_list w)) (text_in d) a.0 a.1 in
    let r = word_again (word_list w) b.0 a.0 (ascii_words w) b.2 in
    subst (FitsPart (Word w)) a.2 ((λ t ts. ap (option_map (λ n. one (word n))) r.0), r.1)

-- a part by its class, given that the node and the list which its value may be fit
module _ (d : Json) (t : Option Tree) (ts : Bool → Option Parts) (node_fits : (u : Tree) → t ≡ Some u → Fits u)
    (list_fits : (holes : Bool) (us : Parts) → ts holes ≡ Some us → FitItems us holes) where
  node_part : (c : FieldClass) (p : Parts) → TakesNode c → option_map alone t ≡ Some p → FitsPart c p
  node_part c p h e =
      let a = map_some alone t p e in
      let f = node_fits a.0 a.1 in
      subst (FitsPart c) a.2 (h, f.0, f.1)

  list_part : (c : FieldClass) (holes : Bool) (p : Parts) → TakesList c holes
      → option_map (λ us. many us done) (ts holes) ≡ Some p → FitsPart c p
  list_part c holes p h e =
      let a = map_some (λ us. many us done) (ts holes) p e in
      subst (FitsPart c) a.2 (holes, h, list_fits holes a.0 a.1)

  part_fits : (c : FieldClass) (k : List ℕ) (p : Parts) → part_from c k d t ts ≡ Some p → FitsPart c p
  part_fits Flag k p e = flag_fits d p e
  part_fits (Word w) k p e = word_fits w d p e
  part_fits TextClass k p e = text_part TextClass d p (λ x u. ((λ o us. text_back x u), AreCodeUnits-units_of x u)) e
  part_fits TextOr k p e =
      null_or TextOr d (option_map (λ x. one (text x)) (text_in d)) p e ((λ o us. refl), tt)
      (λ f. text_part TextOr d p (λ x u. ((λ o us. text_back x u), AreCodeUnits-units_of x u)) f)
  part_fits Name k p e = name_fits d p e
  part_fits LiteralValue k p e = value_fits d p e
  part_fits Pattern k p e =
      regex_fits Pattern k d p ((λ o us. refl), tt) (λ x u. ((λ o us. text_back x u), AreCodeUnits-units_of x u)) e
  part_fits Flags k p e =
      regex_fits Flags k d p ((λ o us. refl), tt) (λ x u. ((λ o us. text_back x u), AreCodeUnits-units_of x u)) e
  part_fits Raw k p e =
      template_fits Raw false k d p (λ n. absurd (true≢false (sym n))) (λ x a. ((λ o us. units_back x a), a)) e
  part_fits Cooked k p e =
      template_fits Cooked true k d p (λ n. ((λ o us. refl), tt)) (λ x a. ((λ o us. units_back x a), a)) e
  part_fits (One g) k p e = node_part (One g) p (refl, λ l v u us h. refl) e
  part_fits (Maybe g) k p e =
      null_or (Maybe g) d (option_map alone t) p e ((λ o us. refl), tt)
      (λ f. node_part (Maybe g) p (refl, λ l v u us h. rw h refl) f)
  part_fits (Many g) k p e = list_part (Many g) false p (refl, λ l v u us. refl) e
  part_fits (ManyOr g) k p e = list_part (ManyOr g) false p (refl, λ l v u us. refl) e
  part_fits (Holes g) k p e = list_part (Holes g) true p (refl, λ l v u us. refl) e

-- ---- the fields of a node

empty_first : (a : Atom) (p q : Parts) → is_empty (atom a p) ≡ is_empty (atom a q)
empty_first empty p q = refl
empty_first (flag b) p q = refl
empty_first (word n) p q = refl
empty_first (text x) p q = refl
empty_first (units us) p q = refl
empty_first (whole n) p q = refl

is_empty-onto : (c : FieldClass) (p more : Parts) → FitsPart c p → is_empty (onto p more) ≡ is_empty p
is_empty-onto c done more f = absurd f
is_empty-onto c (atom a rest) more f = empty_first a (onto rest more) rest
is_empty-onto c (child k s e fields rest) more f = refl
is_empty-onto c (many items rest) more f = refl

-- a pattern and flags are both there, or neither
abbrev AreTogether : (Column → Option Parts) → Type 0
AreTogether part = (c d : Column) (p q : Parts) → c.class ≡ Pattern → d.class ≡ Flags → part c ≡ Some p → part d ≡ Some q
    → is_empty p ≡ is_empty q

abbrev AllFit : (Column → Option Parts) → Type 0
AllFit part = (c : Column) (p : Parts) → part c ≡ Some p → FitsPart c.class p

next_fits : (part : Column → Option Parts) → AllFit part → AreTogether part
    → (c : Column) (cs : List Column) (a : Atom) (more : Parts)
    → part c ≡ Some (one a) → run_of part cs ≡ Some more → (class : FieldClass) → c.class ≡ class
    → is_followed class cs ≡ true → FitsNext class a more
next_fits part fit together c [] a more e r Pattern same f = absurd (true≢false (sym f))
next_fits part fit together c (d ∷ cs) a more e r Pattern same f =
    let b = then_some (λ p. option_map (onto p) (run_of part cs)) (part d) more r in
    let m = map_some (onto b.0) (run_of part cs) more b.2 in
    let flags = is_flags-Flags d.class f in
    sym (is_empty-atom a done) ∙ together c d (one a) b.0 same flags e b.1
    ∙ sym (is_empty-onto d.class b.0 m.0 (fit d b.0 b.1)) ∙ ap is_empty m.2
next_fits part fit together c cs a more e r _ same f = tt

first_fits : (c : Column) (cs : List Column) (p more : Parts) → FitsPart c.class p
    → ((a : Atom) → p ≡ one a → FitsNext c.class a more) → FitFields more cs → FitFields (onto p more) (c ∷ cs)
first_fits c cs (atom a done) more f next rest = (f, next a refl, rest)
first_fits c cs (child k s e fields done) more f next rest = (f.0, f.1, f.2, rest)
first_fits c cs (many items done) more f next rest = (f.0, f.1, f.2, rest)
first_fits c cs _ more f next rest = absurd f

run_fits : (part : Column → Option Parts) → AllFit part → AreTogether part → (cs : List Column) (ps : Parts)
    → are_followed cs ≡ true → run_of part cs ≡ Some ps → FitFields ps cs
run_fits part fit together [] ps f e = subst (λ x. FitFields x []) (some_same done ps e) tt
run_fits part fit together (c ∷ cs) ps f e =
    let a = then_some (λ p. option_map (onto p) (run_of part cs)) (part c) ps e in
    let m = map_some (onto a.0) (run_of part cs) ps a.2 in
    let b = both (is_followed c.class cs) (are_followed cs) f in
    subst (λ x. FitFields x (c ∷ cs)) m.2
    (first_fits c cs a.0 m.0 (fit c a.0 a.1)
    (λ x same. next_fits part fit together c cs x m.0 (a.1 ∙ ap Some same) m.1 c.class refl b.0)
    (run_fits part fit together cs m.0 b.1 m.1))

-- what a pattern and flags are where the member under `regex` is missing, null or an object
no_regex : (o : Option Json) → Bool
no_regex None = true
no_regex (Some d) = is_null_value d

regex_empty : (k : List ℕ) (d : Json) (p : Parts) → regex_part k d ≡ Some p → is_empty p ≡ is_null_value d
regex_empty k null p e = sym (ap is_empty (some_same (one empty) p e))
regex_empty k (object ms) p e =
    let t = if_some (are_distinct ms && has_only (codes "pattern") (codes "flags") ms) _ p e in
    let a = map_some (λ x. one (text x)) (option_and_then text_in (find_member k ms)) p t.1 in
    sym (ap is_empty a.2)
regex_empty k (truth b) p e = none_some p e
regex_empty k (number n) p e = none_some p e
regex_empty k other_number p e = none_some p e
regex_empty k (string us) p e = none_some p e
regex_empty k (list ds) p e = none_some p e

pattern_empty : (c : Column) (o : Option Json) (p : Parts) → c.class ≡ Pattern → part_found c o ≡ Some p
    → is_empty p ≡ no_regex o
unfolding no_regex
pattern_empty c None p same e = sym (ap is_empty (some_same (one empty) p (sym (ap absent same) ∙ e)))
pattern_empty c (Some d) p same e =
    regex_empty c.key d p (sym (ap (λ x. part_from x c.key d (shape_of d) (list_of d)) same) ∙ e)

flags_empty : (c : Column) (o : Option Json) (p : Parts) → c.class ≡ Flags → part_found c o ≡ Some p
    → is_empty p ≡ no_regex o
unfolding no_regex
flags_empty c None p same e = sym (ap is_empty (some_same (one empty) p (sym (ap absent same) ∙ e)))
flags_empty c (Some d) p same e =
    regex_empty c.key d p (sym (ap (λ x. part_from x c.key d (shape_of d) (list_of d)) same) ∙ e)

are_together : (ms : Members) → AreTogether (λ c. part_in ms c)
are_together ms c d p q pattern flags e f =
    let k = key_of_class c Pattern (codes "regex") refl pattern in
    let l = key_of_class d Flags (codes "regex") refl flags in
    let o = find_member (codes "regex") ms in
    pattern_empty c o p pattern (sym (ap (λ x. part_found c (find_member x ms)) k) ∙ sym (part_in-part_found ms c) ∙ e)
    ∙ sym (flags_empty d o q flags (sym (ap (λ x. part_found d (find_member x ms)) l) ∙ sym (part_in-part_found ms d) ∙ f))

-- ---- a node

offset_below : (o : Option Json) (n : ℕ) → offset_of o ≡ Some n → n < 2 ^ 32
offset_below None n e = subst (λ x. x < 2 ^ 32) (some_same 0 n e) (omega arith)
offset_below (Some d) n e = (below_bound (2 ^ 32) d n e).1

row_found : (ks : List Kind) (name : List ℕ) (r : Row) → row_among ks name ≡ Some r → (k : Kind) × (row k ≡ r)
row_found [] name r e = none_some r e
row_found (k ∷ ks) name r e = here (bytes_eq (row k).name name) e (row_found ks name r)
  where
    here : (b : Bool) → (if b then Some (row k) else row_among ks name) ≡ Some r
        → (row_among ks name ≡ Some r → (j : Kind) × (row j ≡ r)) → (j : Kind) × (row j ≡ r)
    here true f later = (k, some_same (row k) r f)
    here false f later = later f

-- the row that is found for an object is that of its kind
pub row_of_object : (ms : Members) (r : Row) → row_for ms ≡ Some r → row r.kind ≡ r
row_of_object ms r e =
    let a = then_some row_named (option_and_then text_in (find_member (codes "type") ms)) r e in
    let f = row_found all_kinds a.0 r a.2 in
    ap row (ap (λ s. s.kind) (sym f.1) ∙ row_kind f.0) ∙ f.1

node_fits : (ms : Members) (part : Column → Option Parts) (t : Tree) → AllFit part → AreTogether part
    → shape_from ms part ≡ Some t → Fits t
node_fits ms part t fit together e =
    let r = then_some _ (row_for ms) t e in
    let s = then_some _ (offset_of (find_member (codes "start") ms)) t r.2 in
    let p = then_some _ (offset_of (find_member (codes "end") ms)) t s.2 in
    let k = if_some (are_distinct ms && only_known r.0.columns ms && is_paired r.0.kind ms) _ t p.2 in
    let fs = map_some _ (run_of part r.0.columns) t k.1 in
    let own = row_of_object ms r.0 r.1 in
    let followed = subst (λ x. are_followed x.columns ≡ true) own (row_sound r.0.kind).followed in
    let fields = run_fits part fit together r.0.columns fs.0 followed fs.1 in
    let start_below = offset_below (find_member (codes "start") ms) s.0 s.1 in
    let end_below = offset_below (find_member (codes "end") ms) p.0 p.1 in
    subst Fits fs.2 ((start_below, end_below), subst (λ x. FitFields fs.0 x.columns) (sym own) fields)

here_or : (b : Bool) (c : Column) (p : Parts) (d : Json) (rest : Option Parts)
    → (if b then part_from c.class c.key d (shape_of d) (list_of d) else rest) ≡ Some p
    → ((t : Tree) → shape_of d ≡ Some t → Fits t)
    → ((holes : Bool) (us : Parts) → list_of d holes ≡ Some us → FitItems us holes)
    → (rest ≡ Some p → FitsPart c.class p) → FitsPart c.class p
here_or true c p d rest e node items later = part_fits d (shape_of d) (list_of d) node items c.class c.key p e
here_or false c p d rest e node items later = later e

or_hole_fits : (holes : Bool) (d : Json) (p more : Parts) → ((t : Tree) → shape_of d ≡ Some t → Fits t)
    → or_hole holes d (option_map alone (shape_of d)) ≡ Some p → FitItems more holes → FitItems (onto p more) holes
or_hole_fits holes d p more fit e rest = by_test (holes && is_null_value d) refl e
  where
    by_test : (b : Bool) → (holes && is_null_value d) ≡ b
        → (if b then Some (one empty) else option_map alone (shape_of d)) ≡ Some p → FitItems (onto p more) holes
    by_test true h f =
        subst (λ x. FitItems (onto x more) holes) (some_same (one empty) p f) ((both holes (is_null_value d) h).0, refl, rest)
    by_test false h f =
        let a = map_some alone (shape_of d) p f in
        let t = fit a.0 a.1 in
        subst (λ x. FitItems (onto x more) holes) a.2 (t.0, t.1, rest)

mutual
  pub shape_fits : (d : Json) (t : Tree) → shape_of d ≡ Some t → Fits t
  shape_fits null t e = none_some t e
  shape_fits (truth b) t e = none_some t e
  shape_fits (number n) t e = none_some t e
  shape_fits other_number t e = none_some t e
  shape_fits (string us) t e = none_some t e
  shape_fits (list ds) t e = none_some t e
  shape_fits (object ms) t e = node_fits ms (λ c. part_in ms c) t (λ c p h. member_fits ms c p h) (are_together ms) e

  list_fits : (d : Json) (holes : Bool) (ps : Parts) → list_of d holes ≡ Some ps → FitItems ps holes
  list_fits null holes ps e = none_some ps e
  list_fits (truth b) holes ps e = none_some ps e
  list_fits (number n) holes ps e = none_some ps e
  list_fits other_number holes ps e = none_some ps e
  list_fits (string us) holes ps e = none_some ps e
  list_fits (list ds) holes ps e = items_fit ds holes ps e
  list_fits (object ms) holes ps e = none_some ps e

  items_fit : (ds : Items) (holes : Bool) (ps : Parts) → items_from ds holes ≡ Some ps → FitItems ps holes
  items_fit no_items holes ps e = subst (λ x. FitItems x holes) (some_same done ps e) tt
  items_fit (item d ds) holes ps e =
      let a = then_some (λ p. option_map (onto p) (items_from ds holes)) (or_hole holes d (option_map alone (shape_of d))) ps e in
      let m = map_some (onto a.0) (items_from ds holes) ps a.2 in
      subst (λ x. FitItems x holes) m.2 (or_hole_fits holes d a.0 m.0 (λ t h. shape_fits d t h) a.1 (items_fit ds holes m.0 m.1))

  member_fits : (ms : Members) (c : Column) (p : Parts) → part_in ms c ≡ Some p → FitsPart c.class p
  member_fits no_members c p e = absent_fits c.class p e
  member_fits (member k d ms) c p e =
      here_or (bytes_eq k (outer_key c)) c p d (part_in ms c) e
      (λ t h. shape_fits d t h) (λ holes us h. list_fits d holes us h) (λ h. member_fits ms c p h)
