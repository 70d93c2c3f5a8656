-- What is read from the text of a tree's value is a value of the same tree.
use Rattle.std.proofs.Common.{◌≡◌, ℕ, ◌^◌, List, [], ◌∷◌, Bool, true, false, not, ◌&&◌, ◌||◌, codes, Option, Some, None, option_map, option_and_then, if◌then◌else◌, bytes_eq, refl, ap, ap₂, ◌∙◌}
use Rattle.json_text.specs.Json.{Json, null, truth, whole, other_number, string, list, object, Items, no_items, item, Members, no_members, member}
use Rattle.tree_core.proofs.FieldUnderKey.{part_found, part_in-part_found}
use Rattle.tree_core.proofs.ReadTrees.{tree_of-placed}
use Rattle.tree_core.proofs.ReadsBack.{shape_read}
use Rattle.tree_core.specs.JsonOf.{items_of}
use Rattle.tree_core.specs.Reading.{are_distinct, find_member, is_blank, is_known, is_null_value, is_object, is_paired, items_from, list_of, offset_of, one, only_known, or_hole, outer_key, part_from, part_in, row_for, run_of, shape_from, shape_of, text_in, tree_of, word_number}
use Rattle.tree_nodes.proofs.Cases.{both, if_some, map_some, none_some, then_some}
use Rattle.tree_nodes.specs.Look.{onto}
use Rattle.tree_nodes.specs.Table.{Column, Row, row_named, word_list}
use Rattle.tree_nodes.specs.Tree.{Parts, Tree, alone, done, empty, many, text, word}
use Rattle.tree_nodes.specs.declared.kind.Kind.{Kind}
use Rattle.tree_nodes.specs.declared.kind.Kind.TheVariants.{Literal}
use Rattle.tree_nodes.specs.declared.table.Class.{Class as FieldClass}
use Rattle.tree_nodes.specs.declared.table.Class.TheVariants.{Cooked, Flag, Flags, Holes, LiteralValue, Many, ManyOr, Maybe, Name, One, Pattern, Raw, Text as TextClass, TextOr, Word}
use Rattle.syntax_lex.specs.Identifier.{is_identifier_name}
use Rattle.json_reading.proofs.Fields.{below_same, blank_same, null_same, object_same, regex_same, same_by, template_same, text_same, under, value_same}
use Rattle.json_reading.proofs.Puts.{IsTest, back, distinct_back, found_back, members_back, test_back}
use Rattle.json_reading.specs.Parsed.{items_parsed}
use Rattle.json_reading.specs.Readable.{AreReadable, HaveReadable, IsReadable}

-- ---- one field

null_or : (a b : Bool) (o p : Option Parts) (q : Parts) → a ≡ b → (o ≡ Some q → p ≡ Some q) → (if b then Some (one empty) else o) ≡ Some q → (if a then Some (one empty) else p) ≡ Some q
null_or a true o p q e f g = rw e g
null_or a false o p q e f g = rw e (f g)

module _ (d : Json) (h : IsReadable d) (nodes : (t : Tree) → shape_of d ≡ Some t → shape_of (back d) ≡ Some t)
    (lists : (holes : Bool) (ps : Parts) → list_of d holes ≡ Some ps → list_of (back d) holes ≡ Some ps) where
  node_field : (p : Parts) → option_map alone (shape_of d) ≡ Some p → option_map alone (shape_of (back d)) ≡ Some p
  node_field p e = let a = map_some alone (shape_of d) p e in ap (option_map alone) (nodes a.0 a.1) ∙ ap Some a.2

  list_field : (holes : Bool) (p : Parts) → option_map (λ us. many us done) (list_of d holes) ≡ Some p → option_map (λ us. many us done) (list_of (back d) holes) ≡ Some p
  list_field holes p e = let a = map_some (λ us. many us done) (list_of d holes) p e in ap (option_map (λ us. many us done)) (lists holes a.0 a.1) ∙ ap Some a.2

  field_back : (c : FieldClass) (k : List ℕ) (p : Parts) → part_from c k d (shape_of d) (list_of d) ≡ Some p → part_from c k (back d) (shape_of (back d)) (list_of (back d)) ≡ Some p
  field_back Flag k p e = same_by (λ (x : Json). part_from Flag k x None (λ holes. None)) (λ xs ys. refl) (λ ms ns. refl) d h ∙ e
  field_back (Word w) k p e = ap (λ (o : Option (List ℕ)). option_map (λ n. one (word n)) (option_and_then (word_number (word_list w)) o)) (text_same d h) ∙ e
  field_back TextClass k p e = ap (option_map (λ (x : List ℕ). one (text x))) (text_same d h) ∙ e
  field_back TextOr k p e = ap₂ (λ (b : Bool) (o : Option (List ℕ)). if b then Some (one empty) else option_map (λ (x : List ℕ). one (text x)) o) (null_same d h) (text_same d h) ∙ e
  field_back Name k p e = ap (option_and_then (λ (x : List ℕ). if is_identifier_name x then Some (one (text x)) else None)) (text_same d h) ∙ e
  field_back LiteralValue k p e = value_same d p h e
  field_back Pattern k p e = regex_same k d p h e
  field_back Flags k p e = regex_same k d p h e
  field_back Raw k p e = template_same false k d p h e
  field_back Cooked k p e = template_same true k d p h e
  field_back (One g) k p e = node_field p e
  field_back (Maybe g) k p e = null_or (is_null_value (back d)) (is_null_value d) (option_map alone (shape_of d)) (option_map alone (shape_of (back d))) p (null_same d h) (node_field p) e
  field_back (Many g) k p e = list_field false p e
  field_back (ManyOr g) k p e = list_field false p e
  field_back (Holes g) k p e = list_field true p e

-- ---- one node

run_back : (part other : Column → Option Parts) → ((c : Column) (p : Parts) → part c ≡ Some p → other c ≡ Some p) → (cs : List Column) (ps : Parts)
    → run_of part cs ≡ Some ps → run_of other cs ≡ Some ps
run_back part other same [] ps e = e
run_back part other same (c ∷ cs) ps e =
    let a = then_some (λ p. option_map (onto p) (run_of part cs)) (part c) ps e in
    let m = map_some (onto a.0) (run_of part cs) ps a.2 in
    ap (option_and_then (λ p. option_map (onto p) (run_of other cs))) (same c a.0 a.1)
    ∙ ap (option_map (onto a.0)) (run_back part other same cs m.0 m.1) ∙ ap Some m.2

paired_same : (k : Kind) (ms ns : Members) → is_object (find_member (codes "value") ns) ≡ is_object (find_member (codes "value") ms)
    → is_object (find_member (codes "regex") ns) ≡ is_object (find_member (codes "regex") ms) → is_paired k ns ≡ is_paired k ms
paired_same Literal ms ns e f = ap₂ (λ (a b : Bool). not a || b) e f
paired_same _ ms ns e f = refl

known_test : (cs : List Column) → IsTest (λ (k : List ℕ) (d : Json). is_known k cs || is_blank d) (only_known cs)
known_test cs = record { none = refl; more = λ k d ms. refl }

built : (ms : Members) (part : Column → Option Parts) (r : Row) (s e : ℕ) (ps : Parts) → row_for ms ≡ Some r → offset_of (find_member (codes "start") ms) ≡ Some s
    → offset_of (find_member (codes "end") ms) ≡ Some e → are_distinct ms ≡ true → only_known r.columns ms ≡ true → is_paired r.kind ms ≡ true → run_of part r.columns ≡ Some ps
    → shape_from ms part ≡ Some (record { kind = r.kind; start = s; stop = e; fields = ps })
built ms part r s e ps row starts ends distinct known paired run = rw (row, starts, ends, distinct, known, paired, run) refl

node_back : (ms : Members) (t : Tree) → HaveReadable ms
    → ((c : Column) (p : Parts) → part_in ms c ≡ Some p → part_found c (option_map back (find_member (outer_key c) ms)) ≡ Some p)
    → shape_of (object ms) ≡ Some t → shape_of (object (members_back ms)) ≡ Some t
node_back ms t h fields e =
    let ns : Members = members_back ms in
    let r = then_some _ (row_for ms) t e in
    let s = then_some _ (offset_of (find_member (codes "start") ms)) t r.2 in
    let p = then_some _ (offset_of (find_member (codes "end") ms)) t s.2 in
    let k = if_some (are_distinct ms && only_known r.0.columns ms && is_paired r.0.kind ms) _ t p.2 in
    let fs = map_some _ (run_of (λ c. part_in ms c) r.0.columns) t k.1 in
    let b = both (are_distinct ms && only_known r.0.columns ms) (is_paired r.0.kind ms) k.0 in
    let a = both (are_distinct ms) (only_known r.0.columns ms) b.0 in
    let found = found_back ms h a.0 in
    let row : row_for ns ≡ Some r.0 =
    ap (λ (o : Option Json). option_and_then row_named (option_and_then text_in o)) (found (codes "type"))
    ∙ ap (option_and_then row_named) (under (option_and_then text_in) text_same (codes "type") ms h) ∙ r.1 in
    let starts : offset_of (find_member (codes "start") ns) ≡ Some s.0 = ap offset_of (found (codes "start")) ∙ under offset_of (below_same (2 ^ 32)) (codes "start") ms h ∙ s.1 in
    let ends : offset_of (find_member (codes "end") ns) ≡ Some p.0 = ap offset_of (found (codes "end")) ∙ under offset_of (below_same (2 ^ 32)) (codes "end") ms h ∙ p.1 in
    let known : only_known r.0.columns ns ≡ true =
    test_back ms h a.0 (λ (l : List ℕ) (d : Json). is_known l r.0.columns || is_blank d) (only_known r.0.columns) (known_test r.0.columns)
    (λ l x readable f. ap (λ (z : Bool). is_known l r.0.columns || z) (blank_same x readable) ∙ f) a.1 in
    let paired : is_paired r.0.kind ns ≡ true =
    paired_same r.0.kind ms ns (ap is_object (found (codes "value")) ∙ under is_object object_same (codes "value") ms h)
    (ap is_object (found (codes "regex")) ∙ under is_object object_same (codes "regex") ms h) ∙ b.1 in
    let run : run_of (λ c. part_in ns c) r.0.columns ≡ Some fs.0 =
    run_back (λ c. part_in ms c) (λ c. part_in ns c)
    (λ c q f. part_in-part_found ns c ∙ ap (part_found c) (found (outer_key c)) ∙ fields c q f) r.0.columns fs.0 fs.1 in
    built ns (λ c. part_in ns c) r.0 s.0 p.0 fs.0 row starts ends (distinct_back ms h a.0) known paired run ∙ ap Some fs.2

-- ---- all nodes

here_or : (b : Bool) (c : Column) (p : Parts) (d : Json) (rest : Option Parts) (o : Option Json)
    → (part_from c.class c.key d (shape_of d) (list_of d) ≡ Some p → part_found c (Some (back d)) ≡ Some p) → (rest ≡ Some p → part_found c (option_map back o) ≡ Some p)
    → (if b then part_from c.class c.key d (shape_of d) (list_of d) else rest) ≡ Some p → part_found c (option_map back (if b then Some d else o)) ≡ Some p
here_or true c p d rest o here later e = here e
here_or false c p d rest o here later e = later e

hole_or : (holes a b : Bool) (o q : Option Parts) (p : Parts) → a ≡ b → (o ≡ Some p → q ≡ Some p) → (if holes && b then Some (one empty) else o) ≡ Some p → (if holes && a then Some (one empty) else q) ≡ Some p
hole_or true a b o q p e f g = null_or a b o q p e f g
hole_or false a b o q p e f g = f g

mutual
  pub shape_back : (d : Json) (t : Tree) → IsReadable d → shape_of d ≡ Some t → shape_of (back d) ≡ Some t
  shape_back null t h e = none_some t e
  shape_back (truth b) t h e = none_some t e
  shape_back (whole z) t h e = none_some t e
  shape_back other_number t h e = none_some t e
  shape_back (string us) t h e = none_some t e
  shape_back (list xs) t h e = none_some t e
  shape_back (object ms) t h e = node_back ms t h (λ c p f. member_back ms c p h f) e

  list_back : (d : Json) (holes : Bool) (ps : Parts) → IsReadable d → list_of d holes ≡ Some ps → list_of (back d) holes ≡ Some ps
  list_back null holes ps h e = none_some ps e
  list_back (truth b) holes ps h e = none_some ps e
  list_back (whole z) holes ps h e = none_some ps e
  list_back other_number holes ps h e = none_some ps e
  list_back (string us) holes ps h e = none_some ps e
  list_back (list xs) holes ps h e = items_back xs holes ps h e
  list_back (object ms) holes ps h e = none_some ps e

  items_back : (xs : Items) (holes : Bool) (ps : Parts) → AreReadable xs → items_from xs holes ≡ Some ps → items_from (items_of (items_parsed xs)) holes ≡ Some ps
  items_back no_items holes ps h e = e
  items_back (item d xs) holes ps h e =
      let a = then_some (λ p. option_map (onto p) (items_from xs holes)) (or_hole holes d (option_map alone (shape_of d))) ps e in
      let m = map_some (onto a.0) (items_from xs holes) ps a.2 in
      ap (option_and_then (λ p. option_map (onto p) (items_from (items_of (items_parsed xs)) holes)))
      (hole_or holes (is_null_value (back d)) (is_null_value d) (option_map alone (shape_of d)) (option_map alone (shape_of (back d))) a.0 (null_same d h.0)
      (λ f. let n = map_some alone (shape_of d) a.0 f in ap (option_map alone) (shape_back d n.0 h.0 n.1) ∙ ap Some n.2) a.1)
      ∙ ap (option_map (onto a.0)) (items_back xs holes m.0 h.1 m.1) ∙ ap Some m.2

  member_back : (ms : Members) (c : Column) (p : Parts) → HaveReadable ms → part_in ms c ≡ Some p → part_found c (option_map back (find_member (outer_key c) ms)) ≡ Some p
  member_back no_members c p h e = e
  member_back (member k d ms) c p h e =
      here_or (bytes_eq k (outer_key c)) c p d (part_in ms c) (find_member (outer_key c) ms)
      (λ f. field_back d h.1 (λ t g. shape_back d t h.1 g) (λ holes ps g. list_back d holes ps h.1 g) c.class c.key p f)
      (λ f. member_back ms c p h.2 f) e

-- the tree that a value is
pub tree_read : (v : Json) (t : Tree) → IsReadable v → tree_of v ≡ Some t → tree_of (back v) ≡ Some t
tree_read v t h e = let s = shape_read v t e in tree_of-placed (back v) t (shape_back v t h s.0) s.1
