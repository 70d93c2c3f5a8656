-- A tree that is read has no longer texts than the strings and lists of its value.
use Rattle.std.proofs.Common.{◌≡◌, ℕ, suc, ◌*◌, ◌≤◌, ◌<◌, ◌^◌, max, List, [], ◌∷◌, length, Bool, true, false, ◌&&◌, ◌||◌, Option, Some, None, IsUtf8, option_map, option_and_then, if◌then◌else◌, refl, sym, ap, ◌∙◌, subst, arith, bytes_eq, codes}
use Rattle.std.proofs.lemmas.Bool.Decides.{nat_tests}
use Rattle.json_text.specs.Json.{Json, null, truth, whole as number, other_number, string, list, object, Items, no_items, item, Members, no_members, member}
use Rattle.json_text.specs.Units.{are_code_units, units_of}
use Rattle.json_text.proofs.Units.{text_of_units-units_of}
use Rattle.oxc_str.specs.Wtf8.{wtf8}
use Rattle.oxc_str.proofs.Canonical.{IsWtf8-IsUtf8}
use Rattle.serde_json.specs.Data as parsed
use Rattle.serde_json.specs.Events.{items_len}
use Rattle.serde_json.specs.View.{view}
use Rattle.serde_json.specs.declared.value.Value.{Value}
use Rattle.syntax_lex.specs.Identifier.{is_identifier_name}
use Rattle.tree_nodes.specs.Look.{onto}
use Rattle.tree_nodes.specs.Table.{Column}
use Rattle.tree_nodes.specs.Tree.{Atom, Parts, Tree, alone, atom, child, done, empty, flag, many, text, units, whole, word}
use Rattle.tree_nodes.specs.declared.table.Class.{Class as FieldClass}
use Rattle.tree_nodes.specs.declared.table.Class.TheVariants.{Cooked, Flag, Flags, Holes, LiteralValue, Many, ManyOr, Maybe, Name, One, Pattern, Raw, Text as TextClass, TextOr, Word}
use Rattle.tree_core.specs.JsonOf.{json_of, items_of, members_of, number_of}
use Rattle.tree_core.specs.Limits.{has_long_item, has_long_member, has_long_part, is_long_array, is_long_text, is_too_large}
use Rattle.tree_core.specs.LongestText.{longest_text, text_bytes}
use Rattle.tree_core.specs.Reading.{absent, are_distinct, below, find_member, is_null_value, is_paired, items_from, list_of, name_part, offset_of, one, only_known, or_hole, outer_key, part_from, part_in, regex_part, row_for, run_of, shape_from, shape_of, template_part, text_in, tree_of, units_in, units_in_list, value_part}
use Rattle.tree_nodes.proofs.Cases.{if_some, map_some, neither, none_some, some_same, then_some}
use Rattle.tree_core.proofs.ReadFits.{listed_units}
use Rattle.tree_core.proofs.ReadsBack.{shape_read}
use Rattle.tree_core.proofs.UnitBytes.{units_bytes}
use Rattle.tree_core.proofs.ValueTexts.{AreItemTexts, AreMemberTexts, AreTexts, value_texts}

pub longest_onto : (p q : Parts) → longest_text (onto p q) ≡ max (longest_text p) (longest_text q)
longest_onto done q = omega arith
longest_onto (atom a p) q = omega (arith, longest_onto p q)
longest_onto (child k s e fields p) q = omega (arith, longest_onto p q)
longest_onto (many items p) q = omega (arith, longest_onto p q)

-- ---- values all of whose texts, and lists of code units, have fewer than n bytes

abbrev IsShort : ℕ → Json → Type 0
IsShort n d = ((x : List ℕ) → text_in d ≡ Some x → length x < n) × ((us : List ℕ) → units_in d ≡ Some us → length (wtf8 us) < n)

abbrev mutual
  AreShort : ℕ → Json → Type 0
  AreShort n null = Unit {0}
  AreShort n (truth b) = Unit {0}
  AreShort n (number m) = Unit {0}
  AreShort n other_number = Unit {0}
  AreShort n (string us) = IsShort n (string us)
  AreShort n (list ds) = IsShort n (list ds) × AreShortItems n ds
  AreShort n (object ms) = AreShortMembers n ms

  AreShortItems : ℕ → Items → Type 0
  AreShortItems n no_items = Unit {0}
  AreShortItems n (item d ds) = AreShort n d × AreShortItems n ds

  AreShortMembers : ℕ → Members → Type 0
  AreShortMembers n no_members = Unit {0}
  AreShortMembers n (member k d ms) = AreShort n d × AreShortMembers n ms

own_short : (n : ℕ) (d : Json) → AreShort n d → IsShort n d
own_short n null s = (λ x e. none_some x e, λ us e. none_some us e)
own_short n (truth b) s = (λ x e. none_some x e, λ us e. none_some us e)
own_short n (number m) s = (λ x e. none_some x e, λ us e. none_some us e)
own_short n other_number s = (λ x e. none_some x e, λ us e. none_some us e)
own_short n (string us) s = s
own_short n (list ds) s = s.0
own_short n (object ms) s = (λ x e. none_some x e, λ us e. none_some us e)

found_short : (n : ℕ) (k : List ℕ) (ms : Members) (d : Json) → AreShortMembers n ms → find_member k ms ≡ Some d → AreShort n d
found_short n k no_members d s e = none_some d e
found_short n k (member l v ms) d s e = here (bytes_eq l k) e (found_short n k ms d s.1)
  where
    here : (b : Bool) → (if b then Some v else find_member k ms) ≡ Some d → (find_member k ms ≡ Some d → AreShort n d) → AreShort n d
    here true f later = subst (AreShort n) (some_same v d f) s.0
    here false f later = later f

module _ (n : ℕ) (h : 0 < n) where
  -- ---- fields that hold no node

  of_none : (p q : Parts) → Some p ≡ Some q → longest_text p ≡ 0 → longest_text q < n
  of_none p q e z = subst (λ (x : Parts). longest_text x < n) (some_same p q e) (omega (arith, z, h))

  text_short : (o : Option (List ℕ)) (p : Parts) → ((x : List ℕ) → o ≡ Some x → length x < n) → option_map (λ x. one (text x)) o ≡ Some p → longest_text p < n
  text_short o p short e =
      let a = map_some (λ x. one (text x)) o p e in
      let own : length a.0 < n = short a.0 a.1 in
      subst (λ (x : Parts). longest_text x < n) a.2 (omega (arith, own, h))

  units_short : (o : Option (List ℕ)) (p : Parts) → ((us : List ℕ) → o ≡ Some us → length (wtf8 us) < n) → option_map (λ us. one (units us)) o ≡ Some p → longest_text p < n
  units_short o p short e =
      let a = map_some (λ us. one (units us)) o p e in
      let own : length (wtf8 a.0) < n = short a.0 a.1 in
      subst (λ (x : Parts). longest_text x < n) a.2 (omega (arith, own, h))

  number_short : (f : ℕ → Atom) (none : (k : ℕ) → text_bytes (f k) ≡ 0) (o : Option ℕ) (p : Parts) → option_map (λ k. one (f k)) o ≡ Some p → longest_text p < n
  number_short f none o p e =
      let a = map_some (λ k. one (f k)) o p e in
      let own : text_bytes (f a.0) ≡ 0 = none a.0 in
      subst (λ (x : Parts). longest_text x < n) a.2 (omega (arith, own, h))

  null_short : (b : Bool) (o : Option Parts) (p : Parts) → (if b then Some (one empty) else o) ≡ Some p → (o ≡ Some p → longest_text p < n) → longest_text p < n
  null_short true o p e some = of_none (one empty) p e refl
  null_short false o p e some = some e

  flag_short : (d : Json) (p : Parts) → part_from Flag [] d None (λ holes. None) ≡ Some p → longest_text p < n
  flag_short null p e = none_some p e
  flag_short (truth b) p e = of_none (one (flag b)) p e refl
  flag_short (number m) p e = none_some p e
  flag_short other_number p e = none_some p e
  flag_short (string us) p e = none_some p e
  flag_short (list ds) p e = none_some p e
  flag_short (object ms) p e = none_some p e

  name_short : (d : Json) (p : Parts) → IsShort n d → name_part d ≡ Some p → longest_text p < n
  name_short d p s e =
      let a = then_some (λ x. if is_identifier_name x then Some (one (text x)) else None) (text_in d) p e in
      let b = if_some (is_identifier_name a.0) (Some (one (text a.0))) p a.2 in
      text_short (Some a.0) p (λ x f. s.0 x (a.1 ∙ f)) b.1

  value_short : (d : Json) (p : Parts) → IsShort n d → value_part d ≡ Some p → longest_text p < n
  value_short null p s e = of_none (one empty) p e refl
  value_short (truth b) p s e = of_none (one (flag b)) p e refl
  value_short (number m) p s e = number_short whole (λ k. refl) (below (2 ^ 64) (number m)) p e
  value_short other_number p s e = none_some p e
  value_short (string us) p s e = units_short (units_in (string us)) p s.1 e
  value_short (list ds) p s e = units_short (units_in (list ds)) p s.1 e
  value_short (object no_members) p s e = of_none (one empty) p e refl
  value_short (object (member k d ms)) p s e = none_some p e

  found_text : (o : Option Json) (p : Parts) → ((d : Json) → o ≡ Some d → AreShort n d) → option_map (λ x. one (text x)) (option_and_then text_in o) ≡ Some p → longest_text p < n
  found_text None p s e = none_some p e
  found_text (Some d) p s e = text_short (text_in d) p (own_short n d (s d refl)).0 e

  regex_short : (k : List ℕ) (d : Json) (p : Parts) → AreShort n d → regex_part k d ≡ Some p → longest_text p < n
  regex_short k null p s e = of_none (one empty) p e refl
  regex_short k (truth b) p s e = none_some p e
  regex_short k (number m) p s e = none_some p e
  regex_short k other_number p s e = none_some p e
  regex_short k (string us) p s e = none_some p e
  regex_short k (list ds) p s e = none_some p e
  regex_short k (object ms) p s e = found_text (find_member k ms) p (λ d f. found_short n k ms d s f) (if_some _ _ p e).1

  half_short : (optional : Bool) (o : Option Json) (p : Parts) → ((d : Json) → o ≡ Some d → AreShort n d)
      → (elim o [ None ↦ (if optional then Some (one empty) else None) | Some d ↦ (if optional && is_null_value d then Some (one empty) else option_map (λ us. one (units us)) (units_in d)) ]) ≡ Some p
      → longest_text p < n
  half_short optional None p s e = of_none (one empty) p (if_some optional (Some (one empty)) p e).1 refl
  half_short optional (Some d) p s e = null_short (optional && is_null_value d) _ p e (λ f. units_short (units_in d) p (own_short n d (s d refl)).1 f)

  template_short : (optional : Bool) (k : List ℕ) (d : Json) (p : Parts) → AreShort n d → template_part optional k d ≡ Some p → longest_text p < n
  template_short optional k null p s e = none_some p e
  template_short optional k (truth b) p s e = none_some p e
  template_short optional k (number m) p s e = none_some p e
  template_short optional k other_number p s e = none_some p e
  template_short optional k (string us) p s e = none_some p e
  template_short optional k (list ds) p s e = none_some p e
  template_short optional k (object ms) p s e = half_short optional (find_member k ms) p (λ d f. found_short n k ms d s f) (if_some _ _ p e).1

  absent_short : (class : FieldClass) (p : Parts) → absent class ≡ Some p → longest_text p < n
  absent_short Flag p e = of_none (one (flag false)) p e refl
  absent_short (Word w) p e = none_some p e
  absent_short TextClass p e = none_some p e
  absent_short TextOr p e = of_none (one empty) p e refl
  absent_short Name p e = none_some p e
  absent_short LiteralValue p e = of_none (one empty) p e refl
  absent_short Pattern p e = of_none (one empty) p e refl
  absent_short Flags p e = of_none (one empty) p e refl
  absent_short Raw p e = none_some p e
  absent_short Cooked p e = none_some p e
  absent_short (One g) p e = none_some p e
  absent_short (Maybe g) p e = of_none (one empty) p e refl
  absent_short (Many g) p e = none_some p e
  absent_short (ManyOr g) p e = of_none (many done done) p e refl
  absent_short (Holes g) p e = none_some p e

  -- ---- one field

  -- what is read of a value has fewer than n bytes in each text
  abbrev IsShortRead : Json → Type 0
  IsShortRead d = ((t : Tree) → shape_of d ≡ Some t → longest_text t.fields < n) × ((holes : Bool) (us : Parts) → list_of d holes ≡ Some us → longest_text us < n)

  child_short : (d : Json) (p : Parts) → IsShortRead d → option_map alone (shape_of d) ≡ Some p → longest_text p < n
  child_short d p c e =
      let a = map_some alone (shape_of d) p e in
      let own : longest_text a.0.fields < n = c.0 a.0 a.1 in
      subst (λ (x : Parts). longest_text x < n) a.2 (omega (arith, own, h))

  list_short : (d : Json) (holes : Bool) (p : Parts) → IsShortRead d → option_map (λ us. many us done) (list_of d holes) ≡ Some p → longest_text p < n
  list_short d holes p c e =
      let a = map_some (λ us. many us done) (list_of d holes) p e in
      let own : longest_text a.0 < n = c.1 holes a.0 a.1 in
      subst (λ (x : Parts). longest_text x < n) a.2 (omega (arith, own, h))

  part_short : (class : FieldClass) (k : List ℕ) (d : Json) (p : Parts) → AreShort n d → IsShortRead d → part_from class k d (shape_of d) (list_of d) ≡ Some p → longest_text p < n
  part_short (One g) k d p s c e = child_short d p c e
  part_short (Maybe g) k d p s c e = null_short (is_null_value d) _ p e (λ f. child_short d p c f)
  part_short (Many g) k d p s c e = list_short d false p c e
  part_short (ManyOr g) k d p s c e = list_short d false p c e
  part_short (Holes g) k d p s c e = list_short d true p c e
  part_short Flag k d p s c e = flag_short d p e
  part_short (Word w) k d p s c e = number_short word (λ m. refl) _ p e
  part_short TextClass k d p s c e = text_short (text_in d) p (own_short n d s).0 e
  part_short TextOr k d p s c e = null_short (is_null_value d) _ p e (λ f. text_short (text_in d) p (own_short n d s).0 f)
  part_short Name k d p s c e = name_short d p (own_short n d s) e
  part_short LiteralValue k d p s c e = value_short d p (own_short n d s) e
  part_short Pattern k d p s c e = regex_short k d p s e
  part_short Flags k d p s c e = regex_short k d p s e
  part_short Raw k d p s c e = template_short false k d p s e
  part_short Cooked k d p s c e = template_short true k d p s e

  -- ---- a node

  run_short : (part : Column → Option Parts) → ((c : Column) (p : Parts) → part c ≡ Some p → longest_text p < n)
      → (cs : List Column) (ps : Parts) → run_of part cs ≡ Some ps → longest_text ps < n
  run_short part each [] ps e = of_none done ps e refl
  run_short part each (c ∷ cs) ps e =
      let a = then_some (λ p. option_map (onto p) (run_of part cs)) (part c) ps e in
      let m = map_some (onto a.0) (run_of part cs) ps a.2 in
      let first : longest_text a.0 < n = each c a.0 a.1 in
      let rest : longest_text m.0 < n = run_short part each cs m.0 m.1 in
      let both : longest_text (onto a.0 m.0) ≡ max (longest_text a.0) (longest_text m.0) = longest_onto a.0 m.0 in
      subst (λ (x : Parts). longest_text x < n) m.2 (omega (arith, first, rest, both))

  node_short : (ms : Members) (t : Tree) → ((c : Column) (p : Parts) → part_in ms c ≡ Some p → longest_text p < n)
      → shape_from ms (λ c. part_in ms c) ≡ Some t → longest_text t.fields < n
  node_short ms t each e =
      let r = then_some _ (row_for ms) t e in
      let s = then_some _ (offset_of (find_member (codes "start") ms)) t r.2 in
      let p = then_some _ (offset_of (find_member (codes "end") ms)) t s.2 in
      let k = if_some (are_distinct ms && only_known r.0.columns ms && is_paired r.0.kind ms) _ t p.2 in
      let fs = map_some _ (run_of (λ c. part_in ms c) r.0.columns) t k.1 in
      let fields : longest_text fs.0 < n = run_short (λ c. part_in ms c) each r.0.columns fs.0 fs.1 in
      subst (λ (x : Tree). longest_text x.fields < n) fs.2 fields

  here_short : (b : Bool) (c : Column) (p : Parts) (d : Json) (rest : Option Parts)
      → (if b then part_from c.class c.key d (shape_of d) (list_of d) else rest) ≡ Some p
      → AreShort n d → IsShortRead d → (rest ≡ Some p → longest_text p < n) → longest_text p < n
  here_short true c p d rest e s own later = part_short c.class c.key d p s own e
  here_short false c p d rest e s own later = later e

  mutual
    short_read : (d : Json) → AreShort n d → IsShortRead d
    short_read null s = (λ t e. none_some t e, λ holes us e. none_some us e)
    short_read (truth b) s = (λ t e. none_some t e, λ holes us e. none_some us e)
    short_read (number m) s = (λ t e. none_some t e, λ holes us e. none_some us e)
    short_read other_number s = (λ t e. none_some t e, λ holes us e. none_some us e)
    short_read (string xs) s = (λ t e. none_some t e, λ holes us e. none_some us e)
    short_read (list ds) s = (λ t e. none_some t e, λ holes us e. items_short ds holes us s.1 e)
    short_read (object ms) s = (λ t e. node_short ms t (λ c p f. member_short ms c p s f) e, λ holes us e. none_some us e)

    items_short : (ds : Items) (holes : Bool) (ps : Parts) → AreShortItems n ds → items_from ds holes ≡ Some ps → longest_text ps < n
    items_short no_items holes ps s e = of_none done ps e refl
    items_short (item d ds) holes ps s e =
        let a = then_some (λ p. option_map (onto p) (items_from ds holes)) (or_hole holes d (option_map alone (shape_of d))) ps e in
        let m = map_some (onto a.0) (items_from ds holes) ps a.2 in
        let first : longest_text a.0 < n = null_short (holes && is_null_value d) _ a.0 a.1 (λ f. child_short d a.0 (short_read d s.0) f) in
        let rest : longest_text m.0 < n = items_short ds holes m.0 s.1 m.1 in
        let both : longest_text (onto a.0 m.0) ≡ max (longest_text a.0) (longest_text m.0) = longest_onto a.0 m.0 in
        subst (λ (x : Parts). longest_text x < n) m.2 (omega (arith, first, rest, both))

    member_short : (ms : Members) (c : Column) (p : Parts) → AreShortMembers n ms → part_in ms c ≡ Some p → longest_text p < n
    member_short no_members c p s e = absent_short c.class p e
    member_short (member k d ms) c p s e = here_short (bytes_eq k (outer_key c)) c p d (part_in ms c) e s.0 (short_read d s.0) (λ f. member_short ms c p s.1 f)

-- ---- values of `serde_json`

string_data : (s : List ℕ) → IsUtf8 s → is_long_text s ≡ false → IsShort (2 ^ 32) (string (units_of s))
string_data s utf8 e =
    let short : length s < 2 ^ 32 = grind (arith, nat_tests, e) in (
      λ x f. subst (λ (y : List ℕ). length y < 2 ^ 32) (some_same s x (sym (text_of_units-units_of s utf8) ∙ f)) short,
      λ us f.
          let own = (if_some (are_code_units (units_of s)) (Some (units_of s)) us f).1 in
          subst (λ (y : List ℕ). length (wtf8 y) < 2 ^ 32) (some_same (units_of s) us own) (subst (λ (y : List ℕ). length y < 2 ^ 32) (sym (IsWtf8-IsUtf8 s utf8).canonical) short),
    )

unit_count : (ds : parsed.Items) (us : List ℕ) → units_in_list (items_of ds) ≡ Some us → length us ≡ items_len ds
unit_count parsed.no_items us e = ap length (sym (some_same [] us e))
unit_count (parsed.item d ds) us e =
    let a = then_some (λ u. option_map (λ us. u ∷ us) (units_in_list (items_of ds))) (below (2 ^ 16) (json_of d)) us e in
    let m = map_some (λ us. a.0 ∷ us) (units_in_list (items_of ds)) us a.2 in
    ap length (sym m.2) ∙ ap suc (unit_count ds m.0 m.1)

list_data : (ds : parsed.Items) → is_long_array ds ≡ false → IsShort (2 ^ 32) (list (items_of ds))
list_data ds e =
    let short : items_len ds < 2 ^ 30 = grind (arith, nat_tests, e) in (
      λ x f. none_some x f,
      λ us f.
          let long : length us ≡ items_len ds = unit_count ds us f in
          let bytes : length (wtf8 us) ≤ 3 * length us = units_bytes us (listed_units (items_of ds) us f) in
          omega (arith, short, long, bytes),
    )

number_data : (m : parsed.Num) → AreShort (2 ^ 32) (number_of m)
number_data (parsed.unsigned m) = tt
number_data (parsed.negative z) = tt
number_data (parsed.float x) = tt

mutual
  data_short : (d : parsed.Data) → AreTexts d → has_long_part d ≡ false → AreShort (2 ^ 32) (json_of d)
  data_short parsed.null u e = tt
  data_short (parsed.boolean b) u e = tt
  data_short (parsed.number m) u e = number_data m
  data_short (parsed.string s) u e = string_data s u e
  data_short (parsed.array ds) u e =
      let both = neither (is_long_array ds) (has_long_item ds) e in
      (list_data ds both.0, items_data ds u both.1)
  data_short (parsed.object ms) u e = members_data ms u e

  items_data : (ds : parsed.Items) → AreItemTexts ds → has_long_item ds ≡ false → AreShortItems (2 ^ 32) (items_of ds)
  items_data parsed.no_items u e = tt
  items_data (parsed.item d ds) u e =
      let both = neither (has_long_part d) (has_long_item ds) e in
      (data_short d u.0 both.0, items_data ds u.1 both.1)

  members_data : (ms : parsed.Members) → AreMemberTexts ms → has_long_member ms ≡ false → AreShortMembers (2 ^ 32) (members_of ms)
  members_data parsed.no_members u e = tt
  members_data (parsed.member k d ms) u e =
      let three = neither (is_long_text k || has_long_part d) (has_long_member ms) e in
      let two = neither (is_long_text k) (has_long_part d) three.0 in
      (data_short d u.0 two.1, members_data ms u.1 three.1)

-- the texts of a tree that is read within the limits
pub texts_are_short : (v : Value) (t : Tree) (more : ℕ) → is_too_large (view v) more ≡ false → tree_of (json_of (view v)) ≡ Some t → longest_text t.fields < 2 ^ 32
unfolding is_too_large
texts_are_short v t more small e =
    (short_read (2 ^ 32) (omega arith) (json_of (view v)) (data_short (view v) (value_texts v) (neither _ (has_long_part (view v)) small).1)).0 t (shape_read (json_of (view v)) t e).0
