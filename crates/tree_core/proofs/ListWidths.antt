-- A tree that is read has no wider lists than its value has arrays.
use Rattle.std.proofs.Common.{◌≡◌, ℕ, suc, ◌+◌, ◌<◌, ◌^◌, max, List, [], ◌∷◌, Bool, true, false, ◌&&◌, ◌||◌, Option, Some, option_map, if◌then◌else◌, refl, sym, ap, ◌∙◌, subst, arith, bytes_eq, codes}
use Rattle.std.proofs.lemmas.Bool.Decides.{nat_tests}
use Rattle.json_text.specs.Json.{Json, null, truth, whole as number, other_number, string, list, object, Items, no_items, item, Members, no_members, member}
use Rattle.serde_json.specs.Data as parsed
use Rattle.serde_json.specs.Events.{items_len}
use Rattle.tree_nodes.specs.Look.{onto, parts_len}
use Rattle.tree_nodes.specs.Table.{Column}
use Rattle.tree_nodes.specs.Tree.{Parts, Tree, alone, atom, child, done, empty, many}
use Rattle.tree_nodes.specs.declared.table.Class.{Class as FieldClass}
use Rattle.tree_nodes.specs.declared.table.Class.TheVariants.{Cooked, Flag, Flags, Holes, LiteralValue, Many, ManyOr, Maybe, Name, One, Pattern, Raw, Text as TextClass, TextOr, Word}
use Rattle.tree_core.specs.JsonOf.{json_of, items_of, members_of, number_of}
use Rattle.tree_core.specs.Limits.{has_long_item, has_long_member, has_long_part, is_long_array, is_long_text, is_too_large}
use Rattle.tree_core.specs.Reading.{are_distinct, find_member, is_null_value, is_paired, items_from, list_of, offset_of, one, only_known, or_hole, outer_key, part_from, part_in, row_for, run_of, shape_from, shape_of, tree_of}
use Rattle.tree_core.specs.Widest.{widest_list}
use Rattle.tree_nodes.proofs.Cases.{if_some, map_some, neither, none_some, some_same, then_some}
use Rattle.tree_core.proofs.Datums as datums
use Rattle.tree_core.proofs.Datums.{is_datum}
use Rattle.tree_core.proofs.ReadsBack.{shape_read}

-- how many items a list has, and whether each list of a value has fewer than n
abbrev items_count : Items → ℕ
items_count no_items = 0
items_count (item d ds) = suc (items_count ds)

abbrev mutual
  AreNarrow : ℕ → Json → Type 0
  AreNarrow n null = Unit {0}
  AreNarrow n (truth b) = Unit {0}
  AreNarrow n (number m) = Unit {0}
  AreNarrow n other_number = Unit {0}
  AreNarrow n (string us) = Unit {0}
  AreNarrow n (list ds) = (items_count ds < n) × AreNarrowItems n ds
  AreNarrow n (object ms) = AreNarrowMembers n ms

  AreNarrowItems : ℕ → Items → Type 0
  AreNarrowItems n no_items = Unit {0}
  AreNarrowItems n (item d ds) = AreNarrow n d × AreNarrowItems n ds

  AreNarrowMembers : ℕ → Members → Type 0
  AreNarrowMembers n no_members = Unit {0}
  AreNarrowMembers n (member k d ms) = AreNarrow n d × AreNarrowMembers n ms

len_onto : (p q : Parts) → parts_len (onto p q) ≡ parts_len p + parts_len q
len_onto done q = omega arith
len_onto (atom a p) q = omega (arith, len_onto p q)
len_onto (child k s e fields p) q = omega (arith, len_onto p q)
len_onto (many items p) q = omega (arith, len_onto p q)

pub widest_onto : (p q : Parts) → widest_list (onto p q) ≡ max (widest_list p) (widest_list q)
widest_onto done q = omega arith
widest_onto (atom a p) q = widest_onto p q
widest_onto (child k s e fields p) q = omega (arith, widest_onto p q)
widest_onto (many items p) q = omega (arith, widest_onto p q)

-- ---- one field

-- what is read of a value has fewer than n items in each list
abbrev IsNarrowRead : ℕ → Json → Type 0
IsNarrowRead n d = ((t : Tree) → shape_of d ≡ Some t → widest_list t.fields < n)
    × ((holes : Bool) (us : Parts) → list_of d holes ≡ Some us → (parts_len us < n) × (widest_list us < n))

of_none : (n : ℕ) (p : Parts) → 0 < n → widest_list p ≡ 0 → widest_list p < n
of_none n p h e = omega arith

null_narrow : (n : ℕ) (b : Bool) (o : Option Parts) (p : Parts) → 0 < n → (if b then Some (one empty) else o) ≡ Some p → (o ≡ Some p → widest_list p < n) → widest_list p < n
null_narrow n true o p h e some = of_none n p h (datums.same_none widest_list (λ a. refl) refl (one empty) p e refl)
null_narrow n false o p h e some = some e

child_narrow : (n : ℕ) (d : Json) (p : Parts) → 0 < n → IsNarrowRead n d → option_map alone (shape_of d) ≡ Some p → widest_list p < n
child_narrow n d p h c e =
    let a = map_some alone (shape_of d) p e in
    let own : widest_list a.0.fields < n = c.0 a.0 a.1 in
    subst (λ x. widest_list x < n) a.2 (omega (arith, own, h))

list_narrow : (n : ℕ) (d : Json) (holes : Bool) (p : Parts) → 0 < n → IsNarrowRead n d → option_map (λ us. many us done) (list_of d holes) ≡ Some p → widest_list p < n
list_narrow n d holes p h c e =
    let a = map_some (λ us. many us done) (list_of d holes) p e in
    let own : (parts_len a.0 < n) × (widest_list a.0 < n) = c.1 holes a.0 a.1 in
    let long : parts_len a.0 < n = own.0 in
    let wide : widest_list a.0 < n = own.1 in
    subst (λ x. widest_list x < n) a.2 (omega (arith, long, wide, h))

datum_narrow : (n : ℕ) (class : FieldClass) (k : List ℕ) (d : Json) (p : Parts) → 0 < n → is_datum class ≡ true → part_from class k d (shape_of d) (list_of d) ≡ Some p → widest_list p < n
datum_narrow n class k d p h datum e = of_none n p h (datums.datum_none widest_list (λ a. refl) refl class k d p datum e)

part_narrow : (n : ℕ) (class : FieldClass) (k : List ℕ) (d : Json) (p : Parts) → 0 < n → IsNarrowRead n d → part_from class k d (shape_of d) (list_of d) ≡ Some p → widest_list p < n
part_narrow n (One g) k d p h c e = child_narrow n d p h c e
part_narrow n (Maybe g) k d p h c e = null_narrow n (is_null_value d) _ p h e (λ f. child_narrow n d p h c f)
part_narrow n (Many g) k d p h c e = list_narrow n d false p h c e
part_narrow n (ManyOr g) k d p h c e = list_narrow n d false p h c e
part_narrow n (Holes g) k d p h c e = list_narrow n d true p h c e
part_narrow n Flag k d p h c e = datum_narrow n Flag k d p h refl e
part_narrow n (Word w) k d p h c e = datum_narrow n (Word w) k d p h refl e
part_narrow n TextClass k d p h c e = datum_narrow n TextClass k d p h refl e
part_narrow n TextOr k d p h c e = datum_narrow n TextOr k d p h refl e
part_narrow n Name k d p h c e = datum_narrow n Name k d p h refl e
part_narrow n LiteralValue k d p h c e = datum_narrow n LiteralValue k d p h refl e
part_narrow n Pattern k d p h c e = datum_narrow n Pattern k d p h refl e
part_narrow n Flags k d p h c e = datum_narrow n Flags k d p h refl e
part_narrow n Raw k d p h c e = datum_narrow n Raw k d p h refl e
part_narrow n Cooked k d p h c e = datum_narrow n Cooked k d p h refl e

-- ---- a node

run_narrow : (n : ℕ) (part : Column → Option Parts) → 0 < n → ((c : Column) (p : Parts) → part c ≡ Some p → widest_list p < n)
    → (cs : List Column) (ps : Parts) → run_of part cs ≡ Some ps → widest_list ps < n
run_narrow n part h each [] ps e = subst (λ x. widest_list x < n) (some_same done ps e) h
run_narrow n part h each (c ∷ cs) ps e =
    let a = then_some (λ p. option_map (onto p) (run_of part cs)) (part c) ps e in
    let m = map_some (onto a.0) (run_of part cs) ps a.2 in
    let first : widest_list a.0 < n = each c a.0 a.1 in
    let rest : widest_list m.0 < n = run_narrow n part h each cs m.0 m.1 in
    let both : widest_list (onto a.0 m.0) ≡ max (widest_list a.0) (widest_list m.0) = widest_onto a.0 m.0 in
    subst (λ x. widest_list x < n) m.2 (omega (arith, first, rest, both))

node_narrow : (n : ℕ) (ms : Members) (t : Tree) → 0 < n → ((c : Column) (p : Parts) → part_in ms c ≡ Some p → widest_list p < n)
    → shape_from ms (λ c. part_in ms c) ≡ Some t → widest_list t.fields < n
node_narrow n ms t h each e =
    let r = then_some _ (row_for ms) t e in
    let s = then_some _ (offset_of (find_member (codes "start") ms)) t r.2 in
    let p = then_some _ (offset_of (find_member (codes "end") ms)) t s.2 in
    let k = if_some (are_distinct ms && only_known r.0.columns ms && is_paired r.0.kind ms) _ t p.2 in
    let fs = map_some _ (run_of (λ c. part_in ms c) r.0.columns) t k.1 in
    let fields : widest_list fs.0 < n = run_narrow n (λ c. part_in ms c) h each r.0.columns fs.0 fs.1 in
    subst (λ (x : Tree). widest_list x.fields < n) fs.2 fields

here_narrow : (n : ℕ) (b : Bool) (c : Column) (p : Parts) (d : Json) (rest : Option Parts) → 0 < n
    → (if b then part_from c.class c.key d (shape_of d) (list_of d) else rest) ≡ Some p
    → IsNarrowRead n d → (rest ≡ Some p → widest_list p < n) → widest_list p < n
here_narrow n true c p d rest h e own later = part_narrow n c.class c.key d p h own e
here_narrow n false c p d rest h e own later = later e

-- one item is a null or a node
one_item : (holes : Bool) (d : Json) (p : Parts) → or_hole holes d (option_map alone (shape_of d)) ≡ Some p → parts_len p ≡ 1
one_item holes d p e = by_test (holes && is_null_value d) e
  where
    by_test : (b : Bool) → (if b then Some (one empty) else option_map alone (shape_of d)) ≡ Some p → parts_len p ≡ 1
    by_test true f = ap parts_len (sym (some_same (one empty) p f))
    by_test false f = let a = map_some alone (shape_of d) p f in ap parts_len (sym a.2)

as_long : (n : ℕ) (ds : Items) (ps : Parts) → items_count ds < n → (parts_len ps ≡ items_count ds) × (widest_list ps < n) → (parts_len ps < n) × (widest_list ps < n)
as_long n ds ps few (same, wide) = (omega (arith, same, few), wide)

mutual
  narrow_read : (n : ℕ) (d : Json) → 0 < n → AreNarrow n d → IsNarrowRead n d
  narrow_read n null h w = (λ t e. none_some t e, λ holes us e. none_some us e)
  narrow_read n (truth b) h w = (λ t e. none_some t e, λ holes us e. none_some us e)
  narrow_read n (number m) h w = (λ t e. none_some t e, λ holes us e. none_some us e)
  narrow_read n other_number h w = (λ t e. none_some t e, λ holes us e. none_some us e)
  narrow_read n (string xs) h w = (λ t e. none_some t e, λ holes us e. none_some us e)
  narrow_read n (list ds) h w = (λ t e. none_some t e, λ holes us e. as_long n ds us w.0 (items_read n ds holes us h w.1 e))
  narrow_read n (object ms) h w = (λ t e. node_narrow n ms t h (λ c p f. member_narrow n ms c p h w f) e, λ holes us e. none_some us e)

  items_read : (n : ℕ) (ds : Items) (holes : Bool) (ps : Parts) → 0 < n → AreNarrowItems n ds → items_from ds holes ≡ Some ps
      → (parts_len ps ≡ items_count ds) × (widest_list ps < n)
  items_read n no_items holes ps h w e = (ap parts_len (sym (some_same done ps e)), subst (λ x. widest_list x < n) (some_same done ps e) h)
  items_read n (item d ds) holes ps h w e =
      let a = then_some (λ p. option_map (onto p) (items_from ds holes)) (or_hole holes d (option_map alone (shape_of d))) ps e in
      let m = map_some (onto a.0) (items_from ds holes) ps a.2 in
      let first : widest_list a.0 < n = null_narrow n (holes && is_null_value d) _ a.0 h a.1 (λ f. child_narrow n d a.0 h (narrow_read n d h w.0) f) in
      let single : parts_len a.0 ≡ 1 = one_item holes d a.0 a.1 in
      let rest = items_read n ds holes m.0 h w.1 m.1 in
      let count : parts_len m.0 ≡ items_count ds = rest.0 in
      let narrow : widest_list m.0 < n = rest.1 in
      let long : parts_len (onto a.0 m.0) ≡ parts_len a.0 + parts_len m.0 = len_onto a.0 m.0 in
      let wide : widest_list (onto a.0 m.0) ≡ max (widest_list a.0) (widest_list m.0) = widest_onto a.0 m.0 in
      (ap parts_len (sym m.2) ∙ omega (arith, single, count, long), subst (λ x. widest_list x < n) m.2 (omega (arith, first, narrow, wide)))

  member_narrow : (n : ℕ) (ms : Members) (c : Column) (p : Parts) → 0 < n → AreNarrowMembers n ms → part_in ms c ≡ Some p → widest_list p < n
  member_narrow n no_members c p h w e = of_none n p h (datums.absent_none widest_list (λ a. refl) refl c.class p e)
  member_narrow n (member k d ms) c p h w e =
      here_narrow n (bytes_eq k (outer_key c)) c p d (part_in ms c) h e (narrow_read n d h w.0) (λ f. member_narrow n ms c p h w.1 f)

-- ---- values of `serde_json`

count-items_of : (ds : parsed.Items) → items_count (items_of ds) ≡ items_len ds
count-items_of parsed.no_items = refl
count-items_of (parsed.item d ds) = ap suc (count-items_of ds)

number_narrow : (n : ℕ) (m : parsed.Num) → AreNarrow n (number_of m)
number_narrow n (parsed.unsigned m) = tt
number_narrow n (parsed.negative z) = tt
number_narrow n (parsed.float x) = tt

mutual
  data_narrow : (d : parsed.Data) → has_long_part d ≡ false → AreNarrow (2 ^ 30) (json_of d)
  data_narrow parsed.null e = tt
  data_narrow (parsed.boolean b) e = tt
  data_narrow (parsed.number n) e = number_narrow (2 ^ 30) n
  data_narrow (parsed.string s) e = tt
  data_narrow (parsed.array ds) e =
      let both = neither (is_long_array ds) (has_long_item ds) e in
      let same : items_count (items_of ds) ≡ items_len ds = count-items_of ds in
      let short = both.0 in
      (grind (arith, nat_tests, same, short), items_data_narrow ds both.1)
  data_narrow (parsed.object ms) e = members_data_narrow ms e

  items_data_narrow : (ds : parsed.Items) → has_long_item ds ≡ false → AreNarrowItems (2 ^ 30) (items_of ds)
  items_data_narrow parsed.no_items e = tt
  items_data_narrow (parsed.item d ds) e =
      let both = neither (has_long_part d) (has_long_item ds) e in
      (data_narrow d both.0, items_data_narrow ds both.1)

  members_data_narrow : (ms : parsed.Members) → has_long_member ms ≡ false → AreNarrowMembers (2 ^ 30) (members_of ms)
  members_data_narrow parsed.no_members e = tt
  members_data_narrow (parsed.member k d ms) e =
      let three = neither (is_long_text k || has_long_part d) (has_long_member ms) e in
      let two = neither (is_long_text k) (has_long_part d) three.0 in
      (data_narrow d two.1, members_data_narrow ms three.1)

-- the lists of a tree that is read within the limits
pub lists_are_narrow : (d : parsed.Data) (t : Tree) (more : ℕ) → is_too_large d more ≡ false → tree_of (json_of d) ≡ Some t → widest_list t.fields < 2 ^ 30
unfolding is_too_large
lists_are_narrow d t more small e =
    (narrow_read (2 ^ 30) (json_of d) (omega arith) (data_narrow d (neither _ (has_long_part d) small).1)).0 t (shape_read (json_of d) t e).0
