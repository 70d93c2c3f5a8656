-- A tree that is read has at most as many nodes as its value has objects.
use Rattle.std.proofs.Common.{◌≡◌, ℕ, suc, ◌+◌, ◌≤◌, ◌<◌, ◌^◌, List, [], ◌∷◌, Bool, true, false, not, ◌&&◌, ◌||◌, Option, Some, None, option_map, if◌then◌else◌, refl, sym, ap, ◌∙◌, subst, arith, bytes_eq, codes}
use Rattle.std.specs.List.{list_all}
use Rattle.std.proofs.lemmas.Bool.Decides.{nat_tests}
use Rattle.json_text.specs.Json.{Json, null, truth, whole as number, other_number, string, list, object, Items, no_items, item, Members, no_members, member}
use Rattle.serde_json.specs.Data as parsed
use Rattle.tree_nodes.specs.Kinds.{all_kinds}
use Rattle.tree_nodes.specs.Look.{onto}
use Rattle.tree_nodes.specs.Table.{Column, Row, row}
use Rattle.tree_nodes.specs.Tree.{Parts, Tree, alone, atom, child, done, empty, many}
use Rattle.tree_nodes.specs.declared.kind.Kind.{Kind}
use Rattle.tree_nodes.specs.declared.table.Class.{Class as FieldClass}
use Rattle.tree_nodes.specs.declared.table.Class.TheVariants.{Cooked, Flag, Flags, Holes, LiteralValue, Many, ManyOr, Maybe, Name, One, Pattern, Raw, Text as TextClass, TextOr, Word}
use Rattle.tree_core.specs.JsonOf.{json_of, items_of, members_of, number_of}
use Rattle.tree_core.specs.Limits.{is_too_large, has_long_part, objects_in, objects_in_items, objects_in_members}
use Rattle.tree_core.specs.NodeCount.{nodes_in, node_count}
use Rattle.tree_core.specs.Reading.{absent, are_distinct, find_member, is_listed, is_null_value, is_paired, items_from, list_of, offset_of, one, only_known, or_hole, outer_key, part_from, part_in, row_for, run_of, shape_from, shape_of, tree_of}
use Rattle.tree_nodes.proofs.Cases.{both, bytes_equal, bytes_same, if_some, map_some, neither, none_some, not_true, some_same, then_some}
use Rattle.tree_core.proofs.Datums as datums
use Rattle.tree_core.proofs.Datums.{is_datum}
use Rattle.tree_core.proofs.FieldUnderKey.{part_found, part_in-part_found}
use Rattle.tree_core.proofs.ReadFits.{row_of_object}
use Rattle.tree_core.proofs.ReadsBack.{shape_read}
use Rattle.tree_nodes.proofs.EachKind.{of_each}

-- how many objects a value has, itself included
abbrev mutual
  objects : Json → ℕ
  objects null = 0
  objects (truth b) = 0
  objects (number n) = 0
  objects other_number = 0
  objects (string us) = 0
  objects (list ds) = item_objects ds
  objects (object ms) = suc (member_objects ms)

  item_objects : Items → ℕ
  item_objects no_items = 0
  item_objects (item d ds) = objects d + item_objects ds

  member_objects : Members → ℕ
  member_objects no_members = 0
  member_objects (member k d ms) = objects d + member_objects ms

nodes_onto : (p q : Parts) → nodes_in (onto p q) ≡ nodes_in p + nodes_in q
nodes_onto done q = omega arith
nodes_onto (atom a p) q = nodes_onto p q
nodes_onto (child k s e fields p) q = omega (arith, nodes_onto p q)
nodes_onto (many items p) q = omega (arith, nodes_onto p q)

-- ---- fields that hold no node

same_none : (p q : Parts) → Some p ≡ Some q → nodes_in p ≡ 0 → nodes_in q ≡ 0
same_none p q e z = datums.same_none nodes_in (λ a. refl) refl p q e z

absent_none : (class : FieldClass) (p : Parts) → absent class ≡ Some p → nodes_in p ≡ 0
absent_none class p e = datums.absent_none nodes_in (λ a. refl) refl class p e

-- ---- fields that hold nodes

-- a node that a value is, or a list of nodes, has at most as many nodes as the value has objects
abbrev Counted : Json → Type 0
Counted d = ((t : Tree) → shape_of d ≡ Some t → node_count t ≤ objects d) × ((holes : Bool) (us : Parts) → list_of d holes ≡ Some us → nodes_in us ≤ objects d)

abbrev CountedMembers : Members → Type 0
CountedMembers no_members = Unit {0}
CountedMembers (member k d ms) = Counted d × CountedMembers ms

child_count : (d : Json) (p : Parts) → Counted d → option_map alone (shape_of d) ≡ Some p → nodes_in p ≤ objects d
child_count d p c e =
    let a = map_some alone (shape_of d) p e in
    let own : suc (nodes_in a.0.fields) ≤ objects d = c.0 a.0 a.1 in
    subst (λ x. nodes_in x ≤ objects d) a.2 (omega arith)

list_count : (d : Json) (holes : Bool) (p : Parts) → Counted d → option_map (λ us. many us done) (list_of d holes) ≡ Some p → nodes_in p ≤ objects d
list_count d holes p c e =
    let a = map_some (λ us. many us done) (list_of d holes) p e in
    let own : nodes_in a.0 ≤ objects d = c.1 holes a.0 a.1 in
    subst (λ x. nodes_in x ≤ objects d) a.2 (omega arith)

null_count : (b : Bool) (o : Option Parts) (p : Parts) (n : ℕ) → (if b then Some (one empty) else o) ≡ Some p → (o ≡ Some p → nodes_in p ≤ n) → nodes_in p ≤ n
null_count true o p n e some = let none = same_none (one empty) p e refl in omega arith
null_count false o p n e some = some e

none_count : (p : Parts) (n : ℕ) → nodes_in p ≡ 0 → nodes_in p ≤ n
none_count p n e = omega arith

-- the bound, and nothing where the class holds no node
abbrev AtMost : FieldClass → Parts → ℕ → Type 0
AtMost class p n = (nodes_in p ≤ n) × (is_datum class ≡ true → nodes_in p ≡ 0)

of_datum : (class : FieldClass) (p : Parts) (n : ℕ) → nodes_in p ≡ 0 → AtMost class p n
of_datum class p n e = (none_count p n e, λ h. e)

datum_count : (class : FieldClass) (k : List ℕ) (d : Json) (p : Parts) → is_datum class ≡ true → part_from class k d (shape_of d) (list_of d) ≡ Some p → AtMost class p (objects d)
datum_count class k d p h e = of_datum class p (objects d) (datums.datum_none nodes_in (λ a. refl) refl class k d p h e)

part_count : (class : FieldClass) (k : List ℕ) (d : Json) (p : Parts) → Counted d → part_from class k d (shape_of d) (list_of d) ≡ Some p → AtMost class p (objects d)
part_count Flag k d p c e = datum_count Flag k d p refl e
part_count (Word w) k d p c e = datum_count (Word w) k d p refl e
part_count TextClass k d p c e = datum_count TextClass k d p refl e
part_count TextOr k d p c e = datum_count TextOr k d p refl e
part_count Name k d p c e = datum_count Name k d p refl e
part_count LiteralValue k d p c e = datum_count LiteralValue k d p refl e
part_count Pattern k d p c e = datum_count Pattern k d p refl e
part_count Flags k d p c e = datum_count Flags k d p refl e
part_count Raw k d p c e = datum_count Raw k d p refl e
part_count Cooked k d p c e = datum_count Cooked k d p refl e
part_count (One g) k d p c e = (child_count d p c e, λ h. absurd (cc))
part_count (Maybe g) k d p c e = (null_count (is_null_value d) _ p (objects d) e (λ f. child_count d p c f), λ h. absurd (cc))
part_count (Many g) k d p c e = (list_count d false p c e, λ h. absurd (cc))
part_count (ManyOr g) k d p c e = (list_count d false p c e, λ h. absurd (cc))
part_count (Holes g) k d p c e = (list_count d true p c e, λ h. absurd (cc))

-- ---- the fields of a node

-- no two columns take nodes from one member
abbrev are_apart : List Column → Bool
are_apart [] = true
are_apart (c ∷ cs) = (is_datum c.class || not (is_listed (outer_key c) cs)) && are_apart cs

-- the objects in the members that these columns take
abbrev listed_objects : List Column → Members → ℕ
listed_objects cs no_members = 0
listed_objects cs (member k d ms) = (if is_listed k cs then objects d else 0) + listed_objects cs ms

or_least : (a b : Bool) (n : ℕ) → (if b then n else 0) ≤ (if a || b then n else 0)
or_least true true n = omega arith
or_least true false n = omega arith
or_least false true n = omega arith
or_least false false n = omega arith

if_least : (b : Bool) (n : ℕ) → (if b then n else 0) ≤ n
if_least true n = omega arith
if_least false n = omega arith

one_more_column : (c : Column) (cs : List Column) (ms : Members) → listed_objects cs ms ≤ listed_objects (c ∷ cs) ms
one_more_column c cs no_members = omega arith
one_more_column c cs (member k d ms) = omega (arith, or_least (bytes_eq (outer_key c) k) (is_listed k cs) (objects d), one_more_column c cs ms)

all_listed : (cs : List Column) (ms : Members) → listed_objects cs ms ≤ member_objects ms
all_listed cs no_members = omega arith
all_listed cs (member k d ms) = omega (arith, if_least (is_listed k cs) (objects d), all_listed cs ms)

abbrev IsListedBeside : Column → List Column → Members → Json → Type 0
IsListedBeside c cs ms d = objects d + listed_objects cs ms ≤ listed_objects (c ∷ cs) ms

listed_here : (c : Column) (cs : List Column) (k : List ℕ) (v : Json) (ms : Members) (d : Json) (b : Bool) → bytes_eq k (outer_key c) ≡ b → is_listed (outer_key c) cs ≡ false
    → (if b then Some v else find_member (outer_key c) ms) ≡ Some d → (find_member (outer_key c) ms ≡ Some d → IsListedBeside c cs ms d) → IsListedBeside c cs (member k v ms) d
listed_here c cs k v ms d true s h e later =
    let same = bytes_equal k (outer_key c) s in
    let here : bytes_eq (outer_key c) k ≡ true = ap (λ x. bytes_eq x k) (sym same) ∙ bytes_same k in
    let beside : is_listed k cs ≡ false = ap (λ x. is_listed x cs) same ∙ h in
    let own = ap objects (some_same v d e) in
    let more = one_more_column c cs ms in
    rw (here, beside) (omega arith)
listed_here c cs k v ms d false s h e later = omega (arith, or_least (bytes_eq (outer_key c) k) (is_listed k cs) (objects v), later e)

found_listed : (c : Column) (cs : List Column) (ms : Members) (d : Json) → is_listed (outer_key c) cs ≡ false → find_member (outer_key c) ms ≡ Some d → IsListedBeside c cs ms d
found_listed c cs no_members d h e = none_some d e
found_listed c cs (member k v ms) d h e = listed_here c cs k v ms d (bytes_eq k (outer_key c)) refl h e (λ f. found_listed c cs ms d h f)

found_counted : (k : List ℕ) (ms : Members) (d : Json) → CountedMembers ms → find_member k ms ≡ Some d → Counted d
found_counted k no_members d c e = none_some d e
found_counted k (member l v ms) d c e = here (bytes_eq l k) e (found_counted k ms d c.1)
  where
    here : (b : Bool) → (if b then Some v else find_member k ms) ≡ Some d → (find_member k ms ≡ Some d → Counted d) → Counted d
    here true f later = subst Counted (some_same v d f) c.0
    here false f later = later f

beside_datum : (c : Column) (cs : List Column) (ms : Members) (p : Parts) → nodes_in p ≡ 0 → nodes_in p + listed_objects cs ms ≤ listed_objects (c ∷ cs) ms
beside_datum c cs ms p e = omega (arith, one_more_column c cs ms)

beside_node : (c : Column) (cs : List Column) (ms : Members) (p : Parts) (d : Json) (b : Bool) → is_datum c.class ≡ b → (b || not (is_listed (outer_key c) cs)) ≡ true
    → find_member (outer_key c) ms ≡ Some d → AtMost c.class p (objects d) → nodes_in p + listed_objects cs ms ≤ listed_objects (c ∷ cs) ms
beside_node c cs ms p d true same h f most = beside_datum c cs ms p (most.1 same)
beside_node c cs ms p d false same h f most =
    let beside : objects d + listed_objects cs ms ≤ listed_objects (c ∷ cs) ms = found_listed c cs ms d (not_true _ h) f in
    let own = most.0 in
    omega arith

column_count : (c : Column) (cs : List Column) (ms : Members) (p : Parts) → CountedMembers ms → (is_datum c.class || not (is_listed (outer_key c) cs)) ≡ true
    → part_in ms c ≡ Some p → nodes_in p + listed_objects cs ms ≤ listed_objects (c ∷ cs) ms
column_count c cs ms p counted h e = by_member (find_member (outer_key c) ms) refl (sym (part_in-part_found ms c) ∙ e)
  where
    by_member : (o : Option Json) → find_member (outer_key c) ms ≡ o → part_found c o ≡ Some p → nodes_in p + listed_objects cs ms ≤ listed_objects (c ∷ cs) ms
    by_member None f g = beside_datum c cs ms p (absent_none c.class p g)
    by_member (Some d) f g = beside_node c cs ms p d (is_datum c.class) refl h f (part_count c.class c.key d p (found_counted (outer_key c) ms d counted f) g)

run_count : (cs : List Column) (ms : Members) (ps : Parts) → CountedMembers ms → are_apart cs ≡ true → run_of (λ c. part_in ms c) cs ≡ Some ps → nodes_in ps ≤ listed_objects cs ms
run_count [] ms ps counted apart e = none_count ps _ (same_none done ps e refl)
run_count (c ∷ cs) ms ps counted apart e =
    let p = then_some (λ p. option_map (onto p) (run_of (λ c. part_in ms c) cs)) (part_in ms c) ps e in
    let q = map_some (onto p.0) (run_of (λ c. part_in ms c) cs) ps p.2 in
    let b = both _ (are_apart cs) apart in
    let first = column_count c cs ms p.0 counted b.0 p.1 in
    let rest = run_count cs ms q.0 counted b.1 q.1 in
    let sum = nodes_onto p.0 q.0 in
    subst (λ x. nodes_in x ≤ listed_objects (c ∷ cs) ms) q.2 (omega arith)

-- ---- the table

abbrev is_apart : Kind → Bool
is_apart k = are_apart (row k).columns

rows_apart : list_all is_apart all_kinds ≡ true
rows_apart = refl

row_apart : (k : Kind) → are_apart (row k).columns ≡ true
row_apart k = of_each is_apart rows_apart refl k

-- ---- a node

node_counted : (ms : Members) (t : Tree) → CountedMembers ms → shape_from ms (λ c. part_in ms c) ≡ Some t → node_count t ≤ suc (member_objects ms)
node_counted ms t counted e =
    let r = then_some _ (row_for ms) t e in
    let s = then_some _ (offset_of (find_member (codes "start") ms)) t r.2 in
    let p = then_some _ (offset_of (find_member (codes "end") ms)) t s.2 in
    let k = if_some (are_distinct ms && only_known r.0.columns ms && is_paired r.0.kind ms) _ t p.2 in
    let fs = map_some _ (run_of (λ c. part_in ms c) r.0.columns) t k.1 in
    let own = row_of_object ms r.0 r.1 in
    let apart = subst (λ (x : Row). are_apart x.columns ≡ true) own (row_apart r.0.kind) in
    let fields = run_count r.0.columns ms fs.0 counted apart fs.1 in
    let listed = all_listed r.0.columns ms in
    let below : suc (nodes_in fs.0) ≤ suc (member_objects ms) = omega arith in
    subst (λ x. node_count x ≤ suc (member_objects ms)) fs.2 below

mutual
  counted : (d : Json) → Counted d
  counted null = (λ t e. none_some t e, λ holes us e. none_some us e)
  counted (truth b) = (λ t e. none_some t e, λ holes us e. none_some us e)
  counted (number n) = (λ t e. none_some t e, λ holes us e. none_some us e)
  counted other_number = (λ t e. none_some t e, λ holes us e. none_some us e)
  counted (string xs) = (λ t e. none_some t e, λ holes us e. none_some us e)
  counted (list ds) = (λ t e. none_some t e, λ holes us e. items_counted ds holes us e)
  counted (object ms) = (λ t e. node_counted ms t (members_counted ms) e, λ holes us e. none_some us e)

  items_counted : (ds : Items) (holes : Bool) (ps : Parts) → items_from ds holes ≡ Some ps → nodes_in ps ≤ item_objects ds
  items_counted no_items holes ps e = none_count ps 0 (same_none done ps e refl)
  items_counted (item d ds) holes ps e =
      let a = then_some (λ p. option_map (onto p) (items_from ds holes)) (or_hole holes d (option_map alone (shape_of d))) ps e in
      let m = map_some (onto a.0) (items_from ds holes) ps a.2 in
      let first = null_count (holes && is_null_value d) _ a.0 (objects d) a.1 (λ f. child_count d a.0 (counted d) f) in
      let rest = items_counted ds holes m.0 m.1 in
      let sum = nodes_onto a.0 m.0 in
      subst (λ x. nodes_in x ≤ objects d + item_objects ds) m.2 (omega arith)

  members_counted : (ms : Members) → CountedMembers ms
  members_counted no_members = tt
  members_counted (member k d ms) = (counted d, members_counted ms)

-- ---- values of `serde_json`

number_none : (n : parsed.Num) → objects (number_of n) ≡ 0
number_none (parsed.unsigned n) = refl
number_none (parsed.negative z) = refl
number_none (parsed.float x) = refl

mutual
  objects-json_of : (d : parsed.Data) → objects (json_of d) ≡ objects_in d
  objects-json_of parsed.null = refl
  objects-json_of (parsed.boolean b) = refl
  objects-json_of (parsed.number n) = number_none n
  objects-json_of (parsed.string s) = refl
  objects-json_of (parsed.array ds) = objects-items_of ds
  objects-json_of (parsed.object ms) = omega (arith, objects-members_of ms)

  objects-items_of : (ds : parsed.Items) → item_objects (items_of ds) ≡ objects_in_items ds
  objects-items_of parsed.no_items = refl
  objects-items_of (parsed.item d ds) = omega (arith, objects-json_of d, objects-items_of ds)

  objects-members_of : (ms : parsed.Members) → member_objects (members_of ms) ≡ objects_in_members ms
  objects-members_of parsed.no_members = refl
  objects-members_of (parsed.member k d ms) = omega (arith, objects-json_of d, objects-members_of ms)

-- the nodes of a tree that is read within the limits, and what is counted beside them
pub few_nodes : (d : parsed.Data) (t : Tree) (more : ℕ) → is_too_large d more ≡ false → tree_of (json_of d) ≡ Some t → node_count t + more < 2 ^ 30
unfolding is_too_large
few_nodes d t more small e =
    let nodes : node_count t ≤ objects (json_of d) = (counted (json_of d)).0 t (shape_read (json_of d) t e).0 in
    let same = objects-json_of d in
    let test = (neither _ (has_long_part d) small).0 in
    grind (arith, nat_tests)
