-- What the reader's loops keep: what is read so far stands before what is left.
use Rattle.std.proofs.Common.{◌≡◌, ℕ, zero, suc, get_or, ◌<◌, ◌≤◌, List, [], ◌∷◌, ◌++◌, length, map, Bool, IsTrue, Option, Some, None, option_map, refl, sym, ap, ◌∙◌, drop, ◌+◌, arith}
use Rattle.std.proofs.lemmas.Bool.{and_parts}
use Rattle.std.proofs.lemmas.List.{drop_more, drop_all}
use Rattle.json_text.specs.Json.{Members}
use Rattle.serde_json.specs.Data.{depth, items_depth}
use Rattle.serde_json.specs.View.{view, items_view}
use Rattle.serde_json.specs.declared.value.Value.{Value}
use Rattle.tree_core.specs.JsonOf.{json_of}
use Rattle.tree_core.specs.JsonOf as json
use Rattle.tree_nodes.specs.Tree.{Tree, Parts, atom, before, empty}
use Rattle.tree_nodes.specs.Look.{onto}
use Rattle.tree_core.specs.Readable.{is_readable, are_readable, fields_in, item_from}
use Rattle.tree_core.specs.Reading.{part_in, items_from}
use Rattle.tree_nodes.proofs.Onto.{onto_assoc, onto_done}
use Rattle.tree_nodes.specs.Rows.{column_of}
use Rattle.tree_nodes.specs.Views.{part_of, parts_of, item_of, items_of}
use Rattle.tree_nodes.specs.declared.node.Field.{Field}
use Rattle.tree_nodes.specs.declared.table.Column.{Column as RustColumn}

-- ---- columns

pub readable_at : (cs : List RustColumn) (i : ℕ) (c : RustColumn) → i < length cs → IsTrue (are_readable (map column_of cs)) → IsTrue (is_readable (column_of (get_or cs i c)))
readable_at [] i c h all = absurd (omega arith)
readable_at (d ∷ cs) zero c h all = (and_parts _ (are_readable (map column_of cs)) all).0
readable_at (d ∷ cs) (suc i) c h all = readable_at cs i c (omega arith) (and_parts _ (are_readable (map column_of cs)) all).1

-- ---- runs

parts_of_push : (fs : List Field) (f : Field) → parts_of (fs ++ f ∷ []) ≡ onto (parts_of fs) (part_of f)
parts_of_push [] f = onto_done (part_of f)
parts_of_push (g ∷ fs) f = ap (onto (part_of g)) (parts_of_push fs f) ∙ sym (onto_assoc (part_of g) (parts_of fs) (part_of f))

items_of_one : (t : Option Tree) → items_of (t ∷ []) ≡ item_of t
items_of_one None = refl
items_of_one (Some t) = refl

items_of_push : (ts : List (Option Tree)) (t : Option Tree) → items_of (ts ++ t ∷ []) ≡ onto (items_of ts) (item_of t)
items_of_push [] t = items_of_one t
items_of_push (None ∷ ts) t = ap (atom empty) (items_of_push ts t)
items_of_push (Some u ∷ ts) t = ap (before u) (items_of_push ts t)

-- what is read next goes behind what is read
read_next : (a p : Parts) (r : Option Parts) → option_map (onto a) (option_map (onto p) r) ≡ option_map (onto (onto a p)) r
read_next a p None = refl
read_next a p (Some ps) = ap Some (sym (onto_assoc a p ps))

field_next : (fs : List Field) (f : Field) (r : Option Parts) → option_map (onto (parts_of fs)) (option_map (onto (part_of f)) r) ≡ option_map (onto (parts_of (fs ++ f ∷ []))) r
field_next fs f r = rw (parts_of_push fs f) (read_next (parts_of fs) (part_of f) r)

item_next : (ts : List (Option Tree)) (t : Option Tree) (r : Option Parts) → option_map (onto (items_of ts)) (option_map (onto (item_of t)) r) ≡ option_map (onto (items_of (ts ++ t ∷ []))) r
item_next ts t r = rw (items_of_push ts t) (read_next (items_of ts) (item_of t) r)

-- the items of a list of values
abbrev pub nodes_of : Bool → List Value → Option Parts
nodes_of h vs = items_from (json.items_of (items_view vs)) h

pub item_falls : (vs : List Value) (i : ℕ) (v : Value) → v ≡ get_or vs i v → i < length vs → depth (view v) ≤ items_depth (items_view vs)
item_falls [] i v e h = absurd (omega arith)
item_falls (w ∷ vs) zero v e h = rw e (omega arith)
item_falls (w ∷ vs) (suc i) v e h = omega (arith, item_falls vs i v e (omega arith))

module _ (vs : List Value) (h : Bool) (nodes : List (Option Tree)) (i : ℕ)
    (so_far : nodes_of h vs ≡ option_map (onto (items_of nodes)) (nodes_of h (drop i vs))) where
  pub items_read : length vs ≤ i → nodes_of h vs ≡ Some (items_of nodes)
  items_read past = so_far ∙ rw (drop_all i vs past, onto_done (items_of nodes))

  pub items_next : (v : Value) (n : Option Tree) → i < length vs → v ≡ get_or vs i v → item_from h (json_of (view v)) ≡ Some (item_of n)
      → nodes_of h vs ≡ option_map (onto (items_of (nodes ++ n ∷ []))) (nodes_of h (drop (i + 1) vs))
  items_next v n within_list is some =
      let here : drop i vs ≡ v ∷ drop (i + 1) vs = drop_more vs i v within_list ∙ ap (λ y. y ∷ drop (i + 1) vs) (sym is) in
      so_far ∙ rw (here, some) (item_next nodes n (nodes_of h (drop (i + 1) vs)))

module _ (ms : Members) (cs : List RustColumn) (fs : List Field) (i : ℕ)
    (so_far : fields_in ms (map column_of cs) ≡ option_map (onto (parts_of fs)) (fields_in ms (map column_of (drop i cs)))) where
  pub fields_read : length cs ≤ i → fields_in ms (map column_of cs) ≡ Some (parts_of fs)
  fields_read past = so_far ∙ rw (drop_all i cs past, onto_done (parts_of fs))

  pub fields_next : (c : RustColumn) (f : Field) → i < length cs → part_in ms (column_of (get_or cs i c)) ≡ Some (part_of f)
      → fields_in ms (map column_of cs) ≡ option_map (onto (parts_of (fs ++ f ∷ []))) (fields_in ms (map column_of (drop (i + 1) cs)))
  fields_next c f within_list some = so_far ∙ rw (drop_more cs i c within_list, some) (field_next fs f (fields_in ms (map column_of (drop (i + 1) cs))))
