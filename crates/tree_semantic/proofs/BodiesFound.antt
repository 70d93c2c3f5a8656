-- What a pass over the nodes of a tree finds of the class bodies is what the walk of the tree says: in a tree whose nodes stand where they may, all that lies in a class body lies inside it.
use Rattle.std.specs.Prelude.{◌≡◌, ◌⊎◌, ℕ, zero, suc, Bool, true, false, not, ◌&&◌, ◌||◌, cond, List, [], ◌∷◌, ◌++◌, filter, length, map, get_or, slice_get, Option, Some, None, if◌then◌else◌}
use Rattle.std.specs.List.{list_all}
use Rattle.std.proofs.Common.{refl, sym, ap, ◌∙◌, subst, add-one, arith, inl, inr}
use Rattle.std.proofs.lemmas.Bool.{and_parts, both_ways}
use Rattle.std.proofs.lemmas.List.{append-nil, append_assoc, length_push, map-append}
use Rattle.std.proofs.lemmas.List.Elements.{filter-append}
use Rattle.std.proofs.lemmas.Option.{get_or_from_slice_get}
use Rattle.std.proofs.lemmas.Simd.{map-map}
use Rattle.list_laws.proofs.AllOf.{AllOf, AllOf_reverse, AllOf_weaken}
use Rattle.place_list.specs.Nodes.{NodeAt, nested, nested_nodes, nodes, nodes_from}
use Rattle.place_list.specs.ScopeKinds.{scope_kind, value_scope}
use Rattle.place_list.specs.declared.setting.ScopeKind.{ScopeKind}
use Rattle.place_list.specs.declared.setting.ScopeKind.TheVariants as scope
use Rattle.scope_rules.specs.Symbols.{own_number}
use Rattle.tree_nodes.proofs.EachKind.{of_each}
use Rattle.tree_nodes.specs.Along.{Along, all, each, first_column, other_columns}
use Rattle.tree_nodes.specs.Roles.{role_at}
use Rattle.tree_nodes.specs.Standing.{group_admits, is_placed, is_sound, root_column, stands}
use Rattle.tree_nodes.specs.Table.{Column, Row, row, unlisted}
use Rattle.tree_nodes.specs.Tree.{Parts, Text, Tree, alone, atom, child, done, many}
use Rattle.tree_nodes.specs.declared.kind.Kind.{Kind}
use Rattle.tree_nodes.specs.declared.table.Class.{Class as FieldClass}
use Rattle.tree_nodes.specs.declared.table.Mark.{Mark}
use Rattle.tree_nodes.specs.declared.table.Mark.TheVariants.{Usual}
use Rattle.tree_nodes.specs.declared.table.Opens.{Opens}
use Rattle.tree_nodes.specs.declared.table.Opens.TheVariants.{BareBlock, Block, ClassMembers, Hoisting, NameHere, Nothing, PrivateNameHere, WithBody}
use Rattle.tree_nodes.specs.declared.table.Role.{Role}
use Rattle.tree_nodes.specs.declared.table.Role.TheVariants.{Plain}
use Rattle.tree_places.specs.Enclosing.{is_class_body}
use Rattle.place_list.specs.Open.{all_open}
use Rattle.tree_places.specs.Places.{Around, Seen, Setting, Site, at_field, before_all, enter, hide, met, named_by, names, nothing_yet, opened, places, seen, side, sites, strict_in, walk, with_mark}
use Rattle.tree_places.specs.Scopes.{Scope}
use Rattle.tree_semantic.specs.ClassBodies.{LeadOutwards}
use Rattle.tree_semantic.specs.ClassesAround.{Found, body_is_at, class_around, found_after, is_body, nothing_found, outer_classes, parents_told, with_node, with_told}
use Rattle.tree_semantic.specs.Nodes.{told}

-- ---- along the class bodies outwards

-- each has the next as its parent
abbrev pub Leads : List (Option ℕ) → List ℕ → Type 0
Leads ps [] = Unit {0}
Leads ps (c ∷ outer) = (slice_get ps c ≡ Some (own_number outer)) × Leads ps outer

still_at : {X : Type 0} (xs ys : List X) (n : ℕ) (x : X) → slice_get xs n ≡ Some x → slice_get (xs ++ ys) n ≡ Some x
still_at [] ys n x e = absurd (cc)
still_at (y ∷ xs) ys zero x e = e
still_at (y ∷ xs) ys (suc n) x e = still_at xs ys n x e

last_at : {X : Type 0} (xs : List X) (n : ℕ) (x : X) → length xs ≡ n → slice_get (xs ++ x ∷ []) n ≡ Some x
last_at [] zero x e = refl
last_at [] (suc n) x e = absurd (omega (arith, e))
last_at (y ∷ xs) zero x e = absurd (omega (arith, e))
last_at (y ∷ xs) (suc n) x e = last_at xs n x (omega (arith, e))

leads_on : (ps more : List (Option ℕ)) (cs : List ℕ) → Leads ps cs → Leads (ps ++ more) cs
leads_on ps more [] h = tt
leads_on ps more (c ∷ outer) h = (still_at ps more c (own_number outer) h.0, leads_on ps more outer h.1)

-- ---- what is found so far

record Grows (f g : Found) : Type 0 where
  inside : (n : ℕ) (o : Option ℕ) → slice_get f.inside n ≡ Some o → slice_get g.inside n ≡ Some o
  parents : (cs : List ℕ) → Leads f.parents cs → Leads g.parents cs

record Held (f : Found) (s : Seen) (ns : List NodeAt) : Type 0 where
  nodes : length f.inside ≡ s.nodes
  classes : length f.parents ≡ s.classes
  parents : f.parents ≡ map class_around (filter body_is_at ns)
  sites : AllOf (λ x. Leads f.parents x.setting.classes) s.sites

record After (f g : Found) (s : Seen) (ns : List NodeAt) : Type 0 where
  grows : Grows f g
  held : Held g s ns

then_after : (f g h : Found) (s : Seen) (ns : List NodeAt) → Grows f g → After g h s ns → After f h s ns
then_after f g h s ns a b = record {
  grows = record { inside = λ n o e. b.grows.inside n o (a.inside n o e); parents = λ cs l. b.grows.parents cs (a.parents cs l) };
  held = b.held;
}

-- ---- a node

-- what it adds to what is met, and what lies inside it
record Adds (body : Bool) (s t : Seen) (outer inner : List ℕ) : Type 1 where
  nodes : t.nodes ≡ suc s.nodes
  classes : t.classes ≡ cond body (suc s.classes) s.classes
  inside : inner ≡ cond body (s.classes ∷ outer) outer
  sites : (P : List ℕ → Type 0) → P outer → AllOf (λ x. P x.setting.classes) s.sites → AllOf (λ x. P x.setting.classes) t.sites

adds : (o : Opens) (b n : ℕ) (e : Setting) (strict : Bool) (inner : Scope) (s : Seen) → Adds (is_class_body o) s (met o b e inner s) e.classes (opened o n s.classes (record e { strict = strict })).classes
unfolding all_open is_class_body
adds NameHere b n e strict inner s = record { nodes = refl; classes = refl; inside = refl; sites = λ P p a. (p, a) }
adds PrivateNameHere b n e strict inner s = record { nodes = refl; classes = refl; inside = refl; sites = λ P p a. (p, a) }
adds ClassMembers b n e strict inner s = record { nodes = refl; classes = refl; inside = refl; sites = λ P p a. a }
adds Nothing b n e strict inner s = record { nodes = refl; classes = refl; inside = refl; sites = λ P p a. a }
adds Block b n e strict inner s = record { nodes = refl; classes = refl; inside = refl; sites = λ P p a. a }
adds WithBody b n e strict inner s = record { nodes = refl; classes = refl; inside = refl; sites = λ P p a. a }
adds Hoisting b n e strict inner s = record { nodes = refl; classes = refl; inside = refl; sites = λ P p a. a }
adds BareBlock b n e strict inner s = record { nodes = refl; classes = refl; inside = go e.bare; sites = λ P p a. a }
  where
    go : (bare : Bool) → (cond bare (record e { strict = strict }) (record e { strict = strict; scope = n ∷ e.scope })).classes ≡ e.classes
    go true = refl
    go false = refl

-- the next node, which lies in these class bodies
record Next (f : Found) (body : Bool) (parent : ℕ) (t : Seen) (inner : List ℕ) (ns : List NodeAt) : Type 0 where
  after : After f (with_node f body parent) t ns
  leads : Leads (with_node f body parent).parents inner
  inside : (n : ℕ) → length f.inside ≡ n → slice_get (with_node f body parent).inside n ≡ Some (own_number inner)

abbrev with_one : Found → Option ℕ → List (Option ℕ) → Found
with_one f o more = record { inside = f.inside ++ o ∷ []; parents = f.parents ++ more }

-- of those that pass a test, with one more that passes and one that doesn't
one_kept : {X Y : Type 0} (f : X → Y) (p : X → Bool) (ns : List X) (n : X) → p n ≡ true → map f (filter p (ns ++ n ∷ [])) ≡ map f (filter p ns) ++ f n ∷ []
one_kept f p ns n h =
    ap (map f) (filter-append p ns (n ∷ [])) ∙ map-append f (filter p ns) (filter p (n ∷ [])) ∙ ap (λ (b : Bool). map f (filter p ns) ++ map f (if b then n ∷ [] else [])) h

one_left : {X Y : Type 0} (f : X → Y) (p : X → Bool) (ns : List X) (n : X) → p n ≡ false → map f (filter p (ns ++ n ∷ [])) ≡ map f (filter p ns)
one_left f p ns n h =
    ap (map f) (filter-append p ns (n ∷ [])) ∙ map-append f (filter p ns) (filter p (n ∷ [])) ∙ ap (λ (b : Bool). map f (filter p ns) ++ map f (if b then n ∷ [] else [])) h
    ∙ append-nil (map f (filter p ns))

one_more : (xs : List (Option ℕ)) (x : Option ℕ) (n m : ℕ) → length xs ≡ n → m ≡ suc n → length (xs ++ x ∷ []) ≡ m
one_more xs x n m e h = length_push xs x ∙ add-one (length xs) ∙ ap suc e ∙ sym h

next : (f : Found) (body : Bool) (parent : ℕ) (s t : Seen) (outer inner : List ℕ) (ns : List NodeAt) (own : NodeAt) → body_is_at own ≡ body → class_around own ≡ own_number outer → get_or f.inside parent None ≡ own_number outer
    → Held f s ns → Leads f.parents outer → Adds body s t outer inner → Next f body parent t inner (ns ++ own ∷ [])
unfolding with_node own_number
next f true parent s t outer inner ns own is around got held leads a =
    let o : Option ℕ = get_or f.inside parent None in
    let lead : Leads (f.parents ++ o ∷ []) (s.classes ∷ outer) =
    (last_at f.parents s.classes o held.classes ∙ ap (λ (x : Option ℕ). Some x) got, leads_on f.parents (o ∷ []) outer leads) in
    record {
      after = record {
        grows = record { inside = λ n x e. still_at f.inside (Some (length f.parents) ∷ []) n x e; parents = λ cs l. leads_on f.parents (o ∷ []) cs l };
        held = record {
          nodes = one_more f.inside (Some (length f.parents)) s.nodes t.nodes held.nodes a.nodes;
          classes = one_more f.parents o s.classes t.classes held.classes a.classes;
          parents = ap (λ (ps : List (Option ℕ)). ps ++ o ∷ []) held.parents
              ∙ ap (λ (x : Option ℕ). map class_around (filter body_is_at ns) ++ x ∷ []) (got ∙ sym around)
              ∙ sym (one_kept class_around body_is_at ns own is);
          sites = a.sites (λ cs. Leads (f.parents ++ o ∷ []) cs) lead.1
              (AllOf_weaken (λ (x : Site). Leads f.parents x.setting.classes) (λ (x : Site). Leads (f.parents ++ o ∷ []) x.setting.classes) (λ x l. leads_on f.parents (o ∷ []) x.setting.classes l) s.sites held.sites);
        };
      };
      leads = subst (λ (cs : List ℕ). Leads (f.parents ++ o ∷ []) cs) (sym a.inside) lead;
      inside = λ n e. last_at f.inside n (Some (length f.parents)) e ∙ ap (λ (c : ℕ). Some (Some c)) held.classes ∙ ap (λ (cs : List ℕ). Some (own_number cs)) (sym a.inside);
    }
next f false parent s t outer inner ns own is around got held leads a =
    let o : Option ℕ = get_or f.inside parent None in
    record {
      after = record {
        grows = record { inside = λ n x e. still_at f.inside (o ∷ []) n x e; parents = λ cs l. l };
        held = record {
          nodes = one_more f.inside o s.nodes t.nodes held.nodes a.nodes;
          classes = held.classes ∙ sym a.classes;
          parents = held.parents ∙ sym (one_left class_around body_is_at ns own is);
          sites = a.sites (λ cs. Leads f.parents cs) leads held.sites;
        };
      };
      leads = subst (λ (cs : List ℕ). Leads f.parents cs) (sym a.inside) leads;
      inside = λ n e. last_at f.inside n o e ∙ ap (λ (x : Option ℕ). Some x) got ∙ ap (λ (cs : List ℕ). Some (own_number cs)) (sym a.inside);
    }

-- ---- the fields of a node

-- a column in which no node may stand
abbrev Bare : FieldClass → Type 0
Bare c = (r : Role) (within : Parts) (k : Kind) (fields : Parts) → group_admits c r within k fields ≡ false

-- what stands in a column lies in the class bodies inside the node
abbrev LiesInside : Around → Column → Type 0
LiesInside a c = ((side c.inside a).classes ≡ a.inside.classes) ⊎ Bare c.class

abbrev LieInside : Around → Along → Type 0
LieInside a (each cs) = AllOf (λ c. LiesInside a c) cs
LieInside a (all c) = LiesInside a c

first_lies : (a : Around) (columns : Along) → LieInside a columns → LiesInside a (first_column columns)
unfolding all_open
first_lies a (each []) h = inr (λ r within k fields. refl)
first_lies a (each (c ∷ cs)) h = h.0
first_lies a (all c) h = h

others_lie : (a : Around) (columns : Along) → LieInside a columns → LieInside a (other_columns columns)
unfolding all_open
others_lie a (each []) h = h
others_lie a (each (c ∷ cs)) h = h.1
others_lie a (all c) h = h

mark_keeps : (m : Mark) (fields : Parts) (n : ℕ) (o : List ℕ) (e : Setting) → (with_mark m fields n o e).classes ≡ e.classes
unfolding all_open
mark_keeps Usual fields n o e = refl
mark_keeps _ fields n o e = refl

-- the class bodies around a node that stands in a column
here_inside : (a : Around) (c : Column) (r : Role) (within : Parts) (k : Kind) (fields : Parts) → LiesInside a c → group_admits c.class r within k fields ≡ true → (at_field c a).classes ≡ a.inside.classes
unfolding all_open
here_inside a c r within k fields (inl e) h = mark_keeps c.mark a.fields _ _ _ ∙ e
here_inside a c r within k fields (inr bare) h = absurd (both_ways _ (bare r within k fields) h)

-- the columns of a class body all lie inside it
all_inside : List Column → Bool
all_inside cs = list_all (λ c. c.inside) cs

encloses_all : Row → Bool
encloses_all r = not (is_class_body r.opens) || all_inside r.columns

row_encloses : (k : Kind) → encloses_all (row k) ≡ true
unfolding encloses_all all_inside is_class_body
row_encloses k = of_each (λ (l : Kind). encloses_all (row l)) refl refl k

columns_lie : (a : Around) (body : Bool) (cs : List Column) (own : List ℕ) → (not body || all_inside cs) ≡ true → a.inside.classes ≡ cond body own a.outside.classes → AllOf (λ c. LiesInside a c) cs
unfolding all_open all_inside
columns_lie a body [] own h e = tt
columns_lie a true (c ∷ cs) own h e = (inl (ap (λ (b : Bool). (side b a).classes) (and_parts c.inside (all_inside cs) h).0), columns_lie a true cs own (and_parts c.inside (all_inside cs) h).1 e)
columns_lie a false (c ∷ cs) own h e = (inl (go c.inside), columns_lie a false cs own refl e)
  where
    go : (b : Bool) → (side b a).classes ≡ a.inside.classes
    go true = refl
    go false = sym e

-- ---- the walk

record Stands (f : Found) (a : Around) : Type 0 where
  leads : Leads f.parents a.inside.classes
  number : slice_get f.inside a.number ≡ Some (own_number a.inside.classes)

still_stands : (f g : Found) (a : Around) → Grows f g → Stands f a → Stands g a
still_stands f g a h s = record { leads = h.parents a.inside.classes s.leads; number = h.inside a.number (own_number a.inside.classes) s.number }

-- the pass over some nodes
abbrev pass : Found → List NodeAt → Found
pass f ns = found_after f (map (λ n. told (nested n)) ns)

pass_on : (f : Found) (xs ys : List NodeAt) → pass f (xs ++ ys) ≡ pass (pass f xs) ys
unfolding found_after
pass_on f [] ys = refl
pass_on f (x ∷ xs) ys = pass_on (with_told f (told (nested x))) xs ys

nothing_more : (f : Found) (s : Seen) (ns : List NodeAt) → Held f s ns → After f f s (ns ++ [])
nothing_more f s ns h = subst (λ (ms : List NodeAt). After f f s ms) (sym (append-nil ns)) (record { grows = record { inside = λ n o e. e; parents = λ cs l. l }; held = h })

both : (f : Found) (s : Seen) (ns xs ys : List NodeAt) → Grows f (pass f xs) → After (pass f xs) (pass (pass f xs) ys) s ((ns ++ xs) ++ ys) → After f (pass f (xs ++ ys)) s (ns ++ (xs ++ ys))
both f s ns xs ys grows a =
    subst (λ (g : Found). After f g s (ns ++ (xs ++ ys))) (sym (pass_on f xs ys))
    (subst (λ (ms : List NodeAt). After f (pass (pass f xs) ys) s ms) (append_assoc ns xs ys) (then_after f (pass f xs) (pass (pass f xs) ys) s ((ns ++ xs) ++ ys) grows a))

-- a node that is met, in this column
in_node : (k : Kind) (b e : ℕ) (fields : Parts) (column : Column) (a : Around) (v : ScopeKind) (s : Seen) → NodeAt
in_node k b e fields column a v s = record {
  node = s.nodes;
  tree = record { kind = k; start = b; stop = e; fields = fields };
  parent = a.number;
  outside = at_field column a;
  inside = (enter (row k) (hide k fields) (at_field column a) s).inside;
  scope_kind = scope_kind k column v;
}

-- it and its fields
module _ (k : Kind) (b e : ℕ) (fields : Parts) (column : Column) (a : Around) (v : ScopeKind) (s : Seen) (f : Found) (ns : List NodeAt) where
  abbrev here : Setting
  here = at_field column a

  abbrev around : Around
  around = enter (row k) (hide k fields) here s

  abbrev met_then : Seen
  met_then = met (row k).opens b here around.inside.scope s

  abbrev own_node : NodeAt
  own_node = in_node k b e fields column a v s

  abbrev found_then : Found
  found_then = with_node f (is_class_body (row k).opens) a.number

  abbrev within_it : List NodeAt
  within_it = nodes_from fields (each (row k).columns) around (value_scope k fields) met_then

  abbrev seen_then : Seen
  seen_then = walk fields (each (row k).columns) around met_then

  added : Adds (is_class_body (row k).opens) s met_then here.classes around.inside.classes
  unfolding enter
  added = adds (row k).opens b (length s.scopes) here (strict_in (row k).strict here.strict (hide k fields)) around.inside.scope s

  next_node : Held f s ns → Leads f.parents here.classes → get_or f.inside a.number None ≡ own_number here.classes → Next f (is_class_body (row k).opens) a.number met_then around.inside.classes (ns ++ own_node ∷ [])
  unfolding in_node body_is_at class_around is_body
  next_node held leads got = next f (is_class_body (row k).opens) a.number s met_then here.classes around.inside.classes ns own_node refl refl got held leads added

  fields_lie : LieInside around (each (row k).columns)
  unfolding encloses_all enter
  fields_lie = columns_lie around (is_class_body (row k).opens) (row k).columns (s.classes ∷ here.classes) (row_encloses k) added.inside

  node_finds : Held f s ns → Leads f.parents here.classes → get_or f.inside a.number None ≡ own_number here.classes
      → (LieInside around (each (row k).columns) → Held found_then met_then (ns ++ own_node ∷ []) → Stands found_then around → After found_then (pass found_then within_it) seen_then ((ns ++ own_node ∷ []) ++ within_it))
      → After f (pass f (own_node ∷ within_it)) seen_then (ns ++ (own_node ∷ within_it))
  unfolding enter in_node with_told found_after is_body told nested
  node_finds held leads got inner =
      let n = next_node held leads got in
      both f seen_then ns (own_node ∷ []) within_it n.after.grows
      (inner fields_lie n.after.held (record { leads = n.leads; number = n.inside s.nodes held.nodes }))

walk_finds : (x : Parts) (columns : Along) (a : Around) (v : ScopeKind) (s : Seen) (own : Role) (within : Parts) (f : Found) (ns : List NodeAt) → LieInside a columns → stands x columns own within ≡ true
    → Held f s ns → Stands f a → After f (pass f (nodes_from x columns a v s)) (walk x columns a s) (ns ++ nodes_from x columns a v s)
unfolding all_open in_node found_after
walk_finds done columns a v s own within f ns lie st held stand = nothing_more f s ns held
walk_finds (atom x more) columns a v s own within f ns lie st held stand = walk_finds more (other_columns columns) a v s own within f ns (others_lie a columns lie) st held stand
walk_finds (many items more) columns a v s own within f ns lie st held stand =
    let xs : List NodeAt = nodes_from items (all (first_column columns)) a v s in
    let s₁ : Seen = walk items (all (first_column columns)) a s in
    let one : After f (pass f xs) s₁ (ns ++ xs) = walk_finds items (all (first_column columns)) a v s own within f ns (first_lies a columns lie) (and_parts _ _ st).0 held stand in
    both f (walk more (other_columns columns) a s₁) ns xs (nodes_from more (other_columns columns) a v s₁) one.grows
    (walk_finds more (other_columns columns) a v s₁ own within (pass f xs) (ns ++ xs) (others_lie a columns lie) (and_parts _ _ st).1 one.held (still_stands f (pass f xs) a one.grows stand))
walk_finds (child k b e fields more) columns a v s own within f ns lie st held stand =
    let c : Column = first_column columns in
    let r : Role = role_at c.mode own within in
    let s₂ : Seen = seen_then k b e fields c a v s f ns in
    let xs : List NodeAt = own_node k b e fields c a v s f ns ∷ within_it k b e fields c a v s f ns in
    let three : ((group_admits c.class r within k fields && is_sound k fields && stands fields (each (row k).columns) r fields) ≡ true) × (stands more (other_columns columns) own within ≡ true) = and_parts _ _ st in
    let two : ((group_admits c.class r within k fields && is_sound k fields) ≡ true) × (stands fields (each (row k).columns) r fields ≡ true) = and_parts _ _ three.0 in
    let same : (at_field c a).classes ≡ a.inside.classes = here_inside a c r within k fields (first_lies a columns lie) (and_parts _ _ two.0).0 in
    let one : After f (pass f xs) s₂ (ns ++ xs) =
    node_finds k b e fields c a v s f ns held (subst (λ (cs : List ℕ). Leads f.parents cs) (sym same) stand.leads)
    (get_or_from_slice_get f.inside a.number (own_number a.inside.classes) None stand.number ∙ ap own_number (sym same))
    (λ l h t. walk_finds fields (each (row k).columns) _ (value_scope k fields) _ r fields _ _ l two.1 h t) in
    both f (walk more (other_columns columns) a s₂) ns xs (nodes_from more (other_columns columns) a v s₂) one.grows
    (walk_finds more (other_columns columns) a v s₂ own within (pass f xs) (ns ++ xs) (others_lie a columns lie) three.1 one.held (still_stands f (pass f xs) a one.grows stand))

-- ---- a whole tree

pub record Told (t : Tree) : Type 0 where
  pub parents : parents_told (map told (nested_nodes (alone t))) ≡ outer_classes (alone t)
  pub count : length (parents_told (map told (nested_nodes (alone t)))) ≡ (seen (alone t)).classes
  pub sites : AllOf (λ x. Leads (parents_told (map told (nested_nodes (alone t)))) x.setting.classes) (sites (alone t))

nothing_held : Held nothing_found nothing_yet []
unfolding all_open nothing_found
nothing_held = record { nodes = refl; classes = refl; parents = refl; sites = tt }

root_finds : (t : Tree) → is_placed t ≡ true → After nothing_found (pass nothing_found (nodes (alone t))) (seen (alone t)) ([] ++ nodes (alone t))
unfolding all_open in_node nothing_found found_after own_number
root_finds t placed =
    let r : Role = role_at root_column.mode Plain done in
    let three : ((group_admits root_column.class r done t.kind t.fields && is_sound t.kind t.fields && stands t.fields (each (row t.kind).columns) r t.fields) ≡ true) × (true ≡ true) = and_parts _ _ placed in
    let two : ((group_admits root_column.class r done t.kind t.fields && is_sound t.kind t.fields) ≡ true) × (stands t.fields (each (row t.kind).columns) r t.fields ≡ true) = and_parts _ _ three.0 in
    let xs : List NodeAt = own_node t.kind t.start t.stop t.fields unlisted before_all scope.Function nothing_yet nothing_found [] ∷ within_it t.kind t.start t.stop t.fields unlisted before_all scope.Function nothing_yet nothing_found [] in
    let one : After nothing_found (pass nothing_found xs) (seen (alone t)) ([] ++ xs) =
    node_finds t.kind t.start t.stop t.fields unlisted before_all scope.Function nothing_yet nothing_found [] nothing_held tt refl
    (λ l h s. walk_finds t.fields (each (row t.kind).columns) _ (value_scope t.kind t.fields) _ r t.fields _ _ l two.1 h s) in
    both nothing_found (seen (alone t)) [] xs [] one.grows (nothing_more (pass nothing_found xs) (seen (alone t)) ([] ++ xs) one.held)

pub bodies_told : (t : Tree) → is_placed t ≡ true → Told t
unfolding nested_nodes outer_classes parents_told sites
bodies_told t placed =
    let held = (root_finds t placed).held in
    let found : pass nothing_found (nodes (alone t)) ≡ found_after nothing_found (map told (nested_nodes (alone t))) = ap (found_after nothing_found) (sym (map-map told nested (nodes (alone t)))) in
    record {
      parents = ap (λ (f : Found). f.parents) (sym found) ∙ held.parents;
      count = ap (λ (f : Found). length f.parents) (sym found) ∙ held.classes;
      sites = subst (λ (f : Found). AllOf (λ x. Leads f.parents x.setting.classes) (sites (alone t))) found
          (AllOf_reverse (λ (x : Site). Leads (pass nothing_found (nodes (alone t))).parents x.setting.classes) (seen (alone t)).sites held.sites);
    }

-- ---- and of its places

leads_outwards : (ps : List (Option ℕ)) (cs : List ℕ) → Leads ps cs → LeadOutwards ps cs
leads_outwards ps [] h = tt
leads_outwards ps (c ∷ outer) h = (get_or_from_slice_get ps c (own_number outer) None h.0, leads_outwards ps outer h.1)

named_lead : (ps : List (Option ℕ)) (ss : List Site) (xs : List Text) → AllOf (λ s. Leads ps s.setting.classes) ss → AllOf (λ p. LeadOutwards ps p.site.setting.classes) (named_by ss xs)
unfolding named_by
named_lead ps [] xs a = tt
named_lead ps (s ∷ ss) [] a = tt
named_lead ps (s ∷ ss) (x ∷ xs) a = (leads_outwards ps s.setting.classes a.0, named_lead ps ss xs a.1)

pub places_lead : (t : Tree) → Told t → AllOf (λ p. LeadOutwards (parents_told (map told (nested_nodes (alone t)))) p.site.setting.classes) (places (alone t))
unfolding places
places_lead t a = named_lead (parents_told (map told (nested_nodes (alone t)))) (sites (alone t)) (names (alone t)) a.sites
