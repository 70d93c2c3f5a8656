-- The bindings of a module are nodes of its own, and so no two modules share one.
use Rattle.std.proofs.Common.{◌≡◌, ◌<◌, ◌≤◌, ℕ, suc, ◌+◌, Bool, true, false, cond, List, [], ◌∷◌, map, Option, Some, None, find, IfSome, option_map, refl, sym, subst, ◌∙◌, arith, inl, inr}
use Rattle.std.specs.List.{AllByRecursion}
use Rattle.bundle_rules.proofs.Counted.{walk_nodes}
use Rattle.bundle_rules.proofs.JoinedSites.{bare_seen, body_column, root_seen, statements_seen, top}
use Rattle.bundle_rules.specs.Joined.{body}
use Rattle.bundle_rules.specs.Laws.{AreApart, LieWithin, ModulesShareNoBinding, bindings_moved}
use Rattle.bundle_rules.specs.Moves.{IsBare, Moves, moves_after, no_moves}
use Rattle.list_laws.proofs.AllOf.{AllOf, AllOf_reverse, of_each}
use Rattle.list_laws.proofs.FirstOf.{find_first}
use Rattle.list_laws.proofs.Members.{In, in_from_Contains}
use Rattle.list_laws.proofs.Tests.{some_one}
use Rattle.scope_rules.proofs.BindingsStay as stay
use Rattle.scope_rules.proofs.PlacesRise.{site_in}
use Rattle.scope_rules.proofs.SameNames.{same_name_tells}
use Rattle.scope_rules.specs.Bindings.{binding, bindings, node, node_of, same_name}
use Rattle.scope_rules.specs.Open.{all_open}
use Rattle.scope_rules.specs.PrivateNames.{declares_private_name, private_binder, private_binding, private_bindings}
use Rattle.tree_nodes.proofs.Cases.{none_some}
use Rattle.tree_nodes.specs.Along.{Along, all, each, first_column, other_columns}
use Rattle.tree_nodes.specs.NodeCount.{nodes_in}
use Rattle.tree_nodes.specs.Table.{row}
use Rattle.tree_nodes.specs.Tree.{Parts, Text, Tree, alone, atom, child, done, many}
use Rattle.tree_nodes.specs.declared.table.Opens.{Opens}
use Rattle.tree_nodes.specs.declared.table.Opens.TheVariants.{BareBlock, Block, ClassMembers, Hoisting, NameHere, Nothing, PrivateNameHere, WithBody}
use Rattle.tree_places.specs.Places.{Around, Place, Seen, Setting, Site, at_field, enter, hide, met, places, seen, sites, walk}
use Rattle.tree_places.specs.Scopes.{Scope}

-- each site's number is at least 1, and below the count of nodes
abbrev Counted : Seen → Type 0
Counted s = (1 ≤ s.nodes) × AllOf (λ q. (1 ≤ q.node) × (q.node < s.nodes)) s.sites

more_counted : (n k : ℕ) (ss : List Site) → n ≤ k → AllOf (λ q. (1 ≤ q.node) × (q.node < n)) ss → AllOf (λ q. (1 ≤ q.node) × (q.node < k)) ss
more_counted n k [] h a = tt
more_counted n k (s ∷ ss) h a = ((a.0.0, (let l : s.node < n = a.0.1 in omega (arith, h, l))), more_counted n k ss h a.1)

met_counted : (o : Opens) (b : ℕ) (e : Setting) (inner : Scope) (s : Seen) → Counted s → Counted (met o b e inner s)
unfolding all_open
met_counted Nothing b e inner s c = (omega arith, more_counted s.nodes (suc s.nodes) s.sites (omega arith) c.1)
met_counted Block b e inner s c = (omega arith, more_counted s.nodes (suc s.nodes) s.sites (omega arith) c.1)
met_counted BareBlock b e inner s c = (omega arith, more_counted s.nodes (suc s.nodes) s.sites (omega arith) c.1)
met_counted WithBody b e inner s c = (omega arith, more_counted s.nodes (suc s.nodes) s.sites (omega arith) c.1)
met_counted Hoisting b e inner s c = (omega arith, more_counted s.nodes (suc s.nodes) s.sites (omega arith) c.1)
met_counted ClassMembers b e inner s c = (omega arith, more_counted s.nodes (suc s.nodes) s.sites (omega arith) c.1)
met_counted NameHere b e inner s c = (omega arith, ((c.0, omega arith), more_counted s.nodes (suc s.nodes) s.sites (omega arith) c.1))
met_counted PrivateNameHere b e inner s c = (omega arith, ((c.0, omega arith), more_counted s.nodes (suc s.nodes) s.sites (omega arith) c.1))

walk_counted : (x : Parts) (columns : Along) (a : Around) (s : Seen) → Counted s → Counted (walk x columns a s)
unfolding all_open
walk_counted done columns a s c = c
walk_counted (atom v more) columns a s c = walk_counted more (other_columns columns) a s c
walk_counted (many items more) columns a s c =
    walk_counted more (other_columns columns) a (walk items (all (first_column columns)) a s) (walk_counted items (all (first_column columns)) a s c)
walk_counted (child k b e fields more) columns a s c =
    let here : Setting = at_field (first_column columns) a in
    let around : Around = enter (row k) (hide k fields) here s in
    let s₁ : Seen = met (row k).opens b here around.inside.scope s in
    walk_counted more (other_columns columns) a (walk fields (each (row k).columns) around s₁)
    (walk_counted fields (each (row k).columns) around s₁ (met_counted (row k).opens b here around.inside.scope s c))

-- of a module's place
abbrev OwnNode : Tree → Site → Type 0
OwnNode t s = (1 ≤ s.node) × (s.node < suc (nodes_in (body t)))

own_nodes : (t : Tree) → IsBare t → AllOf (OwnNode t) (sites (alone t))
unfolding all_open statements_seen
own_nodes t b =
    let after : Seen = statements_seen (body t) in
    let own : seen (alone t) ≡ after = bare_seen t b in
    let c : Counted after = walk_counted (body t) (all body_column) top root_seen (omega arith, tt) in
    let many : after.nodes ≡ suc (nodes_in (body t)) = (let e = walk_nodes (body t) (all body_column) top root_seen in omega (arith, e)) in
    let here : AllOf (OwnNode t) after.sites = subst (λ (n : ℕ). AllOf (λ (q : Site). (1 ≤ q.node) × (q.node < n)) after.sites) many c.1 in
    AllOf_reverse (OwnNode t) (seen (alone t)).sites (subst (λ (q : Seen). AllOf (OwnNode t) q.sites) (sym own) here)

-- what tells of each place a node, which is that of a place
abbrev Tells : (List Place → Place → Option ℕ) → Type 0
Tells f = (ps : List Place) (p : Place) → In p ps → (n : ℕ) → f ps p ≡ Some n → (q : Place) × In q ps × (node q ≡ n)

variables_tell : Tells (λ ps p. binding same_name ps p)
variables_tell ps p i n e = let f = stay.binding_source same_name same_name_tells ps p i n e in (f.0, in_from_Contains ps f.0 f.2.among, f.1)

found_there : (t : Place → Bool) (ps : List Place) (n : ℕ) (o : Option Place) → find t ps ≡ o → node_of o ≡ Some n → (q : Place) × In q ps × (node q ≡ n)
unfolding node_of
found_there t ps n None f e = none_some n e
found_there t ps n (Some q) f e = (q, (find_first t ps q f).among, some_one (node q) n e)

binder_there : (ps : List Place) (x : Text) (cs : List ℕ) (n : ℕ) → private_binder same_name ps x cs ≡ Some n → (q : Place) × In q ps × (node q ≡ n)
unfolding private_binder
binder_there ps x [] n e = none_some n e
binder_there ps x (c ∷ cs) n e = go (node_of (find (declares_private_name same_name x c) ps)) refl (binder_there ps x cs n) e
  where
    go : (o : Option ℕ) → node_of (find (declares_private_name same_name x c) ps) ≡ o → (private_binder same_name ps x cs ≡ Some n → (q : Place) × In q ps × (node q ≡ n))
        → elim o as (λ _. Option ℕ) [ Some k ↦ Some k | None ↦ private_binder same_name ps x cs ] ≡ Some n → (q : Place) × In q ps × (node q ≡ n)
    go None f outer e = outer e
    go (Some k) f outer e = found_there (declares_private_name same_name x c) ps n (find (declares_private_name same_name x c) ps) refl (f ∙ e)

private_names_tell : Tells (λ ps p. private_binding same_name ps p)
unfolding private_binding
private_names_tell ps p i n e = go p.site.private e
  where
    go : (b : Bool) → cond b (private_binder same_name ps p.name p.site.setting.classes) None ≡ Some n → (q : Place) × In q ps × (node q ≡ n)
    go true e = binder_there ps p.name p.site.setting.classes n e
    go false e = none_some n e

module _ (f : List Place → Place → Option ℕ) (tells : Tells f) where
  bound_within : (t : Tree) → IsBare t → (m : Moves) (p : Place) → In p (places (alone t)) → (o : Option ℕ) → f (places (alone t)) p ≡ o
      → IfSome (option_map (λ n. m.nodes + n) o) (λ n. (m.nodes < n) × (n ≤ m.nodes + nodes_in (body t)))
  unfolding node
  bound_within t b m p i None e = tt
  bound_within t b m p i (Some n) e =
      let q = tells (places (alone t)) p i n e in
      let own = of_each (OwnNode t) (sites (alone t)) q.0.site (own_nodes t b) (site_in (alone t) q.0 q.1) in
      let low : 1 ≤ q.0.site.node = own.0 in
      let high : q.0.site.node < suc (nodes_in (body t)) = own.1 in
      let same : q.0.site.node ≡ n = q.2 in
      (omega (arith, low, same), omega (arith, high, same))

  all_within : (t : Tree) → IsBare t → (m : Moves) (ps : List Place) → ((p : Place) → In p ps → In p (places (alone t)))
      → LieWithin m.nodes (nodes_in (body t)) (map (option_map (λ n. m.nodes + n)) (map (f (places (alone t))) ps))
  all_within t b m [] h = tt
  all_within t b m (p ∷ ps) h = (bound_within t b m p (h p (inl refl)) _ refl, all_within t b m ps (λ q i. h q (inr i)))

variables_apart : (ts : List Tree) → AllByRecursion IsBare ts → (m : Moves) → AreApart (bindings same_name) m ts
unfolding bindings_moved bindings
variables_apart [] b m = tt
variables_apart (t ∷ ts) b m = (all_within (λ ps p. binding same_name ps p) variables_tell t b.0 m (places (alone t)) (λ p i. i), variables_apart ts b.1 (moves_after m t))

private_names_apart : (ts : List Tree) → AllByRecursion IsBare ts → (m : Moves) → AreApart (private_bindings same_name) m ts
unfolding bindings_moved private_bindings
private_names_apart [] b m = tt
private_names_apart (t ∷ ts) b m = (all_within (λ ps p. private_binding same_name ps p) private_names_tell t b.0 m (places (alone t)) (λ p i. i), private_names_apart ts b.1 (moves_after m t))

pub modules_share_no_binding : ModulesShareNoBinding
modules_share_no_binding ts b = (variables_apart ts b no_moves, private_names_apart ts b no_moves)
