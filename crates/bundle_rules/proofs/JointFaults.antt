-- What makes a module faulty, among the places of others under names with the module's number: each test tells what it tells in the module alone.
use Rattle.std.proofs.Common.{◌≡◌, ℕ, ◌+◌, Bool, true, false, ◌&&◌, ◌||◌, not, nat_eq, List, [], ◌∷◌, ◌++◌, map, Option, Some, None, is_some, refl, sym, ap, ap₂, ◌∙◌, arith}
use Rattle.std.proofs.lemmas.Bool.{and_left, and_right, both_ways, eq-eqb, eqb-true, ne_eqb, or_from, or_parts}
use Rattle.std.proofs.lemmas.List.Folds.{list_any-append}
use Rattle.std.specs.List.{list_any}
use Rattle.bundle_rules.proofs.TaggedPlaces.{Tagged, at_home_moved, binding_moved, home_moved, moved_node, number_once, private_binding_moved, same_moved, same_tagged, tag}
use Rattle.bundle_rules.specs.Moves.{Moves, moved_number, moved_scope, moved_site}
use Rattle.list_laws.proofs.AnyOf.{any_map, any_none, any_same}
use Rattle.list_laws.proofs.Members.{In, in_left, in_right}
use Rattle.list_laws.proofs.Tests.{some_one, tests_agree}
use Rattle.scope_rules.specs.Bindings.{Bound, at_home, binding, bound, is_node, node, same_name}
use Rattle.scope_rules.specs.Evals.{contains}
use Rattle.scope_rules.specs.Faults.{binds_in, crosses, declares_in_head, has_redeclaration, is_of_body, is_plain_function, is_scope, is_single_at, is_sloppy_function, is_undeclared, reaches_body, redeclares}
use Rattle.scope_rules.specs.Homes.{declares, declares_plainly, home, is_joinable, is_single, is_var, joins, lies_in_var_scope, names_function, refers}
use Rattle.scope_rules.specs.Open.{all_open}
use Rattle.scope_rules.specs.PrivateNames.{private_binding}
use Rattle.tree_nodes.specs.Tree.{Text}
use Rattle.tree_places.specs.Places.{Named, Place, Site}
use Rattle.tree_places.specs.Scopes.{Scope, any_below, same_scope}

-- ---- what a site alone tells

var_scope_moved : (m : Moves) (s : Site) → lies_in_var_scope (moved_site m s) ≡ lies_in_var_scope s
unfolding lies_in_var_scope
var_scope_moved m s = same_moved m.scopes s.setting.scope s.setting.var_scope

pub sloppy_moved : (m : Moves) (s : Site) → is_sloppy_function (moved_site m s) ≡ is_sloppy_function s
unfolding is_sloppy_function declares
sloppy_moved m s = ap (λ (b : Bool). declares s && is_plain_function s.setting.role && not s.setting.strict && not b) (var_scope_moved m s)

joinable_moved : (m : Moves) (s : Site) → is_joinable (moved_site m s) ≡ is_joinable s
unfolding is_joinable
joinable_moved m s = ap (joins s.setting.role) (var_scope_moved m s)

-- ---- numbers that are moved are the same where they were

node_once : (d n k : ℕ) → nat_eq (d + n) (d + k) ≡ nat_eq n k
node_once d n k = tests_agree _ _
    (λ e. eq-eqb _ _ (let f : d + n ≡ d + k = eqb-true _ _ e in omega (arith, f)))
    (λ e. eq-eqb _ _ (ap (λ (i : ℕ). d + i) (eqb-true _ _ e)))

number_moved : (d n k : ℕ) → nat_eq (moved_number d n) (moved_number d k) ≡ nat_eq n k
number_moved d n k = tests_agree _ _
    (λ e. eq-eqb _ _ (number_once d n k (eqb-true _ _ e)))
    (λ e. eq-eqb _ _ (ap (moved_number d) (eqb-true _ _ e)))

is_node_moved : (m : Moves) (o : Option ℕ) (n : ℕ) → is_node (moved_node m o) (m.nodes + n) ≡ is_node o n
unfolding is_node
is_node_moved m None n = refl
is_node_moved m (Some k) n = node_once m.nodes k n

is_scope_moved : (d f : ℕ) (s : Scope) → is_scope (moved_number d f) (moved_scope d s) ≡ is_scope f s
unfolding is_scope
is_scope_moved d f [] = refl
is_scope_moved d f (n ∷ s) = number_moved d f n

contains_moved : (d f : ℕ) (ns : List ℕ) → contains (map (moved_number d) ns) (moved_number d f) ≡ contains ns f
unfolding contains
contains_moved d f [] = refl
contains_moved d f (n ∷ ns) = ap₂ (λ (a b : Bool). a || b) (number_moved d f n) (contains_moved d f ns)

is_some_moved : (m : Moves) (o : Option ℕ) → is_some (moved_node m o) ≡ is_some o
is_some_moved m None = refl
is_some_moved m (Some n) = refl

or_false : (b : Bool) → (b || false) ≡ b
or_false true = refl
or_false false = refl

not_equal : (n k : ℕ) → (n ≡ k → ⊥) → nat_eq n k ≡ false
not_equal n k h = ne_eqb n k h

-- ---- one module among others

module _ (i : ℕ) (m : Moves) (ps : List Place) (front back : List (Named Tagged)) (before : (q : Named Tagged) → In q front → nat_eq q.name.0 i ≡ false) (after : (q : Named Tagged) → In q back → nat_eq q.name.0 i ≡ false) where
  abbrev among : List (Named Tagged)
  among = front ++ (map (tag i m) ps ++ back)

  any_here : (t : Named Tagged → Bool) (u : Place → Bool) → ((q : Named Tagged) → In q among → nat_eq q.name.0 i ≡ false → t q ≡ false) → ((p : Place) → In p ps → t (tag i m p) ≡ u p) → list_any t among ≡ list_any u ps
  any_here t u others own =
      list_any-append t front (map (tag i m) ps ++ back)
      ∙ ap₂ (λ (b c : Bool). b || c) (any_none t front (λ q h. others q (in_left front (map (tag i m) ps ++ back) q h) (before q h)))
      (list_any-append t (map (tag i m) ps) back
      ∙ ap₂ (λ (b c : Bool). b || c) (any_map (tag i m) t ps ∙ any_same (λ p. t (tag i m p)) u ps own)
      (any_none t back (λ q h. others q (in_right front (map (tag i m) ps ++ back) q (in_right (map (tag i m) ps) back q h)) (after q h))))
      ∙ or_false (list_any u ps)

  -- ---- crossings

  single_moved : (x : Text) (h : Scope) → list_any (is_single_at same_tagged (i, x) (moved_scope m.scopes h)) among ≡ list_any (is_single_at same_name x h) ps
  unfolding is_single_at at_home is_single declares_plainly declares
  single_moved x h = any_here (is_single_at same_tagged (i, x) (moved_scope m.scopes h)) (is_single_at same_name x h)
      (λ q j e. and_right _ _ (and_right _ _ (and_left _ _ e)))
      (λ p j. ap₂ (λ (a b : Bool). declares_plainly p.site && not a && b) (joinable_moved m p.site) (at_home_moved i m ps front back before after x h p))

  below_moved : (x : Text) (h s : Scope) → any_below (λ r. list_any (is_single_at same_tagged (i, x) r) among) (moved_scope m.scopes h) (moved_scope m.scopes s) ≡ any_below (λ r. list_any (is_single_at same_name x r) ps) h s
  unfolding any_below
  below_moved x h [] = refl
  below_moved x h (n ∷ s) = ap₂ (λ (a b : Bool). not a && b) (same_moved m.scopes (n ∷ s) h) (ap₂ (λ (a b : Bool). a || b) (single_moved x (n ∷ s)) (below_moved x h s))

  pub crosses_moved : (p : Place) → crosses same_tagged among (tag i m p) ≡ crosses same_name ps p
  unfolding crosses declares
  crosses_moved p = ap (λ (b : Bool). declares p.site && is_var p.site.setting.role && b)
      (ap (λ (h : Scope). any_below (λ r. list_any (is_single_at same_tagged (i, p.name) r) among) h (moved_scope m.scopes p.site.setting.scope)) (home_moved m p.site)
      ∙ below_moved p.name (home p.site) p.site.setting.scope)

  -- ---- private names

  pub undeclared_moved : (p : Place) → is_undeclared same_tagged among (tag i m p) ≡ is_undeclared same_name ps p
  unfolding is_undeclared
  undeclared_moved p = ap (λ (b : Bool). p.site.private && not b) (ap is_some (private_binding_moved i m ps front back before after p) ∙ is_some_moved m (private_binding same_name ps p))

  -- ---- parameters that reach a declaration of the body

  -- a place at a node of this module, or of a binding there, is of this module
  module _ (by_node : (q : Named Tagged) → In q among → (r : Place) → In r ps → node q ≡ m.nodes + node r → q.name.0 ≡ i)
      (by_binding : (q : Named Tagged) → In q among → (r : Place) → In r ps → binding same_tagged among q ≡ Some (m.nodes + node r) → q.name.0 ≡ i)
      (sources : (p : Place) → In p ps → (n : ℕ) → binding same_name ps p ≡ Some n → (r : Place) × In r ps × (node r ≡ n)) where
    abbrev of_joint : List (Bound Tagged)
    of_joint = bound same_tagged among

    abbrev of_module : List (Bound Text)
    of_module = bound same_name ps

    binds_moved : (f : ℕ) (r : Place) → In r ps → list_any (binds_in (moved_number m.scopes f) (m.nodes + node r)) of_joint ≡ list_any (binds_in f (node r)) of_module
    unfolding all_open
    binds_moved f r ir =
        any_map (λ (q : Named Tagged). record { place = q; binding = binding same_tagged among q }) (binds_in (moved_number m.scopes f) (m.nodes + node r)) among
        ∙ any_here (λ q. binds_in (moved_number m.scopes f) (m.nodes + node r) (record { place = q; binding = binding same_tagged among q })) (λ q. binds_in f (node r) (record { place = q; binding = binding same_name ps q }))
        (λ q j e. and_left _ _ (and_left _ _ (and_right _ _ (not_equal _ _ (λ p. both_ways _ e (eq-eqb _ _ (by_node q j r ir p)))))))
        (λ q j. ap₂ (λ (a b : Bool). a && nat_eq (m.nodes + node q) (m.nodes + node r) && b && not (names_function q.site))
        (ap (λ (b : Bool). declares q.site && b) (ap (λ (o : Option ℕ). is_node o (m.nodes + node q)) (binding_moved i m ps front back before after q) ∙ is_node_moved m (binding same_name ps q) (node q)))
        (ap (is_scope (moved_number m.scopes f)) (home_moved m q.site) ∙ is_scope_moved m.scopes f (home q.site))
        ∙ ap (λ (b : Bool). declares q.site && is_node (binding same_name ps q) (node q) && b && is_scope f (home q.site) && not (names_function q.site)) (node_once m.nodes (node q) (node r)))
        ∙ sym (any_map (λ (q : Place). record { place = q; binding = binding same_name ps q }) (binds_in f (node r)) ps)

    no_node : (o : Option ℕ) (n : ℕ) → (o ≡ Some n → ⊥) → is_node o n ≡ false
    unfolding is_node
    no_node None n h = refl
    no_node (Some k) n h = not_equal k n (λ e. h (ap Some e))

    heads_moved : (f : ℕ) (r : Place) → In r ps → list_any (declares_in_head (moved_number m.scopes f) (m.nodes + node r)) of_joint ≡ list_any (declares_in_head f (node r)) of_module
    unfolding bound declares_in_head declares
    heads_moved f r ir =
        any_map (λ (q : Named Tagged). record { place = q; binding = binding same_tagged among q }) (declares_in_head (moved_number m.scopes f) (m.nodes + node r)) among
        ∙ any_here (λ q. declares_in_head (moved_number m.scopes f) (m.nodes + node r) (record { place = q; binding = binding same_tagged among q })) (λ q. declares_in_head f (node r) (record { place = q; binding = binding same_name ps q }))
        (λ q j e. and_left _ _ (and_right _ _ (no_node _ _ (λ p. both_ways _ e (eq-eqb _ _ (by_binding q j r ir p))))))
        (λ q j. ap₂ (λ (a b : Bool). declares q.site && a && b)
        (ap (λ (o : Option ℕ). is_node o (m.nodes + node r)) (binding_moved i m ps front back before after q) ∙ is_node_moved m (binding same_name ps q) (node r))
        (contains_moved m.scopes f q.site.setting.heads))
        ∙ sym (any_map (λ (q : Place). record { place = q; binding = binding same_name ps q }) (declares_in_head f (node r)) ps)

    body_moved : (f : ℕ) (r : Place) → In r ps → is_of_body of_joint (m.nodes + node r) (moved_number m.scopes f) ≡ is_of_body of_module (node r) f
    unfolding is_of_body
    body_moved f r ir = ap₂ (λ (a b : Bool). a && not b) (binds_moved f r ir) (heads_moved f r ir)

    pub reaches_moved : (p : Place) → In p ps → reaches_body of_joint (record { place = tag i m p; binding = binding same_tagged among (tag i m p) }) ≡ reaches_body of_module (record { place = p; binding = binding same_name ps p })
    unfolding reaches_body refers
    reaches_moved p ip = ap (λ (b : Bool). refers p.site && b) (go (binding same_name ps p) (binding same_tagged among (tag i m p)) refl (binding_moved i m ps front back before after p))
      where
        go : (o o' : Option ℕ) → binding same_name ps p ≡ o → o' ≡ moved_node m o
            → elim o' as (λ _. Bool) [ None ↦ false | Some n ↦ list_any (is_of_body of_joint n) (map (moved_number m.scopes) p.site.setting.heads) ]
            ≡ elim o as (λ _. Bool) [ None ↦ false | Some n ↦ list_any (is_of_body of_module n) p.site.setting.heads ]
        go None None e f = refl
        go None (Some k) e f = absurd (cc)
        go (Some n) None e f = absurd (cc)
        go (Some n) (Some k) e f =
            let r = sources p ip n e in
            let number : k ≡ m.nodes + node r.0 = some_one _ _ f ∙ ap (λ (l : ℕ). m.nodes + l) (sym r.2) in
            ap (λ (l : ℕ). list_any (is_of_body of_joint l) (map (moved_number m.scopes) p.site.setting.heads)) number
            ∙ any_map (moved_number m.scopes) (is_of_body of_joint (m.nodes + node r.0)) p.site.setting.heads
            ∙ any_same (λ f. is_of_body of_joint (m.nodes + node r.0) (moved_number m.scopes f)) (is_of_body of_module n) p.site.setting.heads
            (λ f j. body_moved f r.0 r.1 ∙ ap (λ (l : ℕ). is_of_body of_module l f) r.2)

-- ---- a name is declared again

redeclares_moved : (i : ℕ) (m : Moves) (p q : Place) → redeclares same_tagged (tag i m p) (tag i m q) ≡ redeclares same_name p q
unfolding all_open
redeclares_moved i m p q =
    ap₂ (λ (a b : Bool). declares_plainly p.site && (declares_plainly q.site && a) && not b)
    (ap₂ (λ (h k : Scope). same_scope h k && same_tagged (i, q.name) (i, p.name)) (home_moved m q.site) (home_moved m p.site)
    ∙ ap₂ (λ (a b : Bool). a && b) (same_moved m.scopes (home q.site) (home p.site)) (ap (λ (b : Bool). b && same_name q.name p.name) (eq-eqb i i refl)))
    (ap₂ (λ (a b : Bool). a && b) (joinable_moved m p.site) (joinable_moved m q.site))

redeclares_none : (i : ℕ) (m : Moves) (p : Place) (q : Named Tagged) → nat_eq q.name.0 i ≡ false → redeclares same_tagged (tag i m p) q ≡ false
unfolding all_open
redeclares_none i m p q e =
    and_left (declares_plainly p.site && (declares_plainly q.site && (same_scope (home q.site) (home (moved_site m p.site)) && same_tagged q.name (i, p.name)))) _
    (and_right (declares_plainly p.site) _ (and_right (declares_plainly q.site) _ (and_right (same_scope (home q.site) (home (moved_site m p.site))) _ (and_left (nat_eq q.name.0 i) (same_name q.name.1 p.name) e))))

pub redeclared_none : (i : ℕ) (m : Moves) (ps : List Place) (rest : List (Named Tagged)) → ((q : Named Tagged) → In q rest → nat_eq q.name.0 i ≡ false) → has_redeclaration same_name ps ≡ false → has_redeclaration same_tagged rest ≡ false
    → has_redeclaration same_tagged (map (tag i m) ps ++ rest) ≡ false
unfolding has_redeclaration
redeclared_none i m [] rest others own r = r
redeclared_none i m (p ∷ ps) rest others own r =
    let two = or_parts _ _ own in
    or_from _ _
    (list_any-append (redeclares same_tagged (tag i m p)) (map (tag i m) ps) rest
    ∙ or_from _ _ (any_map (tag i m) (redeclares same_tagged (tag i m p)) ps ∙ any_same (λ q. redeclares same_tagged (tag i m p) (tag i m q)) (redeclares same_name p) ps (λ q j. redeclares_moved i m p q) ∙ two.0)
    (any_none (redeclares same_tagged (tag i m p)) rest (λ q j. redeclares_none i m p q (others q j))))
    (redeclared_none i m ps rest others two.1 r)
