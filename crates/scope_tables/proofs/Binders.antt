-- The first places that declare in one way, in the words of the definitions.
use Rattle.std.specs.Prelude.{◌≡◌, Bool, true, false, cond, ◌||◌, List, [], ◌∷◌, Some, find, is_some}
use Rattle.std.specs.List.{list_any}
use Rattle.std.proofs.Common.{refl}
use Rattle.tree_nodes.specs.Tree.{Text}
use Rattle.tree_places.specs.Places.{Place}
use Rattle.tree_places.specs.Scopes.{Scope}
use Rattle.scope_rules.specs.Bindings.{binder, declares_at, names_function_at, node_of, or_else, plain_binder, same_name}
use Rattle.scope_rules.specs.Faults.{is_single_at}
use Rattle.scope_tables.specs.Firsts.{first_at, passes, passes_at}
use Rattle.scope_tables.specs.declared.sites.Declaring.TheVariants.{AsFunctionName, Plainly, Singly}

pub first_is_plain_binder : (ps : List Place) (x : Text) (h : Scope) → first_at Plainly ps x h ≡ plain_binder same_name ps x h
unfolding first_at passes_at passes plain_binder declares_at
first_is_plain_binder ps x h = refl

pub firsts_are_binder : (ps : List Place) (x : Text) (h : Scope) → or_else (first_at Plainly ps x h) (first_at AsFunctionName ps x h) ≡ binder same_name ps x h
unfolding first_at passes_at passes plain_binder declares_at binder names_function_at
firsts_are_binder ps x h = refl

is_found : (test : Place → Bool) (ps : List Place) → is_some (node_of (find test ps)) ≡ list_any test ps
unfolding node_of
is_found test [] = refl
is_found test (p ∷ ps) = go (test p) (is_found test ps)
  where
    go : (t : Bool) → is_some (node_of (find test ps)) ≡ list_any test ps → is_some (node_of (cond t (Some p) (find test ps))) ≡ (t || list_any test ps)
    go true ih = refl
    go false ih = ih

pub first_is_single : (ps : List Place) (x : Text) (h : Scope) → is_some (first_at Singly ps x h) ≡ list_any (is_single_at same_name x h) ps
unfolding first_at passes_at passes is_single_at
first_is_single ps x h = is_found (is_single_at same_name x h) ps

pub first_is_declared : (ps : List Place) (x : Text) (h : Scope) → is_some (first_at Plainly ps x h) ≡ list_any (declares_at same_name x h) ps
unfolding first_at passes_at passes declares_at
first_is_declared ps x h = is_found (declares_at same_name x h) ps
