-- Scopes further out, and whether one declares a name.
use Rattle.std.specs.Prelude.{◌≡◌, ℕ, Bool, true, false, cond, not, ◌&&◌, ◌||◌, List, [], ◌∷◌, Option, Some, None, find, is_some}
use Rattle.std.specs.List.{list_any}
use Rattle.std.proofs.Common.{refl, sym, ap, ◌∙◌}
use Rattle.name_rules.specs.Kept.{is_root}
use Rattle.place_list.specs.Bounds.{IsBounded}
use Rattle.place_list.specs.TableViews.{list_view, lists_in, scope_at}
use Rattle.place_list.specs.declared.tables.PlaceList.{PlaceList}
use Rattle.scope_report.proofs.EitherTest.{any_either}
use Rattle.scope_report.specs.Rules.{any_outwards, declares_in, outside}
use Rattle.scope_rules.specs.Bindings.{at_home, binder, declares_at, names_function_at, node_of, or_else, plain_binder, same_name}
use Rattle.scope_rules.specs.Homes.{declares, declares_plainly, is_function_name, names_function}
use Rattle.scope_tables.proofs.Numbers.{Next, none_outside, scope_outwards}
use Rattle.scope_tables.specs.Views.{IsScope}
use Rattle.tree_nodes.specs.Tree.{Text}
use Rattle.tree_places.specs.Places.{Place}
use Rattle.tree_places.specs.Scopes.{Scope, first_outwards}

-- ---- the root has nothing outside

pub root_outside : (s : Scope) → outside s ≡ [] → true ≡ is_root s
unfolding outside is_root
root_outside [] e = refl
root_outside (n ∷ []) e = refl
root_outside (n ∷ m ∷ outer) e = absurd (cc)

pub more_outside : (s : Scope) (n : ℕ) (outer : Scope) → outside s ≡ n ∷ outer → false ≡ is_root s
unfolding outside is_root
more_outside [] n outer e = absurd (cc)
more_outside (k ∷ []) n outer e = absurd (cc)
more_outside (k ∷ m ∷ further) n outer e = refl

-- ---- a first answer outwards, and whether there is one

pub some_outwards : (f : Scope → Option ℕ) (test : Scope → Bool) → ((s : Scope) → is_some (f s) ≡ test s) → (s : Scope) → is_some (first_outwards f s) ≡ any_outwards test s
unfolding first_outwards any_outwards
some_outwards f test same [] = refl
some_outwards f test same (n ∷ further) = go (f (n ∷ further)) (same (n ∷ further)) (some_outwards f test same further)
  where
    go : (o : Option ℕ) → is_some o ≡ test (n ∷ further) → is_some (first_outwards f further) ≡ any_outwards test further
        → is_some (elim o [ Some x ↦ Some x | None ↦ first_outwards f further ]) ≡ (test (n ∷ further) || any_outwards test further)
    go None e ih = ih ∙ ap (λ (b : Bool). b || any_outwards test further) e
    go (Some x) e ih = ap (λ (b : Bool). b || any_outwards test further) e

-- ---- whether a scope declares a name: as one that isn't a function-name, or as such

is_found : (test : Place → Bool) (ps : List Place) → is_some (node_of (find test ps)) ≡ list_any test ps
unfolding node_of
is_found test [] = refl
is_found test (p ∷ ps) = go (test p) (is_found test ps)
  where
    go : (t : Bool) → is_some (node_of (find test ps)) ≡ list_any test ps → is_some (node_of (cond t (Some p) (find test ps))) ≡ (t || list_any test ps)
    go true ih = refl
    go false ih = ih

some_else : (o r : Option ℕ) → is_some (or_else o r) ≡ (is_some o || is_some r)
unfolding or_else
some_else None r = refl
some_else (Some x) r = refl

either : (a b h : Bool) → ((a && not b && h) || (a && b && h)) ≡ (a && h)
either true true h = refl
either true false true = refl
either true false false = refl
either false b h = refl

module _ (ps : List Place) (x : Text) (h : Scope) where
  one_way : (q : Place) → (declares_at same_name x h q || names_function_at same_name x h q) ≡ declares_in x h q
  unfolding declares_at names_function_at declares_in declares_plainly names_function
  one_way q = either (declares q.site) (is_function_name q.site.setting.role) (at_home same_name x h q)

  any_way : (qs : List Place) → list_any (λ q. declares_at same_name x h q || names_function_at same_name x h q) qs ≡ list_any (declares_in x h) qs
  any_way [] = refl
  any_way (q ∷ qs) = ap (λ (b : Bool). b || list_any (λ r. declares_at same_name x h r || names_function_at same_name x h r) qs) (one_way q) ∙ ap (λ (b : Bool). declares_in x h q || b) (any_way qs)

  pub some_binder : is_some (binder same_name ps x h) ≡ list_any (declares_in x h) ps
  unfolding binder plain_binder
  some_binder =
      some_else (node_of (find (declares_at same_name x h) ps)) (node_of (find (names_function_at same_name x h) ps))
      ∙ ap (λ (b : Bool). b || is_some (node_of (find (names_function_at same_name x h) ps))) (is_found (declares_at same_name x h) ps)
      ∙ ap (λ (b : Bool). list_any (declares_at same_name x h) ps || b) (is_found (names_function_at same_name x h) ps)
      ∙ any_either (declares_at same_name x h) (names_function_at same_name x h) ps
      ∙ any_way ps

-- ---- scopes by their numbers

module _ (l : PlaceList) (bounded : IsBounded (list_view l)) where
  pub root_told : (s : Scope) (o : Option ℕ) → IsScope l o → scope_at l o ≡ outside s → (b : Bool) → is_some o ≡ not b → b ≡ is_root s
  root_told s None known e true t = root_outside s (sym e ∙ none_outside (lists_in l).scopes)
  root_told s None known e false t = absurd (cc)
  root_told s (Some m) known e true t = absurd (cc)
  root_told s (Some m) known e false t = let w : Next (scope_at l) m = scope_outwards l bounded m known in more_outside s m (scope_at l w.0) (sym e ∙ w.1.0)
