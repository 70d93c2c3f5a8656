-- The binding of a place, by what the place does.
use Rattle.std.specs.Prelude.{◌≡◌, ◌+◌, ◌<◌, ℕ, true, false, List, [], ◌∷◌, ◌++◌, length, map, take, get_or, Option, Some, None}
use Rattle.std.proofs.Common.{refl, sym, ap, ◌∙◌}
use Rattle.std.proofs.lemmas.List.{map-append, take_more}
use Rattle.tree_nodes.specs.Tree.{Text}
use Rattle.tree_places.specs.Places.{Place}
use Rattle.tree_places.specs.Scopes.{first_outwards}
use Rattle.scope_rules.specs.Bindings.{Bound, binder, binding, node, plain_binder, same_name}
use Rattle.scope_rules.specs.Homes.{declares, home, names_function, refers}

module _ (ps : List Place) (p : Place) where
  pub reference_binding : refers p.site ≡ true → binding same_name ps p ≡ first_outwards (binder same_name ps p.name) p.site.setting.scope
  unfolding binding
  reference_binding r = rw r refl

  pub function_name_binding : refers p.site ≡ false → names_function p.site ≡ true → binding same_name ps p ≡ Some (node p)
  unfolding binding
  function_name_binding r f = rw (r, f) refl

  pub declaration_binding : refers p.site ≡ false → names_function p.site ≡ false → declares p.site ≡ true → binding same_name ps p ≡ plain_binder same_name ps p.name (home p.site)
  unfolding binding
  declaration_binding r f d = rw (r, f, d) refl

  pub no_binding : refers p.site ≡ false → names_function p.site ≡ false → declares p.site ≡ false → binding same_name ps p ≡ None
  unfolding binding
  no_binding r f d = rw (r, f, d) refl

-- one item more, each under f
pub mapped_more : {X Y : Type 0} (f : X → Y) (xs : List X) (i : ℕ) (e : X) → i < length xs → (ys zs : List Y) → ys ≡ map f (take i xs)
    → (y : Y) → y ≡ f (get_or xs i e) → zs ≡ ys ++ y ∷ [] → zs ≡ map f (take (i + 1) xs)
mapped_more f xs i e h ys zs s y t u =
    u ∙ ap (λ ws. ws ++ y ∷ []) s ∙ ap (λ z. map f (take i xs) ++ z ∷ []) t ∙ sym (ap (map f) (take_more xs i e h) ∙ map-append f (take i xs) (get_or xs i e ∷ []))

-- a place with equal bindings
pub bound_same : (p : Place) (o r : Option ℕ) → o ≡ r → ◌≡◌ {A = Bound Text} (record { place = p; binding = o }) (record { place = p; binding = r })
bound_same p o r e = ap (λ b. record { place = p; binding = b }) e
