-- A place of a list and its binding.
use Rattle.std.specs.Prelude.{◌≡◌, ℕ, Some, slice_get}
use Rattle.std.proofs.Common.{sym, ◌∙◌}
use Rattle.list_laws.proofs.Tests.{some_one}
use Rattle.place_list.proofs.PlacesStand.{mapped_at}
use Rattle.place_list.specs.TableViews.{places_in}
use Rattle.place_list.specs.declared.tables.PlaceList.{PlaceList}
use Rattle.scope_report.specs.Rules.{with_binding}
use Rattle.scope_rules.specs.Bindings.{Bound, binding, bound, same_name}
use Rattle.tree_nodes.specs.Tree.{Text}
use Rattle.tree_places.specs.Places.{Place}

-- its binding is the one of the place
pub bound_of_place : (l : PlaceList) (i : ℕ) (p : Place) (b : Bound Text) → slice_get (places_in l) i ≡ Some p → slice_get (bound same_name (places_in l)) i ≡ Some b → b ≡ with_binding (places_in l) p
unfolding bound with_binding
bound_of_place l i p b read is =
    some_one _ _ (sym is ∙ mapped_at (λ (q : Place). record { place = q; binding = binding same_name (places_in l) q }) (places_in l) i p read)
