use Rattle.std.specs.Prelude.{◌≡◌, ◌<◌, Some, length, slice_get}
use Rattle.std.proofs.Common.{sym, subst}
use Rattle.place_list.specs.Bounds.{IsBounded, IsKnown}
use Rattle.place_list.specs.TableViews.{list_view, place_in, places_in}
use Rattle.place_list.specs.declared.tables.PlaceList.{PlaceList}
use Rattle.private_numbers.proofs.numbers.place_of.Goals as goal

pub place-requires-clause-bounded : goal.place-requires-clause-bounded
place-requires-clause-bounded c = subst (λ (l : PlaceList). IsBounded (list_view l)) (sym c.list.ensures) c.requires.whole.bounded

pub place-requires-clause-index : goal.place-requires-clause-index
place-requires-clause-index c = subst (λ (l : PlaceList). c.args.i < length l.places.items) (sym c.list.ensures) c.requires.index

pub returns-clause-stands : goal.returns-clause-stands
returns-clause-stands c = subst (λ (l : PlaceList). slice_get (places_in l) c.args.i ≡ Some (place_in l c.place.result)) c.list.ensures c.place.ensures.stands

pub returns-clause-known : goal.returns-clause-known
returns-clause-known c = subst (λ (l : PlaceList). IsKnown (list_view l) c.place.result.setting) c.list.ensures c.place.ensures.known
