use Rattle.std.specs.Prelude.{List, length}
use Rattle.std.specs.List.{All}
use Rattle.std.proofs.Common.{◌≤◌, ◌<◌, subst, sym, ◌∙◌, arith}
use Rattle.std.proofs.lemmas.List.{take_all}
use Rattle.std.proofs.lemmas.List.Elements.{All-contains, All-push}
use Rattle.place_list.specs.TableViews.{places_in}
use Rattle.tree_symbols.specs.Known.{IsKnown}
use Rattle.tree_symbols.specs.declared.known.KnownPlace.{KnownPlace}
use Rattle.tree_symbols.proofs.KnownPlaces.{places_more}
use Rattle.tree_symbols.proofs.known_places.known_places.Goals as goal

pub loop-i-preserved : goal.loop-i-preserved
loop-i-preserved c =
    let l = c.args.tables.now.list in
    let k = c.known_place.result in
    let inside : c.loop-i.i < length l.places.items = omega arith in
    record {
      places = places_more l.places.items c.loop-i.known.items c.push.new.self.items k c.loop-i.i inside c.loop-i.invariant.places c.known_place.ensures.place c.in_ok-push.ensures.items;
      known = subst (λ (ks : List KnownPlace). All (IsKnown l (places_in l)) ks) (sym c.in_ok-push.ensures.items) (All-push (IsKnown l (places_in l)) c.loop-i.known.items k c.loop-i.invariant.known c.known_place.ensures.known);
    }

pub returns : goal.returns
returns c =
    let l = c.args.tables.now.list in
    let over : length l.places.items ≤ c.loop-i.i = omega arith in
    record {
      places_are = c.loop-i.invariant.places ∙ take_all c.loop-i.i l.places.items over;
      known = λ k i. All-contains (IsKnown l (places_in l)) c.loop-i.known.items k c.loop-i.invariant.known i;
    }
