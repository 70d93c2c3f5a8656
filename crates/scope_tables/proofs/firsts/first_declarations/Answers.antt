use Rattle.std.specs.Prelude.{List}
use Rattle.std.specs.Map.{lookup}
use Rattle.std.proofs.Common.{sym, ap, ◌∙◌, subst}
use Rattle.std.proofs.lemmas.List.{take_more}
use Rattle.place_list.specs.declared.tables.PlaceEntry.{PlaceEntry}
use Rattle.scope_tables.specs.Firsts.{HoldsFirsts}
use Rattle.scope_tables.specs.Keys.{is_key, number_from}
use Rattle.scope_tables.proofs.FirstPlaces.{contains_at, none_first}
use Rattle.scope_tables.proofs.firsts.first_declarations.Goals as goal

pub loop-place-init : goal.loop-place-init
loop-place-init c = λ s h q j. ap (lookup (is_key (number_from s) q.name_number)) c.new-firsts.ensures.empty ∙ sym (none_first c.args.declaring _ _)

pub put_place-requires : goal.put_place-requires
put_place-requires c = c.requires.stands _ (contains_at c.args.places.now c.loop-place.place-index _ c.loop-place-test.true)

pub loop-place-preserved : goal.loop-place-preserved
loop-place-preserved c =
    let i = c.loop-place.place-index in
    let h = c.loop-place-test.true in
    let all = c.args.places.now in
    subst (λ (qs : List PlaceEntry). HoldsFirsts c.args.declaring c.args.list.now all qs c.put_place.new.firsts) (sym (take_more all i _ h))
    (c.in_ok-put_place.ensures all _ c.requires (contains_at all i _ h) c.loop-place.invariant)
