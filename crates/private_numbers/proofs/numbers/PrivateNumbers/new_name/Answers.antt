use Rattle.std.specs.Prelude.{option_map, slice_get}
use Rattle.std.proofs.Common.{ap, ◌∙◌}
use Rattle.class_tables.specs.PrivateTables.{list_in}
use Rattle.name_rules.specs.ShortNames.{short}
use Rattle.place_list.specs.TableViews.{places_in}
use Rattle.private_numbers.specs.AllNumbers.{table_in}
use Rattle.private_numbers.specs.NewNames.{changed_name, name_or}
use Rattle.private_numbers.proofs.Places.{if_some, named_anew}
use Rattle.private_numbers.proofs.numbers.PrivateNumbers.new_name.Goals as goal

pub returns-clause-changed : goal.returns-clause-changed
unfolding changed_name
returns-clause-changed c =
    let ps = places_in (list_in (table_in c.args.self.now)) in
    if_some (slice_get ps c.args.i) _ _ (λ p h. c.name_of.ensures ∙ ap (option_map short) h) c.place_number.ensures

pub returns-clause-name : goal.returns-clause-name
unfolding changed_name
returns-clause-name c =
    let ps = places_in (list_in (table_in c.args.self.now)) in
    if_some (slice_get ps c.args.i) _ _ (λ p h t. ap (name_or p.name) (c.name_of.ensures ∙ ap (option_map short) h) ∙ named_anew ps p t) c.place_number.ensures
