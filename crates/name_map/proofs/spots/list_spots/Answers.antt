use Rattle.std.proofs.Common.{map, ap, ◌∙◌}
use Rattle.tree_nodes.specs.Tree.{alone}
use Rattle.name_map.specs.Spots.{is_plain_entry}
use Rattle.place_list.specs.declared.tables.PlaceEntry.{PlaceEntry}
use Rattle.name_map.proofs.Entries.{entries_named, entries_plain}
use Rattle.name_map.proofs.spots.list_spots.Goals as goal

pub returns-clause-names : goal.returns-clause-names
returns-clause-names c = c.in_ok-names.ensures ∙ ap (map (λ (e : PlaceEntry). e.name.now)) c.as_slice.ensures.value ∙ entries_named c.in_ok-list.list (alone c.args.root.now) c.in_ok-list.ensures.places

pub returns-clause-plain : goal.returns-clause-plain
returns-clause-plain c = c.in_ok-plain.ensures ∙ ap (map is_plain_entry) c.as_slice-2.ensures.value ∙ entries_plain c.in_ok-list.list (alone c.args.root.now) c.in_ok-list.ensures.places
