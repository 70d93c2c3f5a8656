-- Nodes that are listed, by their numbers.
use Rattle.std.specs.Prelude.{◌≡◌, ℕ, map, Option, Some, None, option_map, slice_get}
use Rattle.std.proofs.Common.{ap, refl, ◌∙◌}
use Rattle.std.proofs.lemmas.Option.{slice_get-map}
use Rattle.place_list.specs.TableViews.{lists_in, nested_node_in, nested_nodes_in, node_view}
use Rattle.place_list.specs.Tables.{nested_node_of}
use Rattle.place_list.specs.declared.tables.NodeEntry.{NodeEntry}
use Rattle.place_list.specs.declared.tables.PlaceList.{PlaceList}

pub nested_at : (l : PlaceList) (n : ℕ) (o : Option NodeEntry) → slice_get l.node_entries.items n ≡ o → slice_get (nested_nodes_in l) n ≡ option_map (nested_node_in l) o
nested_at l n o e =
    slice_get-map (nested_node_of (lists_in l)) (map node_view l.node_entries.items) n
    ∙ ap (option_map (nested_node_of (lists_in l))) (slice_get-map node_view l.node_entries.items n ∙ ap (option_map node_view) e)
    ∙ both o
  where
    both : (r : Option NodeEntry) → option_map (nested_node_of (lists_in l)) (option_map node_view r) ≡ option_map (nested_node_in l) r
    both None = refl
    both (Some x) = refl
