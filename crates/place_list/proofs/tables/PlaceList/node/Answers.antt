use Rattle.place_list.proofs.PlacesStand.{mapped_at, read_at}
use Rattle.place_list.specs.TableViews.{lists_in, node_view}
use Rattle.place_list.specs.Tables.{nested_node_of}
use Rattle.place_list.proofs.tables.PlaceList.node.Goals as goal

pub returns : goal.returns
returns c =
    let l = c.args.self.now in
    mapped_at (nested_node_of (lists_in l)) _ c.args.node _ (mapped_at node_view l.node_entries.items c.args.node c.index.result.now (read_at l.node_entries.items c.args.node c.index.result.now c.requires.node c.index.ensures))
