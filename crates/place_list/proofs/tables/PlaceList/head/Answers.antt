use Rattle.place_list.proofs.OutwardWalks.{head_outwards, outer_below}
use Rattle.place_list.proofs.PlacesStand.{head_scope_read, mapped_at, read_at}
use Rattle.place_list.specs.TableViews.{head_parents}
use Rattle.place_list.specs.declared.tables.HeadEntry.{HeadEntry}
use Rattle.place_list.proofs.tables.PlaceList.head.Goals as goal

pub returns-clause-outwards : goal.returns-clause-outwards
returns-clause-outwards c =
    let l = c.args.self.now in
    head_outwards l c.requires.bounded c.args.head c.index.result.now (read_at l.heads.items c.args.head c.index.result.now c.requires.head c.index.ensures)

pub returns-clause-below : goal.returns-clause-below
returns-clause-below c =
    let l = c.args.self.now in
    outer_below (head_parents l) c.requires.bounded.heads c.args.head c.index.result.now.parent
    (mapped_at (λ (h : HeadEntry). h.parent) l.heads.items c.args.head c.index.result.now (read_at l.heads.items c.args.head c.index.result.now c.requires.head c.index.ensures))

pub returns-clause-scope : goal.returns-clause-scope
returns-clause-scope c =
    let l = c.args.self.now in
    head_scope_read l c.args.head c.index.result.now c.requires.bounded (read_at l.heads.items c.args.head c.index.result.now c.requires.head c.index.ensures)
