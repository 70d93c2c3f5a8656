use Rattle.std.proofs.Common.{◌≡◌, ◌≤◌, ◌<◌, List, Bool, length, ap, arith, sym, subst, ◌∙◌}
use Rattle.live_slots.proofs.MarksReached.{is_given, read_at, reached_long, reached_room}
use Rattle.place_list.specs.TableViews.{scopes_in}
use Rattle.live_slots.proofs.give.give_slot.Goals as goal

pub index_mut-requires : goal.index_mut-requires
index_mut-requires g c =
    let l : c.first_without-slot.result < length c.reach.new.marks.items =
    subst (λ (xs : List (List Bool)). c.first_without-slot.result < length xs) (sym c.in_ok-reach.ensures)
    (reached_long c.args.marks.now.items c.first_without-slot.result c.len.result (omega (arith, c.first_without-slot.ensures.high, ap (length {A = List Bool}) c.as_slice.ensures.value))) in
    omega (arith, l, c.reach.new.marks.ok)

pub mark_group-requires-clause-room : goal.mark_group-requires-clause-room
mark_group-requires-clause-room g c =
    let high : c.first_without-slot.result ≤ length c.args.marks.now.items = omega (arith, c.first_without-slot.ensures.high, ap (length {A = List Bool}) c.as_slice.ensures.value) in
    let n : c.len.result ≡ length c.args.list.now.scopes.items = omega (arith, c.len.ensures, c.args.list.now.scopes.ok) in
    ap (length {A = Bool}) (read_at c.args.marks.now.items c.reach.new.marks.items c.first_without-slot.result c.len.result (length c.args.list.now.scopes.items) c.index_mut.result.now high c.in_ok-reach.ensures n c.index_mut.ensures.value)
    ∙ reached_room c.args.marks.now.items c.first_without-slot.result (length c.args.list.now.scopes.items) c.requires.room high

pub returns : goal.returns
returns g c =
    let n : c.len.result ≡ length c.args.list.now.scopes.items = omega (arith, c.len.ensures, c.args.list.now.scopes.ok) in
    is_given (scopes_in c.args.list.now) (length c.args.list.now.scopes.items) c.args.marks.now.items c.as_slice.result.now c.reach.new.marks.items c.args.from c.args.home c.first_without-slot.result c.len.result c.args.places.now c.index_mut.result.now c.mark_group.new.bits
    c.as_slice.ensures.value c.first_without-slot.ensures.low c.first_without-slot.ensures.high c.first_without-slot.ensures.skipped c.first_without-slot.ensures.free
    c.in_ok-reach.ensures n c.index_mut.ensures.value c.mark_group.ensures
