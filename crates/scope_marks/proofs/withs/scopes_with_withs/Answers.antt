use Rattle.std.proofs.Common.{List, ℕ, Option, false, length, replicate, Bool, ap, subst, sym, arith, ◌∙◌, map}
use Rattle.std.proofs.lemmas.List.{length-replicate}
use Rattle.std.specs.List.{AllByRecursion}
use Rattle.place_list.specs.Bounds.{IsBelow}
use Rattle.place_list.specs.TableViews.{scope_at}
use Rattle.scope_marks.proofs.MarksHold.{withs_are_held, withs_below}
use Rattle.scope_marks.specs.Marks.{mark_each}
use Rattle.scope_marks.proofs.withs.scopes_with_withs.Goals as goal

pub mark_each-requires-clause-room : goal.mark_each-requires-clause-room
mark_each-requires-clause-room g c = ap (length {A = Bool}) c.in_ok-bits.ensures ∙ length-replicate c.len.result false ∙ (omega (arith, c.len.ensures, c.args.list.now.scopes.ok))

pub mark_each-requires-clause-scopes : goal.mark_each-requires-clause-scopes
mark_each-requires-clause-scopes g c =
    subst (λ (os : List (Option ℕ)). AllByRecursion (IsBelow (length c.args.list.now.scopes.items)) os) (sym c.as_slice.ensures.value) (withs_below c.args.list.now c.requires)

pub returns : goal.returns
returns g c =
    withs_are_held c.args.list.now c.requires c.len.result c.mark_each.new.bits (omega (arith, c.len.ensures, c.args.list.now.scopes.ok))
    (c.mark_each.ensures
    ∙ ap (λ (start : List Bool). mark_each start (map (scope_at c.args.list.now) c.as_slice.result.now)) c.in_ok-bits.ensures
    ∙ ap (λ (os : List (Option ℕ)). mark_each (replicate c.len.result false) (map (scope_at c.args.list.now) os)) c.as_slice.ensures.value)
