use Rattle.std.specs.Prelude.{◌<◌, ℕ, List, Option, IfSome, length, map}
use Rattle.std.specs.List.{AllByRecursion}
use Rattle.std.proofs.Common.{ap, subst, sym, ◌∙◌}
use Rattle.number_tables.specs.GroupsOf.{items_of}
use Rattle.syntax_sem.specs.NodeId.{number_of}
use Rattle.tree_symbols.specs.Known.{declared_by}
use Rattle.tree_symbols.proofs.Numbered.{declared_below, items_map, same_length}
use Rattle.tree_symbols.proofs.symbol_table.declarations.Goals as goal

pub new-requires-clause-below : goal.new-requires-clause-below
new-requires-clause-below c =
    subst (λ (os : List (Option ℕ)). AllByRecursion (λ o. IfSome o (λ k. k < c.args.count)) os) (sym (c.as_slice.ensures.value ∙ c.in_ok-numbers.ensures)) (declared_below c.args.count c.args.row.now c.requires.row c.args.places.now)

pub new-requires-clause-same : goal.new-requires-clause-same
new-requires-clause-same c =
    ap length c.as_slice-2.ensures.value ∙ sym (same_length number_of c.in_ok-ids.ids.items) ∙ ap length c.in_ok-ids.ensures ∙ same_length _ c.args.places.now
    ∙ sym (ap length (c.as_slice.ensures.value ∙ c.in_ok-numbers.ensures) ∙ same_length (declared_by c.args.row.now) c.args.places.now)

pub returns-clause-nodes : goal.returns-clause-nodes
returns-clause-nodes c = λ k.
    ap (map number_of) (c.in_ok-declarations.ensures.groups k) ∙ items_map number_of k c.as_slice.result.now c.as_slice-2.result.now
    ∙ ap (λ (os : List (Option ℕ)). items_of k os (map number_of c.as_slice-2.result.now)) (c.as_slice.ensures.value ∙ c.in_ok-numbers.ensures)
    ∙ ap (λ (ns : List ℕ). items_of k (map (declared_by c.args.row.now) c.args.places.now) ns) (ap (map number_of) c.as_slice-2.ensures.value ∙ c.in_ok-ids.ensures)
