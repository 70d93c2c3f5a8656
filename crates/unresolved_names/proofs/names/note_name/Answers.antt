use Rattle.std.specs.Prelude.{◌||◌, ◌&&◌, List, ℕ, is_some}
use Rattle.std.proofs.Common.{ap, sym, ◌∙◌}
use Rattle.std.proofs.lemmas.Map.Text.{btree_map_updates_str}
use Rattle.std.specs.BTreeMap.{get_by}
use Rattle.std.specs.Cmp.Lexicographic.{slice_cmp}
use Rattle.std.specs.Ordering.{nat_cmp}
use Rattle.scope_rules.specs.Bindings.{same_name}
use Rattle.tree_symbols.specs.Unresolved.{has_name}
use Rattle.tree_symbols.proofs.NamesLeft.{name_more, or_nothing}
use Rattle.unresolved_names.specs.Noted.{is_noted}
use Rattle.unresolved_names.proofs.names.note_name.Goals as goal

pub returns-in_ok-insert : goal.returns-in_ok-insert
unfolding is_noted same_name
returns-in_ok-insert c = λ x.
    name_more (λ (ds : List ℕ). get_by (λ k. slice_cmp nat_cmp ds k.now) c.args.names.now) (get_by (λ k. slice_cmp nat_cmp x k.now) c.insert.new.self) c.args.name.now x
    (btree_map_updates_str c.args.name.now c.args.names.now c.insert.new.self _ c.in_ok-insert.ensures.updates x)
    ∙ ap (λ b. has_name c.args.names.now x || (b && same_name x c.args.name.now)) (sym (sym c.is_unresolved.ensures ∙ c.if-is_unresolved.true))

pub returns-else-is_unresolved : goal.returns-else-is_unresolved
unfolding is_noted
returns-else-is_unresolved c = λ x. or_nothing _ _ (ap (λ b. b && same_name x c.args.name.now) (sym c.is_unresolved.ensures ∙ c.if-is_unresolved.false))
