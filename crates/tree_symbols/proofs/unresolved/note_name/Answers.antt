use Rattle.std.specs.Prelude.{◌||◌, List, ℕ, is_some, not}
use Rattle.std.proofs.Common.{ap, sym, ◌∙◌}
use Rattle.std.proofs.lemmas.Map.Text.{btree_map_updates_str}
use Rattle.std.specs.BTreeMap.{get_by}
use Rattle.std.specs.Cmp.Lexicographic.{slice_cmp}
use Rattle.std.specs.Ordering.{nat_cmp}
use Rattle.scope_rules.specs.Bindings.{same_name}
use Rattle.tree_symbols.specs.Known.{refers}
use Rattle.tree_symbols.specs.Unresolved.{has_name, leaves_name}
use Rattle.tree_symbols.proofs.NamesLeft.{left_name, name_more, no_name, or_nothing}
use Rattle.tree_symbols.proofs.unresolved.note_name.Goals as goal

pub returns-in_ok-insert : goal.returns-in_ok-insert
unfolding leaves_name same_name
returns-in_ok-insert c = λ x.
    name_more (λ (ds : List ℕ). get_by (λ k. slice_cmp nat_cmp ds k.now) c.args.names.now) (get_by (λ k. slice_cmp nat_cmp x k.now) c.insert.new.self) c.args.known.now.place.name.now x
    (btree_map_updates_str c.args.known.now.place.name.now c.args.names.now c.insert.new.self _ c.in_ok-insert.ensures.updates x)
    ∙ ap (λ b. has_name c.args.names.now x || b) (sym (left_name (refers c.args.known.now) (not (is_some c.args.known.now.binding)) _ (sym c.is_unbound.ensures ∙ c.if-is_unbound.true)))

pub returns-else-is_unbound : goal.returns-else-is_unbound
unfolding leaves_name
returns-else-is_unbound c = λ x. or_nothing _ _ (no_name (refers c.args.known.now) (not (is_some c.args.known.now.binding)) _ (sym c.is_unbound.ensures ∙ c.if-is_unbound.false))
