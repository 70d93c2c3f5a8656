use Rattle.std.specs.Prelude.{◌≡◌, ◌≤◌, ◌+◌, ◌||◌, length}
use Rattle.scope_rules.specs.PrivateNames.{is_among}
use Rattle.tree_nodes.specs.Tree.{Text}
use Rattle.mangle_options.proofs.options.copy_names.Given as goal

abbrev pub invariant-loop-name : goal.invariant-loop-name
invariant-loop-name l = record {
  names : (x : Text) → is_among l.names.keys x ≡ (is_among l.copy.keys x || is_among l.name-iterator x);
  few : length l.copy.keys + length l.name-iterator ≤ length l.names.keys;
}
