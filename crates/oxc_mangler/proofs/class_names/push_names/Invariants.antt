use Rattle.std.specs.Prelude.{◌≡◌, ℕ, cond, map, nat_eq, take}
use Rattle.class_tables.specs.PrivateTables.{list_in}
use Rattle.oxc_mangler.specs.ClassNames.{looked_up, new_class_name}
use Rattle.private_numbers.specs.AllNumbers.{table_in}
use Rattle.tree_nodes.specs.Tree.{Text}
use Rattle.tree_semantic.specs.Renamed.{class_count, new_name}
use Rattle.oxc_mangler.proofs.class_names.push_names.Given as goal

abbrev pub invariant-loop-i : goal.invariant-loop-i
invariant-loop-i l = record {
  count : class_count l.names ≡ class_count l.fn.names;
  names : (k : ℕ) (x : Text) → new_name l.names k x ≡ cond (nat_eq l.class_body k) (looked_up (take l.i (map (λ n. n.now) l.olds)) (new_class_name (list_in (table_in l.numbers)) l.class_body) 0 x) (new_name l.fn.names k x);
}
