use Rattle.std.specs.Prelude.{◌≡◌, ℕ, None, cond, nat_lt}
use Rattle.class_tables.specs.PrivateTables.{list_in}
use Rattle.oxc_mangler.proofs.ClassNamesFound.{names_of}
use Rattle.tree_nodes.specs.Tree.{Text}
use Rattle.tree_semantic.specs.Renamed.{class_count, new_name}
use Rattle.oxc_mangler.proofs.class_names.class_names.Given as goal

abbrev pub invariant-loop-class_body : goal.invariant-loop-class_body
invariant-loop-class_body l = record {
  count : class_count l.names ≡ l.class_body;
  names : (k : ℕ) (x : Text) → new_name l.names k x ≡ cond (nat_lt k l.class_body) (names_of (list_in l.table) k x) None;
}
