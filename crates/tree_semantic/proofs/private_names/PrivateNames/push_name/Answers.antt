use Rattle.std.specs.Prelude.{◌≡◌, ◌<◌, ◌-◌, ◌&&◌, ℕ, length, nat_eq, Some, if◌then◌else◌}
use Rattle.std.specs.BTreeMap.{BTreeMap}
use Rattle.std.specs.Borrow.{Bor}
use Rattle.std.proofs.Common.{ap, arith, ◌∙◌}
use Rattle.std.proofs.lemmas.Result.{on_err_weaker, on_ok_weaker}
use Rattle.scope_rules.specs.Bindings.{same_name}
use Rattle.tree_nodes.specs.Tree.{Text}
use Rattle.tree_semantic.specs.Renamed.{class_count, name_in, new_name}
use Rattle.tree_semantic.proofs.OneMore.{name_set, same_set}
use Rattle.tree_semantic.proofs.private_names.PrivateNames.push_name.Goals as goal

pub returns-clause-names : goal.returns-clause-names
returns-clause-names c =
    let many : c.len-last.result ≡ class_count c.args.self.now = omega (arith, c.len-last.ensures) in
    let inside : c.len-last.result - 1 < length c.args.self.now.classes.items = omega (arith, c.len-last.ensures, c.requires.class) in
    on_ok_weaker c.put.result (λ h k x.
    name_set (λ m. name_in m x) c.args.self.now.classes.items (c.len-last.result - 1) c.put.new.names c.index_mut.result.now (same_name c.as_str.result.now x) c.args.new inside
    (h x ∙ ap (λ (m : BTreeMap (Bor Text) Text). if same_name c.as_str.result.now x then Some c.args.new else name_in m x) c.index_mut.ensures.value) k
    ∙ ap (λ (n : ℕ). if nat_eq (n - 1) k && same_name c.as_str.result.now x then Some c.args.new else new_name c.args.self.now k x) many
    ∙ ap (λ (w : Text). if nat_eq (class_count c.args.self.now - 1) k && same_name w x then Some c.args.new else new_name c.args.self.now k x) c.as_str.ensures) c.put.ensures.put

pub returns-clause-refused : goal.returns-clause-refused
returns-clause-refused c =
    let inside : c.len-last.result - 1 < length c.args.self.now.classes.items = omega (arith, c.len-last.ensures, c.requires.class) in
    on_err_weaker c.put.result (λ h k x.
    same_set (λ m. name_in m x) c.args.self.now.classes.items (c.len-last.result - 1) c.put.new.names c.index_mut.result.now inside (h x ∙ ap (λ (m : BTreeMap (Bor Text) Text). name_in m x) c.index_mut.ensures.value) k) c.put.ensures.refused
