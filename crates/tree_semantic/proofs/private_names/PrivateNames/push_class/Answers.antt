use Rattle.std.specs.Prelude.{List, None, get_or, map}
use Rattle.std.specs.BTreeMap.{BTreeMap, is_at}
use Rattle.std.specs.Borrow.{Bor}
use Rattle.std.specs.Cmp.Lexicographic.{slice_cmp}
use Rattle.std.specs.Map.{lookup}
use Rattle.std.specs.Ordering.{nat_cmp}
use Rattle.std.proofs.Common.{ap, ◌∙◌}
use Rattle.tree_nodes.specs.Tree.{Text}
use Rattle.tree_semantic.specs.Renamed.{name_in}
use Rattle.tree_semantic.proofs.OneMore.{empty_pushed}
use Rattle.tree_semantic.proofs.private_names.PrivateNames.push_class.Goals as goal

pub returns-clause-names : goal.returns-clause-names
returns-clause-names c = λ k x.
    ap (λ (ms : List (BTreeMap (Bor Text) Text)). get_or (map (λ m. name_in m x) ms) k None) c.in_ok-push.ensures.items
    ∙ empty_pushed (λ m. name_in m x) c.args.self.now.classes.items c.new.result k (ap (λ es. lookup (is_at (λ y. slice_cmp nat_cmp x y.now)) es) c.new.ensures.empty)
