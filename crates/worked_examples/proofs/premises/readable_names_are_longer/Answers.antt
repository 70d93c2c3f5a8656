use Rattle.std.specs.Prelude.{◌≡◌, codes}
use Rattle.std.proofs.Common.{refl, sym, ◌∙◌, inl, inr}
use Rattle.list_laws.proofs.Members.{In, in_from_Contains}
use Rattle.name_rules.specs.Shortest.{changed_names}
use Rattle.tree_nodes.specs.Tree.{Text}
use Rattle.worked_examples.proofs.premises.readable_names_are_longer.Goals as goal
use Rattle.worked_examples.specs.Asked.{readably}
use Rattle.worked_examples.specs.Blocks.{sibling_blocks}
use Rattle.worked_examples.specs.Open.{all_open}
use Rattle.worked_examples.specs.RivalRows.{sibling_blocks_readably}

pub returns-clause-new : goal.returns-clause-new
unfolding all_open
returns-clause-new c = record { rooted = (refl, (refl, (refl, (refl, tt)))); renamed = record { alike = refl; plain = refl; marked = refl }; names = refl }

-- all are called so
all_one : (x : Text) → In x (changed_names (readably sibling_blocks) sibling_blocks sibling_blocks_readably) → codes "slot_0" ≡ x
unfolding all_open
all_one x (inl e) = e
all_one x (inr (inl e)) = e
all_one x (inr (inr (inl e))) = e
all_one x (inr (inr (inr (inl e)))) = e
all_one x (inr (inr (inr (inr e)))) = absurd e

pub returns-clause-choice : goal.returns-clause-choice
unfolding all_open
returns-clause-choice c = record { one_to_one = λ x y i j e. sym (all_one x (in_from_Contains (changed_names (readably sibling_blocks) sibling_blocks sibling_blocks_readably) x i)) ∙ all_one y (in_from_Contains (changed_names (readably sibling_blocks) sibling_blocks sibling_blocks_readably) y j); free = λ x i. refl }
