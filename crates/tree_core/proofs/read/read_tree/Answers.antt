use Rattle.std.proofs.Common.{◌≡◌, sym, ◌∙◌, arith}
use Rattle.std.proofs.lemmas.Result.{err_from_is_err_and}
use Rattle.serde_json.specs.View.{view}
use Rattle.tree_core.specs.JsonOf.{json_of}
use Rattle.tree_core.specs.declared.read.ReadError.TheVariants.{BadTree}
use Rattle.tree_core.proofs.ListWidths.{lists_are_narrow}
use Rattle.tree_core.proofs.NodeCounts.{few_nodes}
use Rattle.tree_core.proofs.ReadsBack.{reading_undoes_printing}
use Rattle.tree_core.proofs.ReadTrees.{says_bad, tree_of-placed, tree_of-misplaced, tree_of-shapeless}
use Rattle.tree_core.proofs.TextLengths.{texts_are_short}
use Rattle.tree_core.proofs.read.read_tree.Goals as goal

pub returns-in_err-root-clause-bad_tree : goal.returns-in_err-root-clause-bad_tree
returns-in_err-root-clause-bad_tree c =
    let p = err_from_is_err_and c.from_residual.result c.from_residual.ensures.1 in
    λ h. tree_of-shapeless (json_of (view c.args.value.now)) (says_bad p.0 (rw p.2 c.in_err-root.ensures.err) (let same : p.0 ≡ BadTree = cc in same))

pub returns-then-not-is_placed-clause-bad_tree : goal.returns-then-not-is_placed-clause-bad_tree
returns-then-not-is_placed-clause-bad_tree c =
    λ h. tree_of-misplaced (json_of (view c.args.value.now)) c.in_ok-root.root c.in_ok-root.ensures.ok (sym c.is_placed.ensures ∙ c.if-not-is_placed.true)

pub from_root-requires : goal.from_root-requires
from_root-requires c =
    let read = tree_of-placed (json_of (view c.args.value.now)) c.in_ok-root.root c.in_ok-root.ensures.ok (sym c.is_placed.ensures ∙ c.if-not-is_placed.false) in
    let few = few_nodes (view c.args.value.now) c.in_ok-root.root c.args.more (sym c.is_too_large.ensures ∙ c.if-is_too_large.false) read in
    let narrow = lists_are_narrow (view c.args.value.now) c.in_ok-root.root c.args.more (sym c.is_too_large.ensures ∙ c.if-is_too_large.false) read in
    let short = texts_are_short c.args.value.now c.in_ok-root.root c.args.more (sym c.is_too_large.ensures ∙ c.if-is_too_large.false) read in
    (reading_undoes_printing (json_of (view c.args.value.now)) c.in_ok-root.root read, omega arith, narrow, short)

pub returns-clause-ok : goal.returns-clause-ok
returns-clause-ok c =
    rw c.from_root.ensures
    (tree_of-placed (json_of (view c.args.value.now)) c.in_ok-root.root c.in_ok-root.ensures.ok (sym c.is_placed.ensures ∙ c.if-not-is_placed.false))

pub returns-clause-few : goal.returns-clause-few
returns-clause-few c =
    rw c.from_root.ensures
    (few_nodes (view c.args.value.now) c.in_ok-root.root c.args.more (sym c.is_too_large.ensures ∙ c.if-is_too_large.false)
    (tree_of-placed (json_of (view c.args.value.now)) c.in_ok-root.root c.in_ok-root.ensures.ok (sym c.is_placed.ensures ∙ c.if-not-is_placed.false)))
