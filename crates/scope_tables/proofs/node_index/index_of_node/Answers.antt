use Rattle.std.specs.Prelude.{◌≡◌, true, false, Some, slice_get}
use Rattle.std.proofs.Common.{rules, subst, sym}
use Rattle.std.proofs.lemmas.List.Sorted.{answers_always}
use Rattle.scope_rules.specs.Evals.{contains}
use Rattle.scope_tables.specs.Views.{nodes_of}
use Rattle.scope_tables.proofs.NodeIndex.{Finds, searched}
use Rattle.scope_tables.proofs.node_index.index_of_node.Goals as goal

pub returns-in-Ok : goal.returns-in-Ok
returns-in-Ok c =
    let es = c.args.places.now in
    let n = c.args.node in
    let at_key = c.binary_search_by_key.ensures.position (λ e. e.node) (answers_always _ _ _ (λ f a r g called. search rules)) in
    let w : (slice_get (nodes_of es) c.in-Ok.index ≡ Some n) × (contains (nodes_of es) n ≡ true) = subst (Finds es n) c.in-Ok.is (searched es n c.requires _ c.binary_search_by_key.ensures.bound at_key) in
    record { found = w.0; exactly = sym w.1 }

pub returns-in-Err : goal.returns-in-Err
returns-in-Err c =
    let es = c.args.places.now in
    let n = c.args.node in
    let at_key = c.binary_search_by_key.ensures.position (λ e. e.node) (answers_always _ _ _ (λ f a r g called. search rules)) in
    let w : contains (nodes_of es) n ≡ false = subst (Finds es n) c.in-Err.is (searched es n c.requires _ c.binary_search_by_key.ensures.bound at_key) in
    record { found = tt; exactly = sym w }
