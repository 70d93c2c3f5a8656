use Rattle.std.specs.Prelude.{◌≡◌, ℕ, List, Some, IfSome, slice_get}
use Rattle.std.proofs.Common.{ap, subst, sym, ◌∙◌}
use Rattle.place_list.specs.declared.tables.PlaceEntry.{PlaceEntry}
use Rattle.scope_rules.specs.Evals.{contains}
use Rattle.scope_tables.specs.Views.{nodes_of}
use Rattle.scope_tables.proofs.NodeIndex.{nodes_in}
use Rattle.scope_tables.proofs.tables.ScopeTables.index_of_node.Goals as goal
use Rattle.tree_places.specs.Laws.{RiseFrom}

pub index_of_node-requires : goal.index_of_node-requires
index_of_node-requires c = subst (λ (es : List PlaceEntry). RiseFrom 0 (nodes_of es)) (sym c.as_slice.ensures.value) c.requires.rising

pub returns : goal.returns
returns c =
    let same = ap (λ (es : List PlaceEntry). nodes_of es) c.as_slice.ensures.value ∙ sym (nodes_in c.args.self.now.list) in
    record {
      found = subst (λ (ns : List ℕ). IfSome c.index_of_node.result (λ i. slice_get ns i ≡ Some c.args.node)) same c.index_of_node.ensures.found;
      exactly = c.index_of_node.ensures.exactly ∙ ap (λ (ns : List ℕ). contains ns c.args.node) same;
    }
