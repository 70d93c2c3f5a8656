use Rattle.std.specs.Prelude.{◌<◌, ℕ, List, Option, length}
use Rattle.std.specs.List.{AllByRecursion}
use Rattle.std.proofs.Common.{ap, subst, sym, ◌∙◌}
use Rattle.std.proofs.lemmas.List.{length-map}
use Rattle.number_tables.specs.PlacedNumbers.{RiseFrom, number_at}
use Rattle.place_list.specs.TableViews.{places_in}
use Rattle.place_list.specs.declared.tables.PlaceEntry.{PlaceEntry}
use Rattle.tree_semantic.specs.ClassBodies.{class_of_place, nodes_of}
use Rattle.tree_semantic.proofs.ClassesTold.{by_node, places_many, rise_same}
use Rattle.tree_semantic.proofs.classes.classes_by_node.Goals as goal

pub above-count-requires : goal.above-count-requires
above-count-requires c = subst (λ (ns : List ℕ). RiseFrom 0 ns) (sym (c.as_slice-2.ensures.value ∙ c.in_ok-nodes.ensures ∙ ap nodes_of c.as_slice.ensures.value)) (rise_same 0 (nodes_of c.args.list.now.places.items) c.requires.rising)

pub place_numbers-requires-clause-below : goal.place_numbers-requires-clause-below
place_numbers-requires-clause-below c =
    subst (λ (ns : List ℕ). AllByRecursion (λ n. n < c.above-count.result) ns) (c.as_slice-2.ensures.value ∙ sym c.as_slice-3.ensures.value) c.above-count.ensures

pub place_numbers-requires-clause-rising : goal.place_numbers-requires-clause-rising
place_numbers-requires-clause-rising c = subst (λ (ns : List ℕ). RiseFrom 0 ns) (sym (c.as_slice-3.ensures.value ∙ c.in_ok-nodes.ensures ∙ ap nodes_of c.as_slice.ensures.value)) (rise_same 0 (nodes_of c.args.list.now.places.items) c.requires.rising)

pub place_numbers-requires-clause-same : goal.place_numbers-requires-clause-same
place_numbers-requires-clause-same c =
    ap length (c.as_slice-4.ensures.value ∙ c.in_ok-declaring.ensures) ∙ length-map (places_in c.args.list.now) (class_of_place (places_in c.args.list.now)) ∙ places_many c.args.list.now
    ∙ sym (ap length (c.as_slice-3.ensures.value ∙ c.in_ok-nodes.ensures ∙ ap nodes_of c.as_slice.ensures.value) ∙ length-map c.args.list.now.places.items (λ (e : PlaceEntry). e.node))

pub returns : goal.returns
returns c = λ n.
    let l = c.args.list.now in
    c.in_ok-row.ensures.numbers n
    ∙ ap (λ (ms : List ℕ). number_at n ms c.as_slice-4.result.now) (c.as_slice-3.ensures.value ∙ c.in_ok-nodes.ensures ∙ ap nodes_of c.as_slice.ensures.value)
    ∙ ap (λ (os : List (Option ℕ)). number_at n (nodes_of l.places.items) os) (c.as_slice-4.ensures.value ∙ c.in_ok-declaring.ensures)
    ∙ by_node l n
