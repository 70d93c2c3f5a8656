use Rattle.std.specs.Prelude.{◌≡◌, map, string_bytes, take}
use Rattle.std.specs.List.{AllByRecursion}
use Rattle.place_list.specs.TableViews.{places_in}
use Rattle.tree_apply.specs.Applied.{HasFewBytes, new_of, numbered, taken}
use Rattle.tree_nodes.specs.Tree.{Parts}
use Rattle.tree_places.specs.Places.{places}
use Rattle.tree_semantic.specs.Renamed.{new_name}
use Rattle.tree_semantic.specs.Semantics.{IsSemanticOf, scoping_of}
use Rattle.tree_symbols.specs.Scopings.{name_set}
use Rattle.tree_apply.proofs.given.find_given.Given as goal

abbrev pub invariant-loop-i : goal.invariant-loop-i
invariant-loop-i l = record {
  choices : (t : Parts) → places_in l.list ≡ places t → IsSemanticOf t l.semantic → l.given.choices.items ≡ numbered 0 (map (new_of (places t) (name_set (scoping_of l.semantic)) (new_name l.mappings)) (take l.i (places t)));
  names : (t : Parts) → places_in l.list ≡ places t → IsSemanticOf t l.semantic → map string_bytes l.given.names.items ≡ taken (map (new_of (places t) (name_set (scoping_of l.semantic)) (new_name l.mappings)) (take l.i (places t)));
  short : AllByRecursion (λ s. HasFewBytes (string_bytes s)) l.given.names.items;
}
