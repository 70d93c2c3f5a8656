-- The analysis of a tree, as data.
use Rattle.std.specs.Prelude.{◌≡◌, ◌≤◌, ◌-◌, ◌^◌, IsFalse, length, map}
use Rattle.place_list.specs.Nodes.{nested_nodes, scope_nodes}
use Rattle.place_list.specs.TableViews.{withs_in}
use Rattle.scope_rules.specs.Bindings.{same_name}
use Rattle.scope_rules.specs.Faults.{has_fault}
use Rattle.tree_nodes.specs.Tree.{Parts}
use Rattle.tree_places.specs.Places as spec
use Rattle.tree_semantic.specs.ClassBodies.{AreClassesOf, parents_in}
use Rattle.tree_semantic.specs.ClassesAround.{outer_classes}
use Rattle.tree_semantic.specs.Nodes.{nodes_in, told}
use Rattle.tree_semantic.specs.declared.classes.Classes.{Classes}
use Rattle.tree_semantic.specs.declared.nodes.AstNodes.{AstNodes}
use Rattle.tree_semantic.specs.declared.semantic.Semantic.{Semantic}
use Rattle.tree_symbols.specs.Scopings.{IsScoping, places_of, scope_nodes_of, scopes_of, tables_of}
use Rattle.tree_symbols.specs.declared.scoping.Scoping.{Scoping}

abbrev pub scoping_of : Semantic → Scoping
scoping_of s = s.scoping

abbrev pub nodes_of : Semantic → AstNodes
nodes_of s = s.nodes

abbrev pub classes_of : Semantic → Classes
classes_of s = s.classes

-- it is that of this tree, whose scopes have no fault, whatever names were set
pub record IsSemanticOf (t : Parts) (s : Semantic) : Type 0 where
  pub scoping : IsScoping s.scoping
  pub few_nodes : length (nodes_in s.nodes) ≤ 2 ^ 32 - 1
  pub places : places_of s.scoping ≡ spec.places t
  pub scopes : scopes_of s.scoping ≡ spec.scopes t
  pub scope_nodes : scope_nodes_of s.scoping ≡ scope_nodes t
  pub withs : withs_in (tables_of s.scoping).list ≡ spec.withs t
  pub class_bodies : length (tables_of s.scoping).list.class_bodies.items ≡ (spec.seen t).classes
  pub nodes : nodes_in s.nodes ≡ map told (nested_nodes t)
  pub classes : AreClassesOf (spec.places t) (spec.seen t).classes s.classes
  pub class_parents : parents_in s.classes ≡ outer_classes t
  pub faultless : IsFalse (has_fault same_name (spec.places t))

-- so it is for some tree
pub record IsSemantic (s : Semantic) : Type 0 where
  pub tree : Parts
  pub of_tree : IsSemanticOf tree s
