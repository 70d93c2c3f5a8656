-- An analysis under other names of symbols.
use Rattle.std.specs.Prelude.{◌≡◌, length}
use Rattle.std.proofs.Common.{ap, ◌∙◌}
use Rattle.place_list.specs.TableViews.{withs_in}
use Rattle.tree_nodes.specs.Tree.{Parts}
use Rattle.tree_semantic.specs.Semantics.{IsSemantic, IsSemanticOf}
use Rattle.tree_semantic.specs.declared.semantic.Semantic.{Semantic}
use Rattle.tree_symbols.specs.Scopings.{IsScoping, places_of, scope_nodes_of, scopes_of, tables_of, under_names}
use Rattle.tree_symbols.specs.declared.scoping.Scoping.{Scoping}

module _ (s : Semantic) (x : Scoping) (ok : IsScoping x) (same : x ≡ under_names s.scoping x.names) where
  pub names_only : (t : Parts) → IsSemanticOf t s → IsSemanticOf t (record s { scoping = x })
  names_only t a = record {
    scoping = ok;
    few_nodes = a.few_nodes;
    places = ap places_of same ∙ a.places;
    scopes = ap scopes_of same ∙ a.scopes;
    scope_nodes = ap scope_nodes_of same ∙ a.scope_nodes;
    withs = ap (λ (y : Scoping). withs_in (tables_of y).list) same ∙ a.withs;
    class_bodies = ap (λ (y : Scoping). length (tables_of y).list.class_bodies.items) same ∙ a.class_bodies;
    nodes = a.nodes;
    classes = a.classes;
    class_parents = a.class_parents;
    faultless = a.faultless;
  }

  pub still_semantic : IsSemantic s → IsSemantic (record s { scoping = x })
  still_semantic a = record { tree = a.tree; of_tree = names_only a.tree a.of_tree }
