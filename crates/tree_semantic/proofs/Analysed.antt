-- What is built of a program is its analysis.
use Rattle.std.specs.Prelude.{◌≡◌, ◌≤◌, ◌-◌, ◌^◌, ℕ, Bool, true, IsFalse, List, Result, IfErr, length, map}
use Rattle.std.specs.List.{AllByRecursion}
use Rattle.std.specs.Result.{IsErrAnd}
use Rattle.std.proofs.Common.{ap, subst, sym, ◌∙◌, Vec, Global}
use Rattle.std.proofs.lemmas.Result.{err_from_is_err_and}
use Rattle.place_list.specs.Nodes.{nested_nodes, scope_nodes}
use Rattle.place_list.specs.TableViews.{nested_nodes_in, places_in, scope_nodes_in, scopes_in, withs_in}
use Rattle.place_list.specs.declared.tables.NodeEntry.{NodeEntry}
use Rattle.place_list.specs.declared.tables.PlaceList.{PlaceList}
use Rattle.scope_rules.specs.Bindings.{same_name}
use Rattle.scope_rules.specs.Faults.{has_fault}
use Rattle.scope_tables.specs.declared.tables.ScopeTables.{ScopeTables}
use Rattle.tree_core.proofs.ReadsBack.{shape_read}
use Rattle.tree_core.specs.Program.{IsProgram}
use Rattle.tree_core.specs.Values.{value_of}
use Rattle.tree_nodes.specs.Standing.{is_placed}
use Rattle.tree_nodes.specs.Tree.{Parts, Tree, alone}
use Rattle.tree_places.specs.Places.{Place, places, scopes, seen, withs}
use Rattle.tree_semantic.proofs.BodiesFound.{Told, bodies_told, places_lead}
use Rattle.tree_semantic.specs.ClassBodies.{AreClassesOf, LeadOutwards, parents_in}
use Rattle.tree_semantic.specs.ClassesAround.{outer_classes, parents_told}
use Rattle.tree_semantic.specs.Nodes.{NodeTold, nodes_in, told}
use Rattle.tree_semantic.specs.Semantics.{IsSemanticOf}
use Rattle.tree_semantic.specs.declared.builder.SemanticError.{SemanticError}
use Rattle.tree_semantic.specs.declared.builder.SemanticError.TheVariants.{BadScope, Memory}
use Rattle.tree_semantic.specs.declared.nodes.AstNodes.{AstNodes}
use Rattle.tree_semantic.specs.declared.semantic.Semantic.{Semantic}
use Rattle.tree_symbols.specs.Scopings.{IsScoping, tables_of}

-- the list of a tree, whole and without its nodes
pub record IsListOf (t : Parts) (whole l : PlaceList) : Type 0 where
  pub places : places_in l ≡ places t
  pub scopes : scopes_in l ≡ scopes t
  pub scope_nodes : scope_nodes_in l ≡ scope_nodes t
  pub withs : withs_in l ≡ withs t
  pub nested_nodes : nested_nodes_in whole ≡ nested_nodes t
  pub class_bodies : length l.class_bodies.items ≡ (seen t).classes

pub list_of : (t : Parts) (whole : PlaceList) (nodes : Vec NodeEntry Global) → places_in whole ≡ places t → scopes_in whole ≡ scopes t → scope_nodes_in whole ≡ scope_nodes t → withs_in whole ≡ withs t
    → nested_nodes_in whole ≡ nested_nodes t → length whole.class_bodies.items ≡ (seen t).classes → IsListOf t whole (record whole { node_entries = nodes })
list_of t whole nodes ps ss ns ws ms cs = record { places = ps; scopes = ss; scope_nodes = ns; withs = ws; nested_nodes = ms; class_bodies = cs }

module _ (t : Parts) (whole l : PlaceList) (listed : IsListOf t whole l) (m : ScopeTables) (same : m.list ≡ l) where
  places_same : places_in m.list ≡ places t
  places_same = ap places_in same ∙ listed.places

  -- whether it has a fault
  pub fault_told : (b c : Bool) → b ≡ has_fault same_name (places_in m.list) → b ≡ c → has_fault same_name (places t) ≡ c
  fault_told b c is test = sym (is ∙ ap (has_fault same_name) places_same) ∙ test

  pub analysed : (s : Semantic) → parents_in s.classes ≡ outer_classes t → IsScoping s.scoping → tables_of s.scoping ≡ m → AreClassesOf (places_in m.list) (length m.list.class_bodies.items) s.classes
      → nodes_in s.nodes ≡ map told (nested_nodes_in whole) → length (nodes_in s.nodes) ≤ 2 ^ 32 - 1 → IsFalse (has_fault same_name (places t)) → IsSemanticOf t s
  analysed s parents scoping kept classes nodes few faultless =
      let list : (tables_of s.scoping).list ≡ l = ap (λ (n : ScopeTables). n.list) kept ∙ same in
      record {
        scoping = scoping;
        few_nodes = few;
        places = ap places_in list ∙ listed.places;
        scopes = ap scopes_in list ∙ listed.scopes;
        scope_nodes = ap scope_nodes_in list ∙ listed.scope_nodes;
        withs = ap withs_in list ∙ listed.withs;
        class_bodies = ap (λ (q : PlaceList). length q.class_bodies.items) list ∙ listed.class_bodies;
        nodes = nodes ∙ ap (map told) listed.nested_nodes;
        classes = subst (λ (n : ℕ). AreClassesOf (places t) n s.classes) (ap (λ (q : PlaceList). length q.class_bodies.items) same ∙ listed.class_bodies)
            (subst (λ (ps : List Place). AreClassesOf ps (length m.list.class_bodies.items) s.classes) places_same classes);
        class_parents = parents;
        faultless = faultless;
      }

-- in a program each node stands where it may
program_placed : (t : Tree) → IsProgram t → is_placed t ≡ true
program_placed t p = (shape_read (value_of t) t p.0).1

-- of its nodes
module _ (t : Tree) (program : IsProgram t) (whole l : PlaceList) (listed : IsListOf (alone t) whole l) (m : ScopeTables) (same : m.list ≡ l) (a : AstNodes) (nodes : nodes_in a ≡ map told (nested_nodes_in whole)) where
  all_nodes : nodes_in a ≡ map told (nested_nodes (alone t))
  all_nodes = nodes ∙ ap (map told) listed.nested_nodes

  bodies : Told t
  bodies = bodies_told t (program_placed t program)

  pub parents_same : parents_told (nodes_in a) ≡ outer_classes (alone t)
  parents_same = ap parents_told all_nodes ∙ bodies.parents

  pub bodies_counted : length (parents_told (nodes_in a)) ≡ length m.list.class_bodies.items
  bodies_counted =
      ap (λ (ns : List NodeTold). length (parents_told ns)) all_nodes ∙ bodies.count ∙ sym (ap (λ (q : PlaceList). length q.class_bodies.items) same ∙ listed.class_bodies)

  pub places_outwards : AllByRecursion (λ p. LeadOutwards (parents_told (nodes_in a)) p.site.setting.classes) (places_in m.list)
  places_outwards =
      subst (λ (ns : List NodeTold). AllByRecursion (λ (p : Place). LeadOutwards (parents_told ns) p.site.setting.classes) (places_in m.list)) (sym all_nodes)
      (subst (λ (ps : List Place). AllByRecursion (λ (p : Place). LeadOutwards (parents_told (map told (nested_nodes (alone t)))) p.site.setting.classes) ps) (sym (places_same (alone t) whole l listed m same)) (places_lead t bodies))

apart : Memory ≡ BadScope → ⊥
apart e = cc

-- what is refused for want of memory is not refused for a fault
pub memory_alone : {T : Type 0} (r : Result T SemanticError) (P : Type 0) → IsErrAnd r (λ e. e ≡ Memory) → IfErr r (λ e. e ≡ BadScope → P)
memory_alone {T} r P h =
    let p = err_from_is_err_and r h in
    subst (λ (q : Result T SemanticError). IfErr q (λ e. e ≡ BadScope → P)) (sym p.1) (λ e. absurd (apart (sym p.2 ∙ e)))
