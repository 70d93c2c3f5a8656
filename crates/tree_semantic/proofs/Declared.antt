-- A private name has a class exactly where it has a binding, and in a tree without faults each has one.
use Rattle.std.specs.Prelude.{◌≡◌, ℕ, Bool, true, false, not, ◌&&◌, ◌||◌, List, Option, Some, None, find, is_some, nat_eq, option_map, if◌then◌else◌}
use Rattle.std.proofs.Common.{refl, sym, ap, ◌∙◌}
use Rattle.std.proofs.lemmas.Bool.{both_ways, or_left, or_right}
use Rattle.list_laws.proofs.AnyOf.{any_from}
use Rattle.list_laws.proofs.FirstOf.{find_first}
use Rattle.list_laws.proofs.Members.{In}
use Rattle.list_laws.proofs.Tests.{tested}
use Rattle.class_tables.proofs.Seen.{binder_is, class_is}
use Rattle.class_tables.specs.Outwards.{nearest}
use Rattle.class_tables.specs.PrivateTables.{IsWhole, list_in}
use Rattle.class_tables.specs.Tables.{AreTablesOf, found_in}
use Rattle.class_tables.specs.declared.class_table.ClassTable.{ClassTable}
use Rattle.class_tables.specs.declared.private_table.PrivateTable.{PrivateTable}
use Rattle.place_list.specs.TableViews.{places_in}
use Rattle.place_list.specs.declared.tables.PlaceList.{PlaceList}
use Rattle.scope_rules.specs.Bindings.{bound, node, same_name}
use Rattle.scope_rules.specs.Faults.{has_crossing, has_fault, has_reach, has_redeclaration, has_sloppy_function, has_undeclared, is_undeclared}
use Rattle.scope_rules.specs.PrivateNames.{declaring_class, private_binder, private_binding}
use Rattle.tree_nodes.specs.Tree.{Text}
use Rattle.tree_places.specs.Places.{Place}
use Rattle.tree_semantic.specs.ClassBodies.{class_of_place, is_private_node, node_class}

pub some_mapped : {X Y : Type 0} (f : X → Y) (o : Option X) → is_some (option_map f o) ≡ is_some o
some_mapped f None = refl
some_mapped f (Some x) = refl

-- by the tables of some places both are told
class_bound : (ts : List ClassTable) (ps : List Place) → AreTablesOf ts ps → (x : Text) (cs : List ℕ) → is_some (declaring_class ps x cs) ≡ is_some (private_binder same_name ps x cs)
class_bound ts ps held x cs =
    ap (λ (o : Option ℕ). is_some o) (sym (class_is ts ps held x cs))
    ∙ some_mapped _ (nearest (found_in ts x) cs)
    ∙ sym (some_mapped _ (nearest (found_in ts x) cs))
    ∙ ap (λ (o : Option ℕ). is_some o) (binder_is ts ps held x cs)

place_bound : (ts : List ClassTable) (ps : List Place) → AreTablesOf ts ps → (p : Place) → is_some (class_of_place ps p) ≡ is_some (private_binding same_name ps p)
unfolding class_of_place private_binding
place_bound ts ps held p = go p.site.private
  where
    go : (b : Bool) → is_some (if b then declaring_class ps p.name p.site.setting.classes else None) ≡ is_some (if b then private_binder same_name ps p.name p.site.setting.classes else None)
    go true = class_bound ts ps held p.name p.site.setting.classes
    go false = refl

pub all_bound : (t : PrivateTable) (l : PlaceList) → IsWhole t → list_in t ≡ l → (p : Place) → is_some (class_of_place (places_in l) p) ≡ is_some (private_binding same_name (places_in l) p)
all_bound t l whole same p =
    ap (λ (q : PlaceList). is_some (class_of_place (places_in q) p)) (sym same) ∙ place_bound t.tables.items (places_in (list_in t)) whole.tables p
    ∙ ap (λ (q : PlaceList). is_some (private_binding same_name (places_in q) p)) same

-- ---- in a tree without faults

nothing_undeclared : (ps : List Place) → has_fault same_name ps ≡ false → has_undeclared same_name ps ≡ false
unfolding has_fault
nothing_undeclared ps sound =
    tested (has_undeclared same_name ps)
    (λ u. absurd (both_ways _ sound (or_left _ (has_reach (bound same_name ps)) (or_right (has_redeclaration same_name ps || has_crossing same_name ps || has_sloppy_function ps) _ u))))
    (λ e. e)

module _ (ps : List Place) (sound : has_fault same_name ps ≡ false) (joined : (p : Place) → is_some (class_of_place ps p) ≡ is_some (private_binding same_name ps p)) where
  has_class : (p : Place) → In p ps → is_some (class_of_place ps p) ≡ p.site.private
  unfolding private_binding is_undeclared has_undeclared
  has_class p i = joined p ∙ go p.site.private (private_binder same_name ps p.name p.site.setting.classes) declared
    where
      declared : is_undeclared same_name ps p ≡ false
      declared = tested (is_undeclared same_name ps p) (λ u. absurd (both_ways _ (nothing_undeclared ps sound) (any_from (is_undeclared same_name ps) ps p i u))) (λ e. e)

      go : (b : Bool) (o : Option ℕ) → (b && not (is_some (if b then o else None))) ≡ false → is_some (if b then o else None) ≡ b
      go false o e = refl
      go true None e = absurd (both_ways _ e refl)
      go true (Some n) e = refl

  pub class_exactly : (n : ℕ) → is_some (node_class ps n) ≡ is_private_node ps n
  unfolding node_class is_private_node
  class_exactly n = go (find (λ (p : Place). nat_eq (node p) n) ps) refl
    where
      go : (o : Option Place) → find (λ (p : Place). nat_eq (node p) n) ps ≡ o
          → is_some (elim o as (λ _. Option ℕ) [ None ↦ None | Some p ↦ class_of_place ps p ]) ≡ elim o as (λ _. Bool) [ None ↦ false | Some p ↦ p.site.private ]
      go None e = refl
      go (Some p) e = has_class p (find_first (λ (q : Place). nat_eq (node q) n) ps p e).among
