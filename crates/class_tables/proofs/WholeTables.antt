-- What is read from a whole table of private names.
use Rattle.std.specs.Prelude.{◌≡◌, ℕ, Bool, List, length, slice_get, Option, Some, None, IfSome, option_map}
use Rattle.std.proofs.Common.{refl, sym, ap, ◌∙◌, subst}
use Rattle.name_rules.specs.PrivateNumbers.{closed_count, index_of}
use Rattle.scope_rules.specs.Bindings.{same_name}
use Rattle.scope_rules.specs.Faults.{is_undeclared}
use Rattle.scope_rules.specs.PrivateNames.{declaring_class, private_binding, private_names}
use Rattle.place_list.specs.Bounds.{IsBelow, IsKnown}
use Rattle.place_list.specs.TableViews.{classes_at, list_view, place_in, places_in}
use Rattle.place_list.specs.Tables.{list_at}
use Rattle.place_list.specs.declared.tables.ClassEntry.{ClassEntry}
use Rattle.place_list.specs.declared.tables.PlaceEntry.{PlaceEntry}
use Rattle.class_tables.specs.Answers.{binding_at, class_at, index_at, undeclared_at}
use Rattle.class_tables.specs.Counts.{count_around}
use Rattle.class_tables.specs.Outwards.{Falls, outer}
use Rattle.class_tables.specs.PrivateTables.{IsWhole, list_in}
use Rattle.class_tables.specs.declared.class_table.ClassTable.{ClassTable}
use Rattle.class_tables.specs.declared.private_table.PrivateTable.{PrivateTable}
use Rattle.class_tables.proofs.ListedPlaces.{bodies_fall, sights_agree}
use Rattle.class_tables.proofs.Seen.{binding_is, declaring_is, name_index_is, undeclared_is}

if_there : {X : Type 0} (o : Option X) (x : X) (F : X → Type 0) → o ≡ Some x → F x → IfSome o F
if_there o x F e f = subst (λ (p : Option _). IfSome p F) (sym e) f

module _ (t : PrivateTable) (whole : IsWhole t) where
  pub table_falls : (bs : List ClassEntry) → bs ≡ (list_in t).class_bodies.items → Falls (outer bs)
  table_falls bs e = subst (λ cs. Falls (outer cs)) (sym e) (bodies_fall (list_in t).class_bodies.items whole.bounded.class_bodies)

  pub count_told : (o : Option ℕ) → IsBelow (length (list_in t).class_bodies.items) o → count_around t.counts.items o ≡ closed_count (places_in (list_in t)) (classes_at (list_in t) o)
  unfolding count_around closed_count list_at
  count_told None h = refl
  count_told (Some k) h = whole.counts k h

  -- the slices that are passed on
  module _ (ts : List ClassTable) (bs : List ClassEntry) (same_tables : ts ≡ t.tables.items) (same_bodies : bs ≡ (list_in t).class_bodies.items)
      (i : ℕ) (e : PlaceEntry) (stands : slice_get (places_in (list_in t)) i ≡ Some (place_in (list_in t) e)) (known : IsKnown (list_view (list_in t)) e.setting) where
    pub binding_told : (b : Option ℕ) → b ≡ binding_at ts bs e → IfSome (slice_get (places_in (list_in t)) i) (λ p. b ≡ private_binding same_name (places_in (list_in t)) p)
    binding_told b f = if_there _ (place_in (list_in t) e) (λ p. b ≡ private_binding same_name (places_in (list_in t)) p) stands
        (f ∙ ap (λ us. binding_at us bs e) same_tables ∙ ap (λ cs. binding_at t.tables.items cs e) same_bodies
        ∙ binding_is t.tables.items (list_in t).class_bodies.items (places_in (list_in t)) whole.tables e (place_in (list_in t) e) (sights_agree (list_in t) whole.bounded e known))

    pub declaring_told : (b : Option ℕ) → b ≡ class_at ts bs e → IfSome (slice_get (places_in (list_in t)) i) (λ p. b ≡ declaring_class (places_in (list_in t)) p.name p.site.setting.classes)
    declaring_told b f = if_there _ (place_in (list_in t) e) (λ p. b ≡ declaring_class (places_in (list_in t)) p.name p.site.setting.classes) stands
        (f ∙ ap (λ us. class_at us bs e) same_tables ∙ ap (λ cs. class_at t.tables.items cs e) same_bodies
        ∙ declaring_is t.tables.items (list_in t).class_bodies.items (places_in (list_in t)) whole.tables e (place_in (list_in t) e) (sights_agree (list_in t) whole.bounded e known))

    pub index_told : (b : Option ℕ) → b ≡ index_at ts bs e → IfSome (slice_get (places_in (list_in t)) i) (λ p. b ≡ option_map (λ c. index_of p.name (private_names (places_in (list_in t)) c)) (declaring_class (places_in (list_in t)) p.name p.site.setting.classes))
    index_told b f = if_there _ (place_in (list_in t) e) (λ p. b ≡ option_map (λ c. index_of p.name (private_names (places_in (list_in t)) c)) (declaring_class (places_in (list_in t)) p.name p.site.setting.classes)) stands
        (f ∙ ap (λ us. index_at us bs e) same_tables ∙ ap (λ cs. index_at t.tables.items cs e) same_bodies
        ∙ name_index_is t.tables.items (list_in t).class_bodies.items (places_in (list_in t)) whole.tables e (place_in (list_in t) e) (sights_agree (list_in t) whole.bounded e known))

    pub undeclared_told : (b : Bool) → b ≡ undeclared_at ts bs e → IfSome (slice_get (places_in (list_in t)) i) (λ p. b ≡ is_undeclared same_name (places_in (list_in t)) p)
    undeclared_told b f = if_there _ (place_in (list_in t) e) (λ p. b ≡ is_undeclared same_name (places_in (list_in t)) p) stands
        (f ∙ ap (λ us. undeclared_at us bs e) same_tables ∙ ap (λ cs. undeclared_at t.tables.items cs e) same_bodies
        ∙ undeclared_is t.tables.items (list_in t).class_bodies.items (places_in (list_in t)) whole.tables e (place_in (list_in t) e) (sights_agree (list_in t) whole.bounded e known))
