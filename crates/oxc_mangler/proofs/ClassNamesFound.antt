-- The names that are looked up by class are the new private names of a tree.
use Rattle.std.specs.Prelude.{◌≡◌, ◌⊎◌, ◌≤◌, ℕ, ◌+◌, Bool, true, false, cond, nat_lt, List, [], ◌∷◌, length, map, Option, Some, None, option_map}
use Rattle.std.specs.BTreeMap.{BTreeMap}
use Rattle.std.specs.Borrow.{Bor}
use Rattle.std.specs.List.{Contains}
use Rattle.std.proofs.Common.{refl, sym, ap, ◌∙◌, subst, arith, inl, inr, lt-ltb}
use Rattle.std.proofs.lemmas.Bool.{or_cases}
use Rattle.std.proofs.lemmas.List.{get_or_past, length-map}
use Rattle.class_tables.proofs.ListedPlaces.{class_below}
use Rattle.list_laws.proofs.AllOf.{of_each}
use Rattle.list_laws.proofs.Members.{In, from_map, in_from_Contains, in_map}
use Rattle.list_laws.proofs.Tests.{none_some, some_one}
use Rattle.name_rules.proofs.Identifiers.{short_names_are_identifiers}
use Rattle.name_rules.specs.PrivateNumbers.{index_of, private_number}
use Rattle.name_rules.specs.ShortNames.{short}
use Rattle.oxc_mangler.proofs.LookedUp.{from_looked_up, listed, unlisted}
use Rattle.oxc_mangler.specs.ClassNames.{AreClassNames, looked_up, new_class_name}
use Rattle.place_list.specs.Bounds.{IsBounded, IsKnown}
use Rattle.place_list.specs.TableViews.{entry_view, list_view, lists_in, places_in}
use Rattle.place_list.specs.Tables.{Entry, place_of, setting_of, site_of}
use Rattle.place_list.specs.declared.tables.PlaceEntry.{PlaceEntry}
use Rattle.place_list.specs.declared.tables.PlaceList.{PlaceList}
use Rattle.private_numbers.proofs.Declared.{Follow, declared_number, number_is}
use Rattle.private_numbers.proofs.Outward.{classes_follow, from_class}
use Rattle.private_numbers.specs.Numbers.{class_number, classes_around}
use Rattle.scope_rules.specs.PrivateNames.{declaring_class, is_among, private_names}
use Rattle.syntax_lex.specs.Identifier.{is_identifier_name}
use Rattle.tree_nodes.specs.Tree.{Text}
use Rattle.tree_places.proofs.Outwards.{same_scope_eq}
use Rattle.tree_places.specs.Places.{Place}
use Rattle.tree_places.specs.Scopes.{is_inside, same_scope}
use Rattle.tree_semantic.specs.Renamed.{class_count, name_in, new_name}
use Rattle.tree_semantic.specs.declared.private_names.PrivateNames.{PrivateNames}

-- no class past the last has a name
pub none_past : (m : PrivateNames) (k : ℕ) (x : Text) → class_count m ≤ k → new_name m k x ≡ None
none_past m k x h =
    let many : length (map (λ (n : BTreeMap (Bor Text) Text). name_in n x) m.classes.items) ≡ length m.classes.items = length-map m.classes.items (λ (n : BTreeMap (Bor Text) Text). name_in n x) in
    get_or_past (map (λ (n : BTreeMap (Bor Text) Text). name_in n x) m.classes.items) k None (omega (arith, h, many))

-- the names of a class
abbrev pub names_of : PlaceList → ℕ → Text → Option Text
names_of l c x = looked_up (private_names (places_in l) c) (new_class_name l c) 0 x

-- ---- the class bodies around a place

follow_inside : (from : ℕ → List ℕ) (n : ℕ) (cs : List ℕ) (c : ℕ) (outer : List ℕ) → Follow from n cs → is_inside cs (c ∷ outer) ≡ true → Follow from n (c ∷ outer)
unfolding is_inside
follow_inside from n [] c outer f h = subst (Follow from n) (same_scope_eq [] (c ∷ outer) h) f
follow_inside from n (d ∷ ds) c outer f h = go (or_cases _ _ h) (follow_inside from n ds c outer f.2)
  where
    go : (same_scope (d ∷ ds) (c ∷ outer) ≡ true) ⊎ (is_inside ds (c ∷ outer) ≡ true) → (is_inside ds (c ∷ outer) ≡ true → Follow from n (c ∷ outer)) → Follow from n (c ∷ outer)
    go (inl e) ih = subst (Follow from n) (same_scope_eq (d ∷ ds) (c ∷ outer) e) f
    go (inr e) ih = ih e

module _ (l : PlaceList) (bounded : IsBounded (list_view l)) where
  -- those around a place follow each other
  follow_place : (p : Place) → Contains (places_in l) p → Follow (from_class l bounded) (length l.class_bodies.items) p.site.setting.classes
  unfolding place_of site_of setting_of
  follow_place p i =
      let a : (v : Entry) × In v (map entry_view l.places.items) × (place_of (lists_in l) v ≡ p) = from_map (place_of (lists_in l)) (map entry_view l.places.items) p (in_from_Contains (places_in l) p i) in
      let b : (e : PlaceEntry) × In e l.places.items × (entry_view e ≡ a.0) = from_map entry_view l.places.items a.0 a.1 in
      let known : IsKnown (list_view l) b.0.setting = of_each (λ (v : Entry). IsKnown (list_view l) v.setting) (map entry_view l.places.items) (entry_view b.0) bounded.places (in_map entry_view l.places.items b.0 b.1) in
      subst (λ (q : Place). Follow (from_class l bounded) (length l.class_bodies.items) q.site.setting.classes) (ap (place_of (lists_in l)) b.2 ∙ a.2)
      (classes_follow l bounded b.0.setting.class_body (class_below l bounded b.0 known))

  -- the number of a name that a class declares
  number_told : (c : ℕ) (outer : List ℕ) (x : Text) → Follow (from_class l bounded) (length l.class_bodies.items) (c ∷ outer) → is_among (private_names (places_in l) c) x ≡ true
      → private_number (places_in l) x (c ∷ outer) ≡ class_number (places_in l) (classes_around l c) c (index_of x (private_names (places_in l) c))
  unfolding declaring_class
  number_told c outer x follow among =
      number_is (places_in l) (from_class l bounded) (length l.class_bodies.items) x (c ∷ outer) follow
      ∙ ap (λ (b : Bool). declared_number (places_in l) (from_class l bounded) (length l.class_bodies.items) x (cond b (Some c) (declaring_class (places_in l) x outer))) among

  module _ (m : PrivateNames) (names : (k : ℕ) (x : Text) → new_name m k x ≡ cond (nat_lt k (length l.class_bodies.items)) (names_of l k x) None) where
    none_else : (c : ℕ) (x : Text) → is_among (private_names (places_in l) c) x ≡ false → (b : Bool) → cond b (names_of l c x) None ≡ None
    none_else c x none true = unlisted (new_class_name l c) (private_names (places_in l) c) 0 x none
    none_else c x none false = refl

    declares : (p : Place) → Contains (places_in l) p → (c : ℕ) (outer : List ℕ) → is_inside p.site.setting.classes (c ∷ outer) ≡ true → (x : Text) → is_among (private_names (places_in l) c) x ≡ true
        → new_name m c x ≡ option_map short (private_number (places_in l) x (c ∷ outer))
    unfolding new_class_name
    declares p i c outer inside x among =
        let follow : Follow (from_class l bounded) (length l.class_bodies.items) (c ∷ outer) = follow_inside (from_class l bounded) (length l.class_bodies.items) p.site.setting.classes c outer (follow_place p i) inside in
        names c x
        ∙ ap (λ (b : Bool). cond b (names_of l c x) None) (lt-ltb c (length l.class_bodies.items) follow.0)
        ∙ listed (new_class_name l c) (private_names (places_in l) c) 0 x among
        ∙ ap (new_class_name l c) (let z : 0 + index_of x (private_names (places_in l) c) ≡ index_of x (private_names (places_in l) c) = omega arith in z)
        ∙ ap (option_map short) (sym (number_told c outer x follow among))

    of_number : (n : Option ℕ) (y : Text) → option_map short n ≡ Some y → is_identifier_name y ≡ true
    of_number None y e = absurd (none_some y e)
    of_number (Some k) y e = ap is_identifier_name (sym (some_one (short k) y e)) ∙ short_names_are_identifiers k

    identifier : (c : ℕ) (x y : Text) (b : Bool) → cond b (names_of l c x) None ≡ Some y → is_identifier_name y ≡ true
    unfolding new_class_name
    identifier c x y true e = let i = from_looked_up (new_class_name l c) (private_names (places_in l) c) 0 x y e in of_number (class_number (places_in l) (classes_around l c) c i.0) y i.1
    identifier c x y false e = absurd (none_some y e)

    pub names_found : class_count m ≡ length l.class_bodies.items → AreClassNames (places_in l) (length l.class_bodies.items) m
    names_found count = record {
      count = count;
      declared = declares;
      no_others = λ c x none. names c x ∙ none_else c x none (nat_lt c (length l.class_bodies.items));
      identifiers = λ c x y e. identifier c x y (nat_lt c (length l.class_bodies.items)) (sym (names c x) ∙ e);
    }
