-- The number of a place is that of the name in the class body that declares it.
use Rattle.std.specs.Prelude.{◌≡◌, ◌<◌, ℕ, Bool, true, false, List, length, Option, Some, None, IfSome, IsTrue, option_map, if◌then◌else◌}
use Rattle.std.proofs.Common.{refl, sym, ap, ◌∙◌, subst}
use Rattle.list_laws.proofs.Tests.{none_some, some_one}
use Rattle.class_tables.proofs.ListedPlaces.{class_below}
use Rattle.name_rules.specs.PrivateNumbers.{index_of, new_private_name, private_number}
use Rattle.name_rules.specs.ShortNames.{short}
use Rattle.place_list.specs.Bounds.{IsBounded, IsKnown}
use Rattle.place_list.specs.TableViews.{classes_at, list_view, place_in, places_in}
use Rattle.place_list.specs.Tables.{place_of, setting_of, site_of}
use Rattle.place_list.specs.declared.tables.PlaceEntry.{PlaceEntry}
use Rattle.place_list.specs.declared.tables.PlaceList.{PlaceList}
use Rattle.scope_rules.specs.PrivateNames.{declaring_class, private_names}
use Rattle.tree_places.specs.Places.{Place}
use Rattle.private_numbers.specs.NewNames.{changed_name, name_or}
use Rattle.name_rules.specs.ChosenNames.{place_number}
use Rattle.private_numbers.specs.Numbers.{class_number, classes_around}
use Rattle.private_numbers.proofs.Declared.{Follow, declared_below, declared_number, number_is}
use Rattle.private_numbers.proofs.Outward.{classes_follow, from_class}

-- of what stands there
pub if_there : (o : Option Place) (p : Place) (F : Place → Type 0) → o ≡ Some p → F p → IfSome o F
if_there o p F e f = subst (λ (q : Option Place). IfSome q F) (sym e) f

pub what_is_there : (o : Option Place) (p : Place) (F : Place → Type 0) → o ≡ Some p → IfSome o F → F p
what_is_there o p F e f = subst (λ (q : Option Place). IfSome q F) e f

pub if_some : (o : Option Place) (F G : Place → Type 0) → ((p : Place) → F p → G p) → IfSome o F → IfSome o G
if_some None F G f h = tt
if_some (Some p) F G f h = f p h

module _ (l : PlaceList) (bounded : IsBounded (list_view l)) (e : PlaceEntry) (known : IsKnown (list_view l) e.setting) where
  abbrev ps : List Place
  ps = places_in l

  follow : Follow (from_class l bounded) (length l.class_bodies.items) (classes_at l e.setting.class_body)
  follow = classes_follow l bounded e.setting.class_body (class_below l bounded e known)

  pub not_private : e.private ≡ false → None ≡ place_number (places_in l) (place_in l e)
  unfolding place_number place_of site_of setting_of
  not_private f = sym (ap (λ (b : Bool). if◌then◌else◌ {A = Option ℕ} b (private_number (places_in l) e.name.now (classes_at l e.setting.class_body)) None) f)

  found : e.private ≡ true → place_number (places_in l) (place_in l e)
      ≡ declared_number (places_in l) (from_class l bounded) (length l.class_bodies.items) e.name.now (declaring_class (places_in l) e.name.now (classes_at l e.setting.class_body))
  unfolding place_number place_of site_of setting_of
  found t =
      ap (λ (b : Bool). if◌then◌else◌ {A = Option ℕ} b (private_number (places_in l) e.name.now (classes_at l e.setting.class_body)) None) t
      ∙ number_is (places_in l) (from_class l bounded) (length l.class_bodies.items) e.name.now (classes_at l e.setting.class_body) follow

  pub not_declared : e.private ≡ true → None ≡ declaring_class (places_in l) (place_in l e).name (place_in l e).site.setting.classes → None ≡ place_number (places_in l) (place_in l e)
  unfolding place_of site_of setting_of
  not_declared t none = sym (found t ∙ ap (declared_number (places_in l) (from_class l bounded) (length l.class_bodies.items) e.name.now) (sym none))

  module _ (c : ℕ) (declares : Some c ≡ declaring_class (places_in l) (place_in l e).name (place_in l e).site.setting.classes) where
    pub declares_below : c < length l.class_bodies.items
    unfolding place_of site_of setting_of
    declares_below = declared_below (places_in l) (from_class l bounded) (length l.class_bodies.items) e.name.now (classes_at l e.setting.class_body) follow c (sym declares)

    pub index_there : None ≡ option_map (λ d. index_of (place_in l e).name (private_names (places_in l) d)) (declaring_class (places_in l) (place_in l e).name (place_in l e).site.setting.classes) → ⊥
    index_there none = none_some (index_of (place_in l e).name (private_names (places_in l) c)) (none ∙ ap (option_map (λ d. index_of (place_in l e).name (private_names (places_in l) d))) (sym declares))

    pub declared_at : e.private ≡ true → (k : ℕ) → Some k ≡ option_map (λ d. index_of (place_in l e).name (private_names (places_in l) d)) (declaring_class (places_in l) (place_in l e).name (place_in l e).site.setting.classes)
        → class_number (places_in l) (classes_around l c) c k ≡ place_number (places_in l) (place_in l e)
    unfolding place_of site_of setting_of
    declared_at t k at = sym (found t
        ∙ ap (declared_number (places_in l) (from_class l bounded) (length l.class_bodies.items) e.name.now) (sym declares)
        ∙ ap (class_number (places_in l) (classes_around l c) c)
        (sym (some_one k (index_of e.name.now (private_names (places_in l) c)) (at ∙ ap (option_map (λ d. index_of e.name.now (private_names (places_in l) d))) (sym declares)))))

-- the name of a private place, whether it changes or stays
pub named_anew : (ps : List Place) (p : Place) → IsTrue p.site.private → name_or p.name (changed_name ps p) ≡ new_private_name ps p
unfolding name_or changed_name place_number new_private_name
named_anew ps p t = ap (λ (b : Bool). name_or p.name (option_map short (if◌then◌else◌ {A = Option ℕ} b (private_number ps p.name p.site.setting.classes) None))) t
    ∙ go (private_number ps p.name p.site.setting.classes)
  where
    go : (o : Option ℕ) → name_or p.name (option_map short o) ≡ elim o as (λ _. List ℕ) [ None ↦ p.name | Some n ↦ short n ]
    go None = refl
    go (Some n) = refl
