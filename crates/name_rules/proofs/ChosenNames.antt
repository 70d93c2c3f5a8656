-- The names that slots and private numbers choose are the new names.
use Rattle.std.specs.Prelude.{◌≡◌, ◌<◌, ℕ, zero, suc, ◌+◌, Bool, true, false, cond, not, ◌&&◌, ◌||◌, List, [], ◌∷◌, ◌++◌, length, map, get_or, slice_get, Option, Some, None, IfSome, is_some, find, nat_eq}
use Rattle.std.proofs.Common.{refl, sym, ap, ◌∙◌, subst, arith, inl, inr}
use Rattle.std.proofs.lemmas.Bool.{both_ways, and_parts}
use Rattle.std.proofs.lemmas.List.{length-map}
use Rattle.std.proofs.lemmas.Option.{slice_get-get_or}
use Rattle.list_laws.proofs.Mapped.{map_same}
use Rattle.list_laws.proofs.FirstOf.{find_first}
use Rattle.list_laws.proofs.Members.{In}
use Rattle.list_laws.proofs.Tests.{tested, told}
use Rattle.tree_nodes.specs.Tree.{Parts, Text}
use Rattle.tree_nodes.specs.declared.table.Role.{Role}
use Rattle.tree_nodes.specs.declared.table.Role.TheVariants.{MemberKey, Plain}
use Rattle.tree_places.proofs.Numbers.{one_name_each}
use Rattle.tree_places.specs.Chosen.{chosen, given_name, or_own, spare_plain}
use Rattle.tree_places.specs.Places.{Place, Site, named_by, names, places, sites, withs}
use Rattle.tree_places.specs.Renaming.{is_plain}
use Rattle.scope_rules.specs.Bindings.{binding, bound, same_name}
use Rattle.name_rules.proofs.CountFrom.{count_at, count_length, slot_names_length}
use Rattle.name_rules.proofs.GivenNamesKeepBindings.{given_by_slot}
use Rattle.name_rules.proofs.Mangling.{with_map}
use Rattle.name_rules.proofs.SlotNamesKeepApart.{greatest_in}
use Rattle.name_rules.specs.GivenNames.{count_from, free_names, names_of_slots}
use Rattle.name_rules.specs.Groups.{group_at, members}
use Rattle.name_rules.specs.Kept.{kept_alone}
use Rattle.name_rules.specs.Open.{all_open}
use Rattle.name_rules.specs.Options.{Options}
use Rattle.name_rules.specs.PrivateNumbers.{new_names, new_private_name, private_number, with_private}
use Rattle.name_rules.specs.ShortNames.{short}
use Rattle.name_rules.specs.SlotNames.{group_in, named_by_slot, slot_in}
use Rattle.name_rules.specs.Slots.{number_of_slots, slot_of, slots_of, weight}
use Rattle.name_rules.specs.ChosenNames.{AreBelow, ChosenNamesAreNew, choice_of, choices_of, place_number}

-- ---- choices as a function of the place

choices_map : {X : Type 0} (first : ℕ) (f g : X → Option ℕ) (xs : List X) → choices_of first (map f xs) (map g xs) ≡ map (λ x. choice_of first (f x) (g x)) xs
unfolding choices_of
choices_map first f g [] = refl
choices_map first f g (x ∷ xs) = ap (λ cs. choice_of first (f x) (g x) ∷ cs) (choices_map first f g xs)

-- the name that a choice gives
named_at : List Text → Option ℕ → Option Text
named_at given None = None
named_at given (Some i) = slice_get given i

chosen_map : (given : List Text) (c : Place → Option ℕ) (ps : List Place) → chosen given (map c ps) (map (λ p. p.name) ps) ≡ map (λ p. or_own (named_at given (c p)) p.name) ps
unfolding chosen given_name or_own named_at
chosen_map given c [] = refl
chosen_map given c (p ∷ ps) = go (c p) (chosen_map given c ps)
  where
    go : (o : Option ℕ) → chosen given (map c ps) (map (λ q. q.name) ps) ≡ map (λ q. or_own (named_at given (c q)) q.name) ps
        → chosen given (o ∷ map c ps) (p.name ∷ map (λ q. q.name) ps) ≡ or_own (named_at given o) p.name ∷ map (λ q. or_own (named_at given (c q)) q.name) ps
    go None e = ap (λ xs. p.name ∷ xs) e
    go (Some i) e = ap (λ xs. or_own (slice_get given i) p.name ∷ xs) e

-- ---- lists of names

slice_left : {X : Type 0} (xs ys : List X) (i : ℕ) (d : X) → i < length xs → slice_get (xs ++ ys) i ≡ Some (get_or xs i d)
slice_left [] ys i d h = absurd (omega (arith, h))
slice_left (x ∷ xs) ys zero d h = refl
slice_left (x ∷ xs) ys (suc i) d h = slice_left xs ys i d (omega (arith, h))

slice_right : {X : Type 0} (xs ys : List X) (i : ℕ) → slice_get (xs ++ ys) (length xs + i) ≡ slice_get ys i
slice_right [] ys i = ap (slice_get ys) (let z : 0 + i ≡ i = omega arith in z)
slice_right (x ∷ xs) ys i = ap (slice_get (x ∷ (xs ++ ys))) (let z : length (x ∷ xs) + i ≡ suc (length xs + i) = omega arith in z) ∙ slice_right xs ys i

short_at : (limit n : ℕ) → n < limit → slice_get (map short (count_from limit 0)) n ≡ Some (short n)
short_at limit n h =
    slice_get-get_or (map short (count_from limit 0)) n [] (let l : length (map short (count_from limit 0)) ≡ limit = length-map (count_from limit 0) short ∙ count_length limit 0 in omega (arith, h, l))
    ∙ ap Some (count_at short limit 0 n [] h ∙ ap short (let z : n + 0 ≡ n = omega arith in z))

-- ---- names of the tree

names_of_named : (ss : List Site) (xs : List Text) → length xs ≡ length ss → map (λ (p : Place). p.name) (named_by ss xs) ≡ xs
unfolding named_by
names_of_named [] [] h = refl
names_of_named [] (x ∷ xs) h = absurd (omega (arith, h))
names_of_named (s ∷ ss) [] h = absurd (omega (arith, h))
names_of_named (s ∷ ss) (x ∷ xs) h = ap (λ ys. x ∷ ys) (names_of_named ss xs (omega (arith, h)))

sites_of_named : (ss : List Site) (xs : List Text) → length xs ≡ length ss → map (λ (p : Place). p.site) (named_by ss xs) ≡ ss
unfolding named_by
sites_of_named [] [] h = refl
sites_of_named [] (x ∷ xs) h = absurd (omega (arith, h))
sites_of_named (s ∷ ss) [] h = absurd (omega (arith, h))
sites_of_named (s ∷ ss) (x ∷ xs) h = ap (λ ys. s ∷ ys) (sites_of_named ss xs (omega (arith, h)))

names_of_places : (t : Parts) → map (λ (p : Place). p.name) (places t) ≡ names t
unfolding places
names_of_places t = names_of_named (sites t) (names t) (one_name_each t)

sites_of_places : (t : Parts) → map (λ (p : Place). p.site) (places t) ≡ sites t
unfolding places
sites_of_places t = sites_of_named (sites t) (names t) (one_name_each t)

-- a choice that no plain name gets
spare_each : (c : Place → Option ℕ) (ps : List Place) → ((p : Place) → is_plain p.site ≡ true → c p ≡ None) → spare_plain (map (λ p. p.site) ps) (map c ps) ≡ true
unfolding spare_plain
spare_each c [] f = refl
spare_each c (p ∷ ps) f = go (is_plain p.site) (f p) (spare_each c ps f)
  where
    go : (b : Bool) → (b ≡ true → c p ≡ None) → spare_plain (map (λ q. q.site) ps) (map c ps) ≡ true → ((not b || not (is_some (c p))) && spare_plain (map (λ q. q.site) ps) (map c ps)) ≡ true
    go true g e = ap (λ x. not (is_some x) && spare_plain (map (λ q. q.site) ps) (map c ps)) (g refl) ∙ e
    go false g e = e

none_some : (k : ℕ) → None ≡ Some k → ⊥
none_some k q = both_ways false refl (ap (λ x. elim x as (λ y. Bool) [ None ↦ false | Some y ↦ true ]) q)

some_one : (j k : ℕ) → Some j ≡ Some k → j ≡ k
some_one j k q = ap (λ x. elim x as (λ y. ℕ) [ None ↦ j | Some y ↦ y ]) q

not_true : (b : Bool) → not b ≡ true → b ≡ false
not_true true e = sym e
not_true false e = refl

module _ (o : Options) (t : Parts) where
  name : ℕ → Text
  name k = get_or (names_of_slots o t) k []

  new_at : Place → Text
  new_at p = cond p.site.private (new_private_name (places t) p) (named_by_slot o t name p)

  new_map : new_names o t ≡ map new_at (places t)
  unfolding all_open name new_at
  new_map = ap (with_private (places t) (places t)) (given_by_slot o t) ∙ with_map (places t) (named_by_slot o t name) (places t)

  -- ---- what is no variable has no group

  ungrouped : (p : Place) → binding same_name (places t) p ≡ None → slot_in o t p ≡ None
  unfolding all_open
  ungrouped p e = ap (λ b. slot_of (slots_of o t) (group_at (kept_alone o (withs t) (places t) (bound same_name (places t))) (places t) (bound same_name (places t)) b)) e

  private_unbound : (s : Site) → s.private ≡ true → (p : Place) → p.site ≡ s → binding same_name (places t) p ≡ None
  unfolding all_open
  private_unbound s h p e = rw (e, h) refl

  plain_unbound : (s : Site) → is_plain s ≡ true → (p : Place) → p.site ≡ s → binding same_name (places t) p ≡ None
  unfolding all_open
  plain_unbound s h p e = go s.setting.role refl (and_parts _ _ h).1
    where
      public : s.private ≡ false
      public = not_true s.private (and_parts _ _ h).0

      go : (r : Role) → s.setting.role ≡ r → elim r as (λ x. Bool) [ Plain ↦ true | MemberKey ↦ true | _ ↦ false ] ≡ true → binding same_name (places t) p ≡ None
      go Plain w k = rw (e, public, w) refl
      go MemberKey w k = rw (e, public, w) refl
      go _ w k = absurd (both_ways false refl k)

  -- ---- each place

  abbrev given : ℕ → List Text
  given limit = names_of_slots o t ++ map short (count_from limit 0)

  abbrev choice : Place → Option ℕ
  choice p = choice_of (number_of_slots (slots_of o t)) (slot_in o t p) (place_number (places t) p)

  many_names : length (names_of_slots o t) ≡ number_of_slots (slots_of o t)
  unfolding all_open
  many_names =
      let n : ℕ = number_of_slots (slots_of o t) in
      slot_names_length (free_names o (members o t) n) (map (weight (members o t) (slots_of o t)) (count_from n 0))
      ∙ length-map (count_from n 0) (weight (members o t) (slots_of o t)) ∙ count_length n 0

  slot_below : (p : Place) (k : ℕ) → slot_in o t p ≡ Some k → k < number_of_slots (slots_of o t)
  unfolding slot_in slot_of
  slot_below p k e = go (group_in o t p) e
    where
      go : (g : Option ℕ) → slot_of (slots_of o t) g ≡ Some k → k < number_of_slots (slots_of o t)
      go None h = absurd (none_some k h)
      go (Some n) h = told (find (λ b. nat_eq b.group.leader n) (slots_of o t))
          (λ none. absurd (none_some k (sym (ap (λ f. elim f as (λ x. Option ℕ) [ None ↦ None | Some b ↦ Some b.slot ]) none) ∙ h)))
          (λ b f. subst (λ (m : ℕ). m < number_of_slots (slots_of o t)) (some_one b.slot k (sym (ap (λ f. elim f as (λ x. Option ℕ) [ None ↦ None | Some b ↦ Some b.slot ]) f) ∙ h))
          (greatest_in (slots_of o t) b (find_first (λ b. nat_eq b.group.leader n) (slots_of o t) b f).among))

  private_named : (limit : ℕ) (p : Place) → p.site.private ≡ true → IfSome (place_number (places t) p) (λ n. n < limit) → or_own (named_at (given limit) (choice p)) p.name ≡ new_at p
  unfolding new_at place_number choice_of named_at or_own new_private_name
  private_named limit p h b = go (private_number (places t) p.name p.site.setting.classes) refl (subst (λ (x : Option ℕ). IfSome x (λ n. n < limit)) at b)
    where
      at : place_number (places t) p ≡ private_number (places t) p.name p.site.setting.classes
      at = ap (λ c. cond c (private_number (places t) p.name p.site.setting.classes) None) h

      new : new_at p ≡ elim (private_number (places t) p.name p.site.setting.classes) as (λ x. Text) [ None ↦ p.name | Some n ↦ short n ]
      new = ap (λ c. cond c (new_private_name (places t) p) (named_by_slot o t name p)) h

      go : (n : Option ℕ) → private_number (places t) p.name p.site.setting.classes ≡ n → IfSome n (λ m. m < limit) → or_own (named_at (given limit) (choice p)) p.name ≡ new_at p
      go None e less =
          ap (λ x. or_own (named_at (given limit) (choice_of (number_of_slots (slots_of o t)) (slot_in o t p) x)) p.name) (at ∙ e)
          ∙ ap (λ x. or_own (named_at (given limit) x) p.name) (ungrouped p (private_unbound p.site h p refl))
          ∙ sym (new ∙ ap (λ x. elim x as (λ y. Text) [ None ↦ p.name | Some n ↦ short n ]) e)
      go (Some n) e less =
          ap (λ x. or_own (named_at (given limit) (choice_of (number_of_slots (slots_of o t)) (slot_in o t p) x)) p.name) (at ∙ e)
          ∙ ap (λ x. or_own x p.name) (ap (λ m. slice_get (given limit) (m + n)) (sym many_names) ∙ slice_right (names_of_slots o t) (map short (count_from limit 0)) n ∙ short_at limit n less)
          ∙ sym (new ∙ ap (λ x. elim x as (λ y. Text) [ None ↦ p.name | Some m ↦ short m ]) e)

  open_named : (limit : ℕ) (p : Place) → p.site.private ≡ false → or_own (named_at (given limit) (choice p)) p.name ≡ new_at p
  unfolding new_at place_number choice_of named_at or_own named_by_slot name
  open_named limit p h = go (slot_in o t p) refl
    where
      at : place_number (places t) p ≡ None
      at = ap (λ c. cond c (private_number (places t) p.name p.site.setting.classes) None) h

      new : new_at p ≡ elim (slot_in o t p) as (λ x. Text) [ None ↦ p.name | Some k ↦ get_or (names_of_slots o t) k [] ]
      new = ap (λ c. cond c (new_private_name (places t) p) (named_by_slot o t name p)) h

      go : (k : Option ℕ) → slot_in o t p ≡ k → or_own (named_at (given limit) (choice p)) p.name ≡ new_at p
      go None e =
          ap (λ x. or_own (named_at (given limit) (choice_of (number_of_slots (slots_of o t)) (slot_in o t p) x)) p.name) at
          ∙ ap (λ x. or_own (named_at (given limit) x) p.name) e
          ∙ sym (new ∙ ap (λ x. elim x as (λ y. Text) [ None ↦ p.name | Some m ↦ get_or (names_of_slots o t) m [] ]) e)
      go (Some k) e =
          ap (λ x. or_own (named_at (given limit) (choice_of (number_of_slots (slots_of o t)) (slot_in o t p) x)) p.name) at
          ∙ ap (λ x. or_own (named_at (given limit) x) p.name) e
          ∙ ap (λ x. or_own x p.name) (slice_left (names_of_slots o t) (map short (count_from limit 0)) k [] (subst (λ (m : ℕ). k < m) (sym many_names) (slot_below p k e)))
          ∙ sym (new ∙ ap (λ x. elim x as (λ y. Text) [ None ↦ p.name | Some m ↦ get_or (names_of_slots o t) m [] ]) e)

  -- no plain name is chosen for
  plain_spared : (p : Place) → is_plain p.site ≡ true → choice p ≡ None
  unfolding choice_of place_number is_plain
  plain_spared p h =
      ap (λ x. choice_of (number_of_slots (slots_of o t)) (slot_in o t p) x) (ap (λ c. cond c (private_number (places t) p.name p.site.setting.classes) None) (not_true p.site.private (and_parts _ _ h).0))
      ∙ ungrouped p (plain_unbound p.site h p refl)

  spared : spare_plain (sites t) (choices_of (number_of_slots (slots_of o t)) (map (slot_in o t) (places t)) (map (place_number (places t)) (places t))) ≡ true
  spared =
      ap (λ cs. spare_plain (sites t) cs) (choices_map (number_of_slots (slots_of o t)) (slot_in o t) (place_number (places t)) (places t))
      ∙ ap (λ ss. spare_plain ss (map choice (places t))) (sym (sites_of_places t))
      ∙ spare_each choice (places t) plain_spared

  below_at : (limit : ℕ) (qs : List Place) → AreBelow limit (map (place_number (places t)) qs) → (p : Place) → In p qs → IfSome (place_number (places t) p) (λ n. n < limit)
  below_at limit [] all p i = absurd i
  below_at limit (q ∷ qs) all p (inl e) = subst (λ (x : Place). IfSome (place_number (places t) x) (λ n. n < limit)) e all.0
  below_at limit (q ∷ qs) all p (inr i) = below_at limit qs all.1 p i

  chosen_new : (limit : ℕ) → AreBelow limit (map (place_number (places t)) (places t))
      → chosen (given limit) (choices_of (number_of_slots (slots_of o t)) (map (slot_in o t) (places t)) (map (place_number (places t)) (places t))) (names t) ≡ new_names o t
  chosen_new limit all =
      ap (λ cs. chosen (given limit) cs (names t)) (choices_map (number_of_slots (slots_of o t)) (slot_in o t) (place_number (places t)) (places t))
      ∙ ap (chosen (given limit) (map choice (places t))) (sym (names_of_places t))
      ∙ chosen_map (given limit) choice (places t)
      ∙ map_same (λ p. or_own (named_at (given limit) (choice p)) p.name) new_at (places t)
      (λ p i. tested p.site.private (λ h. private_named limit p h (below_at limit (places t) all p i)) (λ h. open_named limit p h))
      ∙ sym new_map

pub chosen_names_are_new : ChosenNamesAreNew
chosen_names_are_new o t limit all = record {
  chosen = chosen_new o t limit all;
  spare = spared o t;
}
