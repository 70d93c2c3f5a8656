-- The entries of a list of places are told by what the places that they stand for are told by.
use Rattle.std.specs.Prelude.{◌≡◌, ◌<◌, ℕ, zero, suc, List, [], ◌∷◌, length, map, slice_get, Option, Some, None, IfSome}
use Rattle.std.specs.List.{All, AllByRecursion}
use Rattle.std.proofs.Common.{refl, sym, ap, ◌∙◌, subst, arith}
use Rattle.std.proofs.lemmas.List.{length-map}
use Rattle.std.proofs.lemmas.List.Elements.{All-cons, All-nil}
use Rattle.list_laws.proofs.Tests.{told}
use Rattle.scope_rules.specs.Evals.{is_called}
use Rattle.scope_rules.specs.PrivateNames.{is_member_key}
use Rattle.place_list.specs.Bounds.{ComesBefore, IsBelow, IsBounded, IsKnown}
use Rattle.place_list.specs.TableViews.{class_parents, classes_at, entry_view, list_view, lists_in, place_in, places_in}
use Rattle.place_list.specs.Tables.{lineages, list_at, place_of, setting_of, site_of}
use Rattle.place_list.specs.declared.tables.ClassEntry.{ClassEntry}
use Rattle.place_list.specs.declared.tables.PlaceEntry.{PlaceEntry}
use Rattle.place_list.specs.declared.tables.PlaceList.{PlaceList}
use Rattle.place_list.proofs.OutwardWalks.{line_outwards}
use Rattle.place_list.proofs.PlacesStand.{mapped_at}
use Rattle.class_tables.specs.Outwards.{Falls, chain, chain_from, outer}
use Rattle.class_tables.specs.Sights.{AreKnown, AreOf, sight, sight_of}
use Rattle.class_tables.proofs.Chains.{chain_step}

-- the numbers outside of class bodies
abbrev pub outside : List ClassEntry → List (Option ℕ)
outside bs = map (λ e. e.parent) bs

outer_read : (bs : List ClassEntry) (k : ℕ) (e : ClassEntry) → slice_get bs k ≡ Some e → outer bs k ≡ e.parent
unfolding outer
outer_read bs k e s = rw (s, outer) refl

outer_none : (bs : List ClassEntry) (k : ℕ) → slice_get bs k ≡ None → outer bs k ≡ None
unfolding outer
outer_none bs k s = rw (s, outer) refl

pub bodies_fall : (bs : List ClassEntry) → ComesBefore (outside bs) → Falls (outer bs)
bodies_fall bs rising k p e = told (slice_get bs k)
    (λ s. absurd (let a : None ≡ Some p = sym (outer_none bs k s) ∙ e in cc))
    (λ b s. rising k p (mapped_at (λ (c : ClassEntry). c.parent) bs k b s ∙ ap (λ o. Some o) (sym (outer_read bs k b s) ∙ e)))

read_below : (bs : List ClassEntry) (k : ℕ) → k < length bs → slice_get bs k ≡ None → ⊥
read_below [] k h e = omega (arith, h)
read_below (b ∷ bs) zero h e = cc
read_below (b ∷ bs) (suc k) h e = read_below bs k (omega (arith, h)) e

module _ (bs : List ClassEntry) (rising : ComesBefore (outside bs)) where
  outwards_too : (k : ℕ) → ((p : ℕ) → p < k → list_at (lineages (outside bs)) (Some p) ≡ chain (outer bs) p) → (o : Option ℕ) → outer bs k ≡ o → list_at (lineages (outside bs)) o ≡ chain_from (outer bs) (outer bs k)
  unfolding list_at chain_from
  outwards_too k before None e = ap (chain_from (outer bs)) (sym e)
  outwards_too k before (Some p) e = before p (bodies_fall bs rising k p e) ∙ ap (chain_from (outer bs)) (sym e)

  chain_by : (n k : ℕ) → k < n → k < length bs → list_at (lineages (outside bs)) (Some k) ≡ chain (outer bs) k
  chain_by zero k h l = absurd (omega (arith, h))
  chain_by (suc n) k h l = told (slice_get bs k) (λ s. absurd (read_below bs k l s))
      (λ b s. line_outwards (outside bs) rising k b.parent (mapped_at (λ (c : ClassEntry). c.parent) bs k b s)
      ∙ ap (λ (ks : List ℕ). k ∷ ks) (outwards_too k (λ p q. chain_by n p (omega (arith, q, h)) (omega (arith, q, l))) b.parent (outer_read bs k b s))
      ∙ sym (chain_step (outer bs) (bodies_fall bs rising) k))

  -- what a number stands for is the chain from it
  pub classes_are_chain : (o : Option ℕ) → IsBelow (length bs) o → list_at (lineages (outside bs)) o ≡ chain_from (outer bs) o
  unfolding list_at chain_from
  classes_are_chain None h = refl
  classes_are_chain (Some k) h = chain_by (suc k) k (omega arith) h

many_bodies : (l : PlaceList) → length (class_parents l) ≡ length l.class_bodies.items
many_bodies l = length-map l.class_bodies.items (λ (b : ClassEntry). b.parent)

module _ (l : PlaceList) (bounded : IsBounded (list_view l)) where
  pub class_below : (e : PlaceEntry) → IsKnown (list_view l) e.setting → IsBelow (length l.class_bodies.items) e.setting.class_body
  class_below e k = subst (λ (n : ℕ). IsBelow n e.setting.class_body) (many_bodies l) k.class_body

  pub sights_agree : (e : PlaceEntry) → IsKnown (list_view l) e.setting → sight (place_in l e) ≡ sight_of l.class_bodies.items e
  unfolding sight sight_of place_of site_of setting_of
  sights_agree e k =
      ap (λ cs. record { node = e.node; name = e.name.now; private = e.private; member_key = is_member_key e.setting.role; called = is_called e.setting.role; classes = cs })
      (classes_are_chain l.class_bodies.items bounded.class_bodies e.setting.class_body (class_below e k))

  all_agree : (es : List PlaceEntry) → AllByRecursion (λ e. IsKnown (list_view l) e.setting) (map entry_view es) → map sight (map (place_of (lists_in l)) (map entry_view es)) ≡ map (sight_of l.class_bodies.items) es
  all_agree [] a = refl
  all_agree (e ∷ es) a =
      ap (λ s. s ∷ map sight (map (place_of (lists_in l)) (map entry_view es))) (sights_agree e a.0)
      ∙ ap (λ ss. sight_of l.class_bodies.items e ∷ ss) (all_agree es a.1)

  pub entries_are_of_places : AreOf l.class_bodies.items l.places.items (places_in l)
  entries_are_of_places = all_agree l.places.items bounded.places

  all_below : (es : List PlaceEntry) → AllByRecursion (λ e. IsKnown (list_view l) e.setting) (map entry_view es) → All (λ e. IfSome e.setting.class_body (λ c. c < length l.class_bodies.items)) es
  all_below [] a = All-nil (λ (e : PlaceEntry). IfSome e.setting.class_body (λ c. c < length l.class_bodies.items))
  all_below (e ∷ es) a = All-cons (λ (e : PlaceEntry). IfSome e.setting.class_body (λ c. c < length l.class_bodies.items)) e es (class_below e a.0) (all_below es a.1)

  pub entries_are_known : AreKnown l.class_bodies.items l.places.items
  entries_are_known = record { fall = bodies_fall l.class_bodies.items bounded.class_bodies; classes = all_below l.places.items bounded.places }

  pub chain_listed : (bs : List ClassEntry) → bs ≡ l.class_bodies.items → (k : ℕ) → k < length l.class_bodies.items → chain (outer bs) k ≡ classes_at l (Some k)
  unfolding chain_from
  chain_listed bs e k h = ap (λ (cs : List ClassEntry). chain (outer cs) k) e ∙ sym (classes_are_chain l.class_bodies.items bounded.class_bodies (Some k) h)

  -- of the slices that are passed on
  module _ (bs : List ClassEntry) (es : List PlaceEntry) (same_bodies : bs ≡ l.class_bodies.items) (same_entries : es ≡ l.places.items) where
    pub known_of : AreKnown bs es
    known_of = subst (λ (xs : List ClassEntry). AreKnown xs es) (sym same_bodies) (subst (λ (xs : List PlaceEntry). AreKnown l.class_bodies.items xs) (sym same_entries) entries_are_known)

    pub of_places : AreOf bs es (places_in l)
    of_places = subst (λ (xs : List ClassEntry). AreOf xs es (places_in l)) (sym same_bodies) (subst (λ (xs : List PlaceEntry). AreOf l.class_bodies.items xs (places_in l)) (sym same_entries) entries_are_of_places)
