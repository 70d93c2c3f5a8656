-- A redeclaration is told at the later of its two places.
use Rattle.std.specs.Prelude.{◌≡◌, ◌⊎◌, ℕ, zero, suc, Bool, true, false, ◌||◌, List, [], ◌∷◌, ◌++◌, take, slice_get, Some}
use Rattle.std.specs.List.{list_any}
use Rattle.std.proofs.Common.{refl, sym, ap, ◌∙◌, append_assoc, inl, inr}
use Rattle.std.proofs.lemmas.Bool.{both_ways, or_cases, or_left, or_right}
use Rattle.std.proofs.lemmas.List.{append-nil}
use Rattle.std.proofs.lemmas.List.Folds.{list_any-append}
use Rattle.tree_places.specs.Places.{Named}
use Rattle.scope_rules.specs.Faults.{RedeclarationsStandAtPlaces, has_redeclaration, is_redeclaration, redeclares}

module _ {N : Type 0} (same : N → N → Bool) where
  -- some of these places is one after those before it
  unfoldable pub some_redeclaration : List (Named N) → List (Named N) → Bool
  some_redeclaration before [] = false
  some_redeclaration before (p ∷ ps) = is_redeclaration same before p || some_redeclaration (before ++ p ∷ []) ps

  pub one_place_more : (ps : List (Named N)) (q : Named N) → has_redeclaration same (ps ++ q ∷ []) ≡ (has_redeclaration same ps || is_redeclaration same ps q)
  unfolding has_redeclaration is_redeclaration
  one_place_more [] q = refl
  one_place_more (p ∷ ps) q =
      ap (λ (b : Bool). b || has_redeclaration same (ps ++ q ∷ [])) (list_any-append (redeclares same p) ps (q ∷ []))
      ∙ ap (λ (b : Bool). (list_any (redeclares same p) ps || (redeclares same p q || false)) || b) (one_place_more ps q)
      ∙ go (list_any (redeclares same p) ps) (redeclares same p q) (has_redeclaration same ps) (list_any (λ r. redeclares same r q) ps)
    where
      go : (a r h l : Bool) → ((a || (r || false)) || (h || l)) ≡ ((a || h) || (r || l))
      go true r h l = refl
      go false true true l = refl
      go false true false l = refl
      go false false h l = refl

  after_these : (before ps : List (Named N)) → has_redeclaration same (before ++ ps) ≡ (has_redeclaration same before || some_redeclaration before ps)
  unfolding some_redeclaration
  after_these before [] = ap (λ qs. has_redeclaration same qs) (append-nil before) ∙ go (has_redeclaration same before)
    where
      go : (b : Bool) → b ≡ (b || false)
      go true = refl
      go false = refl
  after_these before (p ∷ ps) =
      ap (λ qs. has_redeclaration same qs) (sym (append_assoc before (p ∷ []) ps))
      ∙ after_these (before ++ p ∷ []) ps
      ∙ ap (λ (b : Bool). b || some_redeclaration (before ++ p ∷ []) ps) (one_place_more before p)
      ∙ go (has_redeclaration same before) (is_redeclaration same before p) (some_redeclaration (before ++ p ∷ []) ps)
    where
      go : (a b c : Bool) → ((a || b) || c) ≡ (a || (b || c))
      go true b c = refl
      go false b c = refl

  pub some_place_redeclares : (ps : List (Named N)) → has_redeclaration same ps ≡ some_redeclaration [] ps
  unfolding has_redeclaration
  some_place_redeclares ps = after_these [] ps

  -- ---- and that place has an index

  found : (before ps : List (Named N)) → some_redeclaration before ps ≡ true
      → (i : ℕ) × (p : Named N) × (slice_get ps i ≡ Some p) × (is_redeclaration same (before ++ take i ps) p ≡ true)
  unfolding some_redeclaration
  found before [] h = absurd (both_ways _ refl h)
  found before (p ∷ ps) h = go (or_cases _ _ h) (found (before ++ p ∷ []) ps)
    where
      go : (is_redeclaration same before p ≡ true) ⊎ (some_redeclaration (before ++ p ∷ []) ps ≡ true)
          → (some_redeclaration (before ++ p ∷ []) ps ≡ true → (i : ℕ) × (q : Named N) × (slice_get ps i ≡ Some q) × (is_redeclaration same ((before ++ p ∷ []) ++ take i ps) q ≡ true))
          → (i : ℕ) × (q : Named N) × (slice_get (p ∷ ps) i ≡ Some q) × (is_redeclaration same (before ++ take i (p ∷ ps)) q ≡ true)
      go (inl e) further = (zero, p, refl, ap (λ qs. is_redeclaration same qs p) (append-nil before) ∙ e)
      go (inr e) further = let w = further e in (suc w.0, w.1, w.2, ap (λ qs. is_redeclaration same qs w.1) (sym (append_assoc before (p ∷ []) (take w.0 ps))) ∙ w.3)

  told : (before ps : List (Named N)) (i : ℕ) (p : Named N) → slice_get ps i ≡ Some p → is_redeclaration same (before ++ take i ps) p ≡ true → some_redeclaration before ps ≡ true
  unfolding some_redeclaration
  told before [] i p e h = absurd (cc)
  told before (q ∷ ps) zero p e h =
      let same_place : q ≡ p = cc in
      or_left _ _ (ap (λ qs. is_redeclaration same qs q) (sym (append-nil before)) ∙ ap (λ r. is_redeclaration same (before ++ []) r) same_place ∙ h)
  told before (q ∷ ps) (suc i) p e h = or_right _ _ (told (before ++ q ∷ []) ps i p e (ap (λ qs. is_redeclaration same qs p) (append_assoc before (q ∷ []) (take i ps)) ∙ h))

pub redeclarations_stand_at_places : (N : Type 0) → RedeclarationsStandAtPlaces N
redeclarations_stand_at_places N = λ same ps.
    (λ h. found same [] ps (sym (some_place_redeclares same ps) ∙ h), λ (i, p, e, h). some_place_redeclares same ps ∙ told same [] ps i p e h)
