-- The bindings that are kept alone, by number.
use Rattle.std.specs.Prelude.{◌≡◌, ◌<◌, ℕ, Bool, true, false, cond, not, ◌&&◌, ◌||◌, nat_eq, List, [], ◌∷◌, map, filter, length, Option, Some, None, is_some}
use Rattle.std.specs.List.{list_any}
use Rattle.std.proofs.Common.{refl, sym, ap, ◌∙◌, arith}
use Rattle.std.proofs.lemmas.Bool.{eq-eqb, eqb-true}
use Rattle.kept_names.specs.Causes.{keeps_alone}
use Rattle.list_laws.proofs.Tests.{tests_agree}
use Rattle.name_rules.specs.Kept.{has_number, is_kept_alone, is_root, kept_alone}
use Rattle.name_rules.specs.Options.{Options}
use Rattle.place_list.specs.Bounds.{IsBelow, IsBounded}
use Rattle.place_list.specs.TableViews.{list_view, lists_in, places_in, scope_at, withs_in}
use Rattle.place_list.specs.declared.tables.PlaceList.{PlaceList}
use Rattle.scope_rules.specs.Bindings.{Bound, is_binding, node}
use Rattle.scope_tables.proofs.Numbers.{Next, none_outside, scope_outwards}
use Rattle.tree_nodes.specs.Tree.{Text}

nat_eq_flips : (a b : ℕ) → nat_eq a b ≡ nat_eq b a
nat_eq_flips a b = tests_agree (nat_eq a b) (nat_eq b a) (λ e. eq-eqb b a (sym (eqb-true a b e))) (λ e. eq-eqb a b (sym (eqb-true b a e)))

any_of_filtered : {X : Type 0} (f : X → ℕ) (p k : X → Bool) (n : ℕ) (xs : List X) → list_any (nat_eq n) (map f (filter k (filter p xs))) ≡ list_any (λ x. p x && k x && nat_eq (f x) n) xs
any_of_filtered f p k n [] = refl
any_of_filtered {X} f p k n (x ∷ xs) = go (p x) (k x) (any_of_filtered f p k n xs)
  where
    go : (a b : Bool) → list_any (nat_eq n) (map f (filter k (filter p xs))) ≡ list_any (λ y. p y && k y && nat_eq (f y) n) xs
        → list_any (nat_eq n) (map f (filter k (cond a (x ∷ filter p xs) (filter p xs)))) ≡ ((a && k x && nat_eq (f x) n) || list_any (λ y. p y && k y && nat_eq (f y) n) xs)
    go true b ih = kept (k x) ih
      where
        kept : (t : Bool) → list_any (nat_eq n) (map f (filter k (filter p xs))) ≡ list_any (λ y. p y && k y && nat_eq (f y) n) xs
            → list_any (nat_eq n) (map f (cond t (x ∷ filter k (filter p xs)) (filter k (filter p xs)))) ≡ ((t && nat_eq (f x) n) || list_any (λ y. p y && k y && nat_eq (f y) n) xs)
        kept true same = ap (λ (t : Bool). t || list_any (nat_eq n) (map f (filter k (filter p xs)))) (nat_eq_flips n (f x)) ∙ ap (λ (t : Bool). nat_eq (f x) n || t) same
        kept false same = same
    go false b ih = ih

pub kept_numbers : (o : Options) (l : PlaceList) (bs : List (Bound Text)) (n : ℕ) → list_any (keeps_alone o l bs n) bs ≡ has_number (kept_alone o (withs_in l) (places_in l) bs) (Some n)
unfolding keeps_alone has_number kept_alone
kept_numbers o l bs n = sym (any_of_filtered (λ (b : Bound Text). node b.place) is_binding (is_kept_alone o (withs_in l) (places_in l) bs) n bs)

-- ---- the root has nothing outside

module _ (l : PlaceList) (bounded : IsBounded (list_view l)) (n : ℕ) (known : n < length l.scopes.items) where
  pub root_is : (o : Option ℕ) → IsBelow n o → scope_at l (Some n) ≡ n ∷ scope_at l o → (b : Bool) → is_some o ≡ not b → b ≡ is_root (scope_at l (Some n))
  unfolding is_root
  root_is None below outwards true e = sym (ap is_root (outwards ∙ ap (λ (s : List ℕ). n ∷ s) (none_outside (lists_in l).scopes)))
  root_is None below outwards false e = absurd (cc)
  root_is (Some m) below outwards true e = absurd (cc)
  root_is (Some m) below outwards false e =
      let w : Next (scope_at l) m = scope_outwards l bounded m (omega (arith, below, known)) in
      sym (ap is_root (outwards ∙ ap (λ (s : List ℕ). n ∷ s) w.1.0))

pub none_is_root : (l : PlaceList) → true ≡ is_root (scope_at l None)
unfolding is_root
none_is_root l = sym (ap is_root (none_outside (lists_in l).scopes))

-- ---- one of six causes

pub six : {a b c d e f a' b' c' d' e' f' : Bool} → a ≡ a' → b ≡ b' → c ≡ c' → d ≡ d' → e ≡ e' → f ≡ f' → (a || b || c || d || e || f) ≡ (a' || b' || c' || d' || e' || f')
six {a} {b} {c} {d} {e} {f} {a'} {b'} {c'} {d'} {e'} {f'} p q r s t u =
    ap (λ (x : Bool). x || b || c || d || e || f) p ∙ ap (λ (x : Bool). a' || x || c || d || e || f) q ∙ ap (λ (x : Bool). a' || b' || x || d || e || f) r
    ∙ ap (λ (x : Bool). a' || b' || c' || x || e || f) s ∙ ap (λ (x : Bool). a' || b' || c' || d' || x || f) t ∙ ap (λ (x : Bool). a' || b' || c' || d' || e' || x) u
