-- Walks along heads, and the sets of nodes in scopes that they ask.
use Rattle.std.specs.Prelude.{◌≡◌, ◌⊎◌, ◌+◌, ◌<◌, ℕ, zero, suc, Bool, true, false, cond, not, ◌&&◌, ◌||◌, nat_eq, List, [], ◌∷◌, ◌++◌, length, map, take, get_or, Option, Some, None, if◌then◌else◌}
use Rattle.std.specs.List.{Contains, list_any}
use Rattle.std.proofs.Common.{refl, sym, ap, subst, ◌∙◌, inl, inr, arith}
use Rattle.std.proofs.lemmas.Bool.{both_ways, eq-eqb, eqb-true}
use Rattle.std.proofs.lemmas.List.{map-append, take_more}
use Rattle.std.proofs.lemmas.List.Elements.{Contains-append_cases}
use Rattle.std.proofs.lemmas.List.Folds.{list_any-append}
use Rattle.tree_nodes.specs.Tree.{Text}
use Rattle.scope_rules.specs.Bindings.{Bound, is_binding, is_node, node}
use Rattle.scope_rules.specs.Evals.{contains}
use Rattle.scope_rules.specs.Faults.{binds_in, declares_in_head, is_of_body, is_scope, reaches_body}
use Rattle.scope_rules.specs.Homes.{declares, home, names_function, refers}
use Rattle.list_laws.proofs.AnyOf.{any_same}
use Rattle.place_list.specs.Bounds.{IsBounded}
use Rattle.place_list.specs.TableViews.{list_view, lists_in, scope_at}
use Rattle.place_list.specs.Tables.{list_at, place_of, site_of}
use Rattle.scope_tables.specs.Reach.{AllBoundStand, body_scope}
use Rattle.scope_tables.specs.Views.{IsScope, Stands, bound_of, bounds_of, home_number}
use Rattle.tree_places.specs.Scopes.{Scope}
use Rattle.scope_tables.specs.declared.bound.BoundPlace.{BoundPlace}
use Rattle.place_list.specs.declared.tables.PlaceList.{PlaceList}
use Rattle.scope_tables.proofs.Numbers.{Next, home_at, home_is_known, none_outside, scope_outwards}

nat_eq_flips : (a b : ℕ) → nat_eq a b ≡ nat_eq b a
nat_eq_flips a b = go _ refl _ refl
  where
    go : (t : Bool) → nat_eq a b ≡ t → (u : Bool) → nat_eq b a ≡ u → t ≡ u
    go true p true q = refl
    go false p false q = refl
    go true p false q = absurd (both_ways _ q (eq-eqb b a (sym (eqb-true a b p))))
    go false p true q = absurd (both_ways _ p (eq-eqb a b (sym (eqb-true b a q))))

-- ---- whether one along a list passes

module _ (line : Option ℕ → List ℕ) (s : ℕ) (at further : Option ℕ) (k : ℕ) (here : at ≡ Some k) (outwards : line (Some k) ≡ s ∷ line further) where
  module _ (test : ℕ → Bool) (whole : Bool) (so_far : whole ≡ list_any test (line at)) where
    step : whole ≡ (test s || list_any test (line further))
    step = so_far ∙ ap (λ (o : Option ℕ). list_any test (line o)) here ∙ ap (list_any test) outwards

    pub one_passes : test s ≡ true → true ≡ whole
    one_passes t = sym (step ∙ ap (λ (b : Bool). b || list_any test (line further)) t)

    pub passes_on : test s ≡ false → whole ≡ list_any test (line further)
    passes_on t = step ∙ ap (λ (b : Bool). b || list_any test (line further)) t

  -- ---- a node is put under each scope along a list

  pub put_further : (has : ℕ → ℕ → Bool) (m : ℕ) (has' : ℕ → ℕ → Bool) → ((f n : ℕ) → has' f n ≡ cond (nat_eq s f && nat_eq m n) true (has f n))
      → (f n : ℕ) → (has f n || (nat_eq m n && contains (line at) f)) ≡ (has' f n || (nat_eq m n && contains (line further) f))
  unfolding contains
  put_further has m has' put f n =
      ap (λ (o : Option ℕ). has f n || (nat_eq m n && list_any (nat_eq f) (line o))) here
      ∙ ap (λ (ks : List ℕ). has f n || (nat_eq m n && list_any (nat_eq f) ks)) outwards
      ∙ ap (λ (b : Bool). has f n || (nat_eq m n && (b || list_any (nat_eq f) (line further)))) (nat_eq_flips f s)
      ∙ go (has f n) (nat_eq m n) (nat_eq s f) (list_any (nat_eq f) (line further))
      ∙ ap (λ (b : Bool). b || (nat_eq m n && list_any (nat_eq f) (line further))) (sym (put f n))
    where
      go : (h e q c : Bool) → (h || (e && (q || c))) ≡ (cond (q && e) true h || (e && c))
      go true true true c = refl
      go true true false c = refl
      go false true true c = refl
      go false true false c = refl
      go h false true c = refl
      go h false false c = refl

module _ (lists : List (List ℕ)) (at : Option ℕ) (ended : at ≡ None) where
  pub none_along : (test : ℕ → Bool) (whole : Bool) → whole ≡ list_any test (list_at lists at) → false ≡ whole
  unfolding list_at
  none_along test whole so_far = sym (so_far ∙ ap (λ (o : Option ℕ). list_any test (list_at lists o)) ended)

  pub put_all : (has : ℕ → ℕ → Bool) (m f n : ℕ) → (has f n || (nat_eq m n && contains (list_at lists at) f)) ≡ has f n
  unfolding contains list_at
  put_all has m f n = ap (λ (o : Option ℕ). has f n || (nat_eq m n && list_any (nat_eq f) (list_at lists o))) ended ∙ go (has f n) (nat_eq m n)
    where
      go : (h e : Bool) → (h || (e && false)) ≡ h
      go true true = refl
      go true false = refl
      go false true = refl
      go false false = refl

-- ---- one place more, beside those so far

module _ (l : PlaceList) (test : Bound Text → Bool) (all : List BoundPlace) (i : ℕ) where
  pub any_more : (e : BoundPlace) → i < length all → list_any test (bounds_of l (take (i + 1) all)) ≡ (list_any test (bounds_of l (take i all)) || test (bound_of l (get_or all i e)))
  any_more e h =
      ap (list_any test) (ap (map (bound_of l)) (take_more all i e h) ∙ map-append (bound_of l) (take i all) (get_or all i e ∷ []))
      ∙ list_any-append test (bounds_of l (take i all)) (bound_of l (get_or all i e) ∷ [])
      ∙ ap (λ (b : Bool). list_any test (bounds_of l (take i all)) || b) (go (test (bound_of l (get_or all i e))))
    where
      go : (b : Bool) → (b || false) ≡ b
      go true = refl
      go false = refl

  pub any_as_before : (e : BoundPlace) → i < length all → test (bound_of l (get_or all i e)) ≡ false → list_any test (bounds_of l (take i all)) ≡ list_any test (bounds_of l (take (i + 1) all))
  any_as_before e h t = sym (any_more e h ∙ ap (λ (b : Bool). list_any test (bounds_of l (take i all)) || b) t ∙ go (list_any test (bounds_of l (take i all))))
    where
      go : (b : Bool) → (b || false) ≡ b
      go true = refl
      go false = refl

-- ---- what the tests say of one place

pub is_body_binding : (l : PlaceList) (bounded : IsBounded (list_view l)) (b : Bound Text) (f n h : ℕ) → h < length l.scopes.items → scope_at l (Some h) ≡ home b.place.site → (is_binding b && not (names_function b.place.site)) ≡ true
    → binds_in f n b ≡ (nat_eq h f && nat_eq (node b.place) n)
unfolding binds_in is_scope
is_body_binding l bounded b f n h below e t =
    let w : Next (scope_at l) h = scope_outwards l bounded h below in
    go (is_binding b) (names_function b.place.site) (nat_eq (node b.place) n) (is_scope f (home b.place.site)) t
    ∙ ap (λ (x : Bool). x && nat_eq (node b.place) n) (ap (is_scope f) (sym e ∙ w.1.0) ∙ nat_eq_flips f h)
  where
    go : (a c x y : Bool) → (a && not c) ≡ true → (((a && x) && y) && not c) ≡ (y && x)
    go true false true true t = refl
    go true false true false t = refl
    go true false false true t = refl
    go true false false false t = refl
    go true true x y t = absurd (both_ways _ refl t)
    go false c x y t = absurd (both_ways _ refl t)

-- outside all scopes nothing is bound in one
pub no_scope_binding : (b : Bound Text) (f n : ℕ) → [] ≡ home b.place.site → binds_in f n b ≡ false
unfolding binds_in is_scope
no_scope_binding b f n e = ap (λ (s : Scope). ((is_binding b && nat_eq (node b.place) n) && is_scope f s) && not (names_function b.place.site)) (sym e) ∙ go (is_binding b && nat_eq (node b.place) n) (not (names_function b.place.site))
  where
    go : (x y : Bool) → ((x && false) && y) ≡ false
    go true y = refl
    go false y = refl

pub is_no_body_binding : (b : Bound Text) (f n : ℕ) → (is_binding b && not (names_function b.place.site)) ≡ false → binds_in f n b ≡ false
unfolding binds_in
is_no_body_binding b f n t = go (is_binding b) (names_function b.place.site) (nat_eq (node b.place) n) (is_scope f (home b.place.site)) t
  where
    go : (a c x y : Bool) → (a && not c) ≡ false → (((a && x) && y) && not c) ≡ false
    go true true true true t = refl
    go true true true false t = refl
    go true true false y t = refl
    go true false x y t = absurd (both_ways _ t refl)
    go false c x y t = refl

pub or_after : (t h : Bool) → cond t true h ≡ (h || t)
or_after true true = refl
or_after true false = refl
or_after false true = refl
or_after false false = refl

-- ---- a place that refers

module _ (bs : List (Bound Text)) (p : Bound Text) where
  pub no_reference : refers p.place.site ≡ false → reaches_body bs p ≡ false
  unfolding reaches_body
  no_reference r = rw r refl

  pub unbound_reference : p.binding ≡ None → reaches_body bs p ≡ false
  unfolding reaches_body
  unbound_reference e = rw e (go (refers p.place.site))
    where
      go : (b : Bool) → (b && false) ≡ false
      go true = refl
      go false = refl

  pub bound_reference : refers p.place.site ≡ true → (n : ℕ) → p.binding ≡ Some n → (test : ℕ → Bool) → ((f : ℕ) → test f ≡ (list_any (binds_in f n) bs && not (list_any (declares_in_head f n) bs)))
      → list_any test p.place.site.setting.heads ≡ reaches_body bs p
  unfolding reaches_body is_of_body
  bound_reference r n e test same = any_same test (is_of_body bs n) p.place.site.setting.heads (λ f i. same f) ∙ sym (rw (r, e) refl)

-- ---- a step of the loops that make the sets

module _ (l : PlaceList) (all : List BoundPlace) (i : ℕ) (e : BoundPlace) (within : i < length all) (has : ℕ → ℕ → Bool) where
  module _ (so_far : (f n : ℕ) → has f n ≡ list_any (binds_in f n) (bounds_of l (take i all))) (stand : Stands l (get_or all i e).place)
      (o : Option ℕ) (told : o ≡ body_scope l (get_or all i e)) where
    body_put : (h : ℕ) → o ≡ Some h → (t : Bool) → (is_binding (bound_of l (get_or all i e)) && not (names_function (bound_of l (get_or all i e)).place.site)) ≡ t
        → (f n : ℕ) → binds_in f n (bound_of l (get_or all i e)) ≡ (nat_eq h f && nat_eq (get_or all i e).place.node n)
    unfolding body_scope bound_of place_of site_of node
    body_put h is true t f n =
        let here : Some h ≡ home_number (get_or all i e).place = sym is ∙ told ∙ ap (λ (b : Bool). if b then home_number (get_or all i e).place else None) t in
        let known : IsScope l (Some h) = subst (IsScope l) (sym here) (home_is_known l (get_or all i e).place stand) in
        is_body_binding l stand.bounded (bound_of l (get_or all i e)) f n h known (ap (scope_at l) here ∙ home_at l (get_or all i e).place) t
    body_put h is false t f n = absurd (let none : Some h ≡ None = sym is ∙ told ∙ ap (λ (b : Bool). if b then home_number (get_or all i e).place else None) t in cc)

    body_none : o ≡ None → (t : Bool) → (is_binding (bound_of l (get_or all i e)) && not (names_function (bound_of l (get_or all i e)).place.site)) ≡ t
        → (f n : ℕ) → binds_in f n (bound_of l (get_or all i e)) ≡ false
    unfolding body_scope bound_of place_of site_of
    body_none is true t f n =
        let here : None ≡ home_number (get_or all i e).place = sym is ∙ told ∙ ap (λ (b : Bool). if b then home_number (get_or all i e).place else None) t in
        no_scope_binding (bound_of l (get_or all i e)) f n (sym (none_outside (lists_in l).scopes) ∙ ap (scope_at l) here ∙ home_at l (get_or all i e).place)
    body_none is false t f n = is_no_body_binding (bound_of l (get_or all i e)) f n t

    pub body_taken : (h : ℕ) → o ≡ Some h → (has' : ℕ → ℕ → Bool) → ((f n : ℕ) → has' f n ≡ cond (nat_eq h f && nat_eq (get_or all i e).place.node n) true (has f n))
        → (f n : ℕ) → has' f n ≡ list_any (binds_in f n) (bounds_of l (take (i + 1) all))
    body_taken h is has' put f n =
        put f n
        ∙ or_after (nat_eq h f && nat_eq (get_or all i e).place.node n) (has f n)
        ∙ ap (λ (b : Bool). b || (nat_eq h f && nat_eq (get_or all i e).place.node n)) (so_far f n)
        ∙ ap (λ (b : Bool). list_any (binds_in f n) (bounds_of l (take i all)) || b) (sym (body_put h is _ refl f n))
        ∙ sym (any_more l (binds_in f n) all i e within)

    pub body_passed : o ≡ None → (f n : ℕ) → has f n ≡ list_any (binds_in f n) (bounds_of l (take (i + 1) all))
    body_passed is f n = so_far f n ∙ any_as_before l (binds_in f n) all i e within (body_none is _ refl f n)

  module _ (so_far : (f n : ℕ) → has f n ≡ list_any (declares_in_head f n) (bounds_of l (take i all)))
      (o : Option ℕ) (told : (n : ℕ) → is_node o n ≡ (declares (bound_of l (get_or all i e)).place.site && is_node (bound_of l (get_or all i e)).binding n)) where
    pub heads_put : (m : ℕ) → o ≡ Some m → (has' : ℕ → ℕ → Bool) → ((f n : ℕ) → has' f n ≡ (has f n || (nat_eq m n && contains (bound_of l (get_or all i e)).place.site.setting.heads f)))
        → (f n : ℕ) → has' f n ≡ list_any (declares_in_head f n) (bounds_of l (take (i + 1) all))
    unfolding declares_in_head is_node
    heads_put m s has' put f n =
        put f n
        ∙ ap (λ (b : Bool). b || (nat_eq m n && contains (bound_of l (get_or all i e)).place.site.setting.heads f)) (so_far f n)
        ∙ ap (λ (b : Bool). list_any (declares_in_head f n) (bounds_of l (take i all)) || (b && contains (bound_of l (get_or all i e)).place.site.setting.heads f)) (sym (ap (λ p. is_node p n) s) ∙ told n)
        ∙ sym (any_more l (declares_in_head f n) all i e within)

    pub heads_passed : o ≡ None → (f n : ℕ) → has f n ≡ list_any (declares_in_head f n) (bounds_of l (take (i + 1) all))
    unfolding declares_in_head is_node
    heads_passed s f n =
        so_far f n
        ∙ any_as_before l (declares_in_head f n) all i e within
        (ap (λ (b : Bool). b && contains (bound_of l (get_or all i e)).place.site.setting.heads f) (sym (sym (ap (λ p. is_node p n) s) ∙ told n)))

-- ---- places whose numbers are known

pub none_stand : (l : PlaceList) (bs : List BoundPlace) → bs ≡ [] → AllBoundStand l bs
none_stand l bs e b i = absurd (let h : i.0 < length bs = i.1 in let n : length bs ≡ 0 = ap length e in omega (arith, h, n))

contains_one : (b c : BoundPlace) → Contains (b ∷ []) c → c ≡ b
contains_one b c i = go i.0 i.1 i.2
  where
    go : (k : ℕ) → k < length (b ∷ []) → get_or (b ∷ []) k c ≡ c → c ≡ b
    go zero h e = sym e
    go (suc k) h e = absurd (omega (arith, h))

last_or_before : (bs : List BoundPlace) (b c : BoundPlace) → Contains (bs ++ b ∷ []) c → (Contains bs c) ⊎ (c ≡ b)
last_or_before bs b c i = found (Contains-append_cases bs (b ∷ []) c i)
  where
    found : (Contains bs c) ⊎ (Contains (b ∷ []) c) → (Contains bs c) ⊎ (c ≡ b)
    found (inl i) = inl i
    found (inr i) = inr (contains_one b c i)

pub one_more_stands : (l : PlaceList) (bs : List BoundPlace) (b : BoundPlace) → Stands l b.place → AllBoundStand l bs → (cs : List BoundPlace) → cs ≡ bs ++ b ∷ [] → AllBoundStand l cs
one_more_stands l bs b s a cs e c i = found (last_or_before bs b c (subst (λ (ds : List BoundPlace). Contains ds c) e i))
  where
    found : (Contains bs c) ⊎ (c ≡ b) → Stands l c.place
    found (inl i) = a c i
    found (inr same) = subst (λ (d : BoundPlace). Stands l d.place) (sym same) s
