-- The faults of each place, with those before it.
use Rattle.std.specs.Prelude.{◌≡◌, ◌+◌, ◌<◌, ℕ, zero, suc, Bool, ◌||◌, List, [], ◌∷◌, ◌++◌, length, take, get_or, slice_get, Option, Some, None, IfSome}
use Rattle.std.specs.List.{list_any}
use Rattle.std.proofs.Common.{refl, sym, ap, ◌∙◌, append_assoc}
use Rattle.std.proofs.lemmas.List.{append-nil, get_or_default, length-map, map-append, take_more}
use Rattle.list_laws.proofs.AnyOf.{any_map}
use Rattle.list_laws.proofs.Tests.{some_one}
use Rattle.place_list.proofs.PlacesStand.{mapped_at, read_at}
use Rattle.place_list.specs.TableViews.{place_in}
use Rattle.place_list.specs.declared.tables.PlaceEntry.{PlaceEntry}
use Rattle.place_list.specs.declared.tables.PlaceList.{PlaceList}
use Rattle.scope_rules.proofs.Redeclarations.{some_place_redeclares, some_redeclaration}
use Rattle.scope_rules.specs.Bindings.{Bound, binding, bound, same_name}
use Rattle.scope_rules.specs.Faults.{crosses, has_crossing, has_reach, has_sloppy_function, has_undeclared, is_sloppy_function, is_undeclared, reaches_body}
use Rattle.scope_tables.specs.FaultsOf.{AreFaults, each_after, faults_of, place_faults}
use Rattle.scope_tables.specs.Views.{bound_of, bounds_of, places_of}
use Rattle.scope_tables.specs.declared.bound.BoundPlace.{BoundPlace}
use Rattle.scope_tables.specs.declared.faults.Faults.{Faults}
use Rattle.tree_nodes.specs.Tree.{Text}
use Rattle.tree_places.specs.Places.{Place}

read_or : {X : Type 0} (xs : List X) (i : ℕ) (d : X) → i < length xs → slice_get xs i ≡ Some (get_or xs i d)
read_or xs i d h = read_at xs i (get_or xs i d) h (sym (get_or_default xs i (get_or xs i d) d h))

module _ {X Y : Type 0} (f : List X → X → Y) where
  each_more : (before xs : List X) (x : X) → each_after f before (xs ++ x ∷ []) ≡ each_after f before xs ++ f (before ++ xs) x ∷ []
  unfolding each_after
  each_more before [] x = ap (λ b. f b x ∷ []) (sym (append-nil before))
  each_more before (y ∷ xs) x =
      ap (λ zs. f before y ∷ zs) (each_more (before ++ y ∷ []) xs x ∙ ap (λ b. each_after f (before ++ y ∷ []) xs ++ f b x ∷ []) (append_assoc before (y ∷ []) xs))

  each_at : (before xs : List X) (i : ℕ) (x : X) → slice_get xs i ≡ Some x → slice_get (each_after f before xs) i ≡ Some (f (before ++ take i xs) x)
  unfolding each_after
  each_at before [] i x e = absurd (cc)
  each_at before (y ∷ xs) zero x e = let same : y ≡ x = cc in ap (λ z. Some (f before z)) same ∙ ap (λ b. Some (f b x)) (sym (append-nil before))
  each_at before (y ∷ xs) (suc i) x e = each_at (before ++ y ∷ []) xs i x e ∙ ap (λ b. Some (f b x)) (append_assoc before (y ∷ []) (take i xs))

  each_one : (before xs : List X) → length (each_after f before xs) ≡ length xs
  unfolding each_after
  each_one before [] = refl
  each_one before (x ∷ xs) = ap suc (each_one (before ++ x ∷ []) xs)

  any_each : (g : Y → Bool) (test : X → Bool) → ((before : List X) (x : X) → g (f before x) ≡ test x) → (before xs : List X) → list_any g (each_after f before xs) ≡ list_any test xs
  unfolding each_after
  any_each g test same before [] = refl
  any_each g test same before (x ∷ xs) =
      ap (λ (b : Bool). b || list_any g (each_after f (before ++ x ∷ []) xs)) (same before x) ∙ ap (λ (b : Bool). test x || b) (any_each g test same (before ++ x ∷ []) xs)

-- ---- the faults of all places, by those of each

module _ (ps : List Place) where
  any_redeclaration : (before xs : List Place) → list_any (λ f. f.redeclaration) (each_after (faults_of ps) before xs) ≡ some_redeclaration same_name before xs
  unfolding each_after faults_of some_redeclaration
  any_redeclaration before [] = refl
  any_redeclaration before (x ∷ xs) = ap (λ (b : Bool). (faults_of ps before x).redeclaration || b) (any_redeclaration (before ++ x ∷ []) xs)

  any_crossing : (before : List Place) (p : Place) → (faults_of ps before p).crossing ≡ crosses same_name ps p
  unfolding faults_of
  any_crossing before p = refl

  any_sloppy_function : (before : List Place) (p : Place) → (faults_of ps before p).sloppy_function ≡ is_sloppy_function p.site
  unfolding faults_of
  any_sloppy_function before p = refl

  any_undeclared : (before : List Place) (p : Place) → (faults_of ps before p).undeclared ≡ is_undeclared same_name ps p
  unfolding faults_of
  any_undeclared before p = refl

  with_binding : Place → Bound Text
  with_binding p = record { place = p; binding = binding same_name ps p }

  any_reach : (before : List Place) (p : Place) → (faults_of ps before p).reach ≡ reaches_body (bound same_name ps) (with_binding p)
  unfolding faults_of with_binding
  any_reach before p = refl

  pub faults_are : (fs : List Faults) (f : Faults) → fs ≡ place_faults ps → f.redeclaration ≡ list_any (λ g. g.redeclaration) fs → f.crossing ≡ list_any (λ g. g.crossing) fs
      → f.sloppy_function ≡ list_any (λ g. g.sloppy_function) fs → f.undeclared ≡ list_any (λ g. g.undeclared) fs → f.reach ≡ list_any (λ g. g.reach) fs → AreFaults ps f
  unfolding place_faults has_crossing has_sloppy_function has_undeclared has_reach bound with_binding
  faults_are fs f is r c s u b = record {
    redeclaration = r ∙ ap (list_any (λ (g : Faults). g.redeclaration)) is ∙ any_redeclaration [] ps ∙ sym (some_place_redeclares same_name ps);
    crossing = c ∙ ap (list_any (λ (g : Faults). g.crossing)) is ∙ any_each (faults_of ps) (λ (g : Faults). g.crossing) (crosses same_name ps) any_crossing [] ps;
    sloppy_function = s ∙ ap (list_any (λ (g : Faults). g.sloppy_function)) is ∙ any_each (faults_of ps) (λ (g : Faults). g.sloppy_function) (λ p. is_sloppy_function p.site) any_sloppy_function [] ps;
    undeclared = u ∙ ap (list_any (λ (g : Faults). g.undeclared)) is ∙ any_each (faults_of ps) (λ (g : Faults). g.undeclared) (is_undeclared same_name ps) any_undeclared [] ps;
    reach = b ∙ ap (list_any (λ (g : Faults). g.reach)) is ∙ any_each (faults_of ps) (λ (g : Faults). g.reach) (λ p. reaches_body (bound same_name ps) (with_binding p)) any_reach [] ps
        ∙ sym (any_map with_binding (reaches_body (bound same_name ps)) ps);
  }

  -- ---- those of one place, read out

  pub faults_read : (fs : List Faults) (i : ℕ) (f : Faults) → fs ≡ place_faults ps → slice_get fs i ≡ Some f → IfSome (slice_get ps i) (λ p. f ≡ faults_of ps (take i ps) p)
  unfolding place_faults
  faults_read fs i f is read = go (slice_get ps i) refl
    where
      go : (o : Option Place) → slice_get ps i ≡ o → IfSome o (λ p. f ≡ faults_of ps (take i ps) p)
      go None e = tt
      go (Some p) e = some_one _ _ (sym read ∙ ap (λ gs. slice_get gs i) is ∙ each_at (faults_of ps) [] ps i p e)

pub faults_count : (l : PlaceList) (fs : List Faults) → fs ≡ place_faults (places_of l l.places.items) → length fs ≡ length l.places.items
unfolding place_faults
faults_count l fs is = ap length is ∙ each_one (faults_of (places_of l l.places.items)) [] (places_of l l.places.items) ∙ length-map l.places.items (place_in l)

-- ---- one place after another

module _ (l : PlaceList) (all : List PlaceEntry) (i : ℕ) (e : PlaceEntry) (h : i < length all) where
  pub faults_more : (found more : List Faults) (f : Faults) → found ≡ each_after (faults_of (places_of l all)) [] (places_of l (take i all))
      → f ≡ faults_of (places_of l all) (places_of l (take i all)) (place_in l (get_or all i e)) → more ≡ found ++ f ∷ []
      → more ≡ each_after (faults_of (places_of l all)) [] (places_of l (take (i + 1) all))
  faults_more found more f so_far is pushed =
      pushed
      ∙ ap (λ gs. gs ++ f ∷ []) so_far
      ∙ ap (λ g. each_after (faults_of (places_of l all)) [] (places_of l (take i all)) ++ g ∷ []) is
      ∙ sym (ap (λ es. each_after (faults_of (places_of l all)) [] (places_of l es)) (take_more all i e h)
      ∙ ap (each_after (faults_of (places_of l all)) []) (map-append (place_in l) (take i all) (get_or all i e ∷ []))
      ∙ each_more (faults_of (places_of l all)) [] (places_of l (take i all)) (place_in l (get_or all i e)))

-- ---- the bindings of places

module _ (l : PlaceList) (bs : List BoundPlace) (es : List PlaceEntry) (are : bounds_of l bs ≡ bound same_name (places_of l es)) where
  pub bound_count : length bs ≡ length es
  unfolding bound
  bound_count =
      sym (length-map bs (bound_of l)) ∙ ap length are ∙ length-map (places_of l es) (λ (p : Place). record { place = p; binding = binding same_name (places_of l es) p }) ∙ length-map es (place_in l)

  pub binding_read : (i : ℕ) (d : BoundPlace) (e : PlaceEntry) → i < length bs → i < length es → (get_or bs i d).binding ≡ binding same_name (places_of l es) (place_in l (get_or es i e))
  unfolding bound bound_of
  binding_read i d e inside_bound inside =
      ap (λ (c : Bound Text). c.binding)
      (some_one _ _ (sym (mapped_at (bound_of l) bs i (get_or bs i d) (read_or bs i d inside_bound)) ∙ ap (λ cs. slice_get cs i) are
      ∙ mapped_at (λ (p : Place). record { place = p; binding = binding same_name (places_of l es) p }) (places_of l es) i (place_in l (get_or es i e)) (mapped_at (place_in l) es i (get_or es i e) (read_or es i e inside))))

-- ---- five flags

pub flags_are : {a b c d e a' b' c' d' e' : Bool} → a ≡ a' → b ≡ b' → c ≡ c' → d ≡ d' → e ≡ e'
    → ◌≡◌ {A = Faults} (record { redeclaration = a; crossing = b; sloppy_function = c; undeclared = d; reach = e }) (record { redeclaration = a'; crossing = b'; sloppy_function = c'; undeclared = d'; reach = e' })
flags_are p q r s t = rw (p, q, r, s, t) refl
