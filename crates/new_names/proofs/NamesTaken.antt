-- The names that must not be given, gathered one after another, and what a guard with them refuses.
use Rattle.std.specs.Borrow.{Bor}
use Rattle.std.specs.List.{list_any}
use Rattle.std.specs.Prelude.{◌≡◌, ◌<◌, ◌≤◌, ℕ, ◌+◌, Bool, true, false, cond, not, ◌&&◌, ◌||◌, if◌then◌else◌, List, [], ◌∷◌, ◌++◌, length, map, take, get_or, slice_get, Option, Some}
use Rattle.std.proofs.Common.{refl, sym, ap, ◌∙◌, arith, append-nil, take_all}
use Rattle.std.proofs.lemmas.Bool.{both_ways}
use Rattle.std.proofs.lemmas.List.{length-take-le, length_push, map-append, take_more}
use Rattle.std.proofs.lemmas.List.Folds.{list_any-append}
use Rattle.class_tables.proofs.Distinct.{same_flips}
use Rattle.scope_tables.proofs.BoundPlaces.{take_read}
use Rattle.syntax_lex.specs.Keyword.{is_reserved_keyword}
use Rattle.name_rules.specs.FreeNames.{is_taken, is_unchanged, is_variable}
use Rattle.name_rules.specs.Groups.{Member}
use Rattle.name_rules.specs.Kept.{is_reserved, name_arguments}
use Rattle.name_rules.specs.Options.{Options}
use Rattle.new_names.specs.Taken.{HasAll, keeps_name, staying_names}
use Rattle.free_names.specs.Guard.{HasAlso, is_never_given, is_refused}
use Rattle.scope_rules.specs.Bindings.{same_name}
use Rattle.scope_rules.specs.Evals.{name_eval}
use Rattle.scope_rules.specs.PrivateNames.{is_among}
use Rattle.tree_nodes.specs.Tree.{Text}
use Rattle.tree_places.specs.Places.{Place}

-- ---- names that are put into a guard

put_last : (s t a o : Bool) → s ≡ t → (s || (a || o)) ≡ ((a || (t || false)) || o)
put_last true true true o e = refl
put_last true true false o e = refl
put_last false false true o e = refl
put_last false false false o e = refl
put_last true false a o e = absurd (cc)
put_last false true a o e = absurd (cc)

at_most_one : (b : Bool) (new old n : ℕ) → new ≡ old + (if b then 0 else 1) → old ≤ n → new ≤ n + 1
at_most_one true new old n e h = omega (arith, e, h)
at_most_one false new old n e h = omega (arith, e, h)

pub one_fewer : (b : Bool) (new old first i : ℕ) → new ≡ old + (if b then 0 else 1) → old ≤ first + i → new ≤ first + (i + 1)
one_fewer b new old first i e h = let m : new ≤ first + i + 1 = at_most_one b new old (first + i) e h in omega (arith, m)

module _ (ns : List (Bor Text)) (i : ℕ) (old guard : List Text) (so_far : HasAll old (map (λ n. n.now) (take i ns)) guard) where
  pub one_put : (d : Bor Text) (new : List Text) → i < length ns → HasAlso guard (get_or ns i d).now new → HasAll old (map (λ n. n.now) (take (i + 1) ns)) new
  unfolding is_among
  one_put d new h also x =
      let y : Text = (get_or ns i d).now in
      let before : List Text = map (λ (n : Bor Text). n.now) (take i ns) in
      also x
      ∙ ap (λ (b : Bool). same_name y x || b) (so_far x)
      ∙ put_last (same_name y x) (same_name x y) (is_among before x) (is_among old x) (same_flips y x)
      ∙ ap (λ (b : Bool). b || is_among old x)
      (sym (list_any-append (same_name x) before (y ∷ []))
      ∙ sym (ap (λ (ms : List Text). is_among ms x) (ap (map (λ (n : Bor Text). n.now)) (take_more ns i d h) ∙ map-append (λ (n : Bor Text). n.now) (take i ns) (get_or ns i d ∷ []))))

  pub all_put : length ns ≤ i → HasAll old (map (λ n. n.now) ns) guard
  all_put h x = so_far x ∙ ap (λ (ms : List (Bor Text)). is_among (map (λ n. n.now) ms) x || is_among old x) (take_all i ns h)

-- ---- names that stay

pub one_longer : {X : Type 0} (old new : List X) (x : X) (i : ℕ) → new ≡ old ++ x ∷ [] → length old ≤ i → length new ≤ i + 1
one_longer {X} old new x i e h = let l : length new ≡ length old + 1 = ap (length {A = X}) e ∙ length_push old x in omega (arith, l, h)

pub stays_where : (variable none some asked : Bool) → asked ≡ variable → asked ≡ true → some ≡ not none → none ≡ (variable && not some)
stays_where true true some asked e f g = sym (ap not g)
stays_where true false some asked e f g = sym (ap not g)
stays_where false none some asked e f g = absurd (both_ways asked e f)

pub changes_where : (variable some asked : Bool) → asked ≡ variable → asked ≡ false → asked ≡ (variable && not some)
changes_where true some asked e f = absurd (both_ways asked f e)
changes_where false some asked e f = f

staying_push : (ps : List Place) (gs : List (Option ℕ)) (p : Place) (g : Option ℕ) → length ps ≡ length gs → staying_names (ps ++ p ∷ []) (gs ++ g ∷ []) ≡ staying_names ps gs ++ cond (keeps_name p.site g) (p.name ∷ []) []
unfolding staying_names
staying_push [] [] p g h = refl
staying_push [] (f ∷ gs) p g h = absurd (omega (arith, h))
staying_push (q ∷ ps) [] p g h = absurd (omega (arith, h))
staying_push (q ∷ ps) (f ∷ gs) p g h = go (keeps_name q.site f) (staying_push ps gs p g (omega (arith, h)))
  where
    last : List Text
    last = cond (keeps_name p.site g) (p.name ∷ []) []

    go : (b : Bool) → staying_names (ps ++ p ∷ []) (gs ++ g ∷ []) ≡ staying_names ps gs ++ last
        → cond b (q.name ∷ staying_names (ps ++ p ∷ []) (gs ++ g ∷ [])) (staying_names (ps ++ p ∷ []) (gs ++ g ∷ [])) ≡ cond b (q.name ∷ staying_names ps gs) (staying_names ps gs) ++ last
    go true ih = ap (λ xs. q.name ∷ xs) ih
    go false ih = ih

module _ (ps : List Place) (gs : List (Option ℕ)) (i : ℕ) (names : List (Bor Text)) (long : length gs ≡ length ps) (so_far : map (λ n. n.now) names ≡ staying_names (take i ps) (take i gs)) where
  next : (p : Place) (d : Option ℕ) → i < length gs → slice_get ps i ≡ Some p → staying_names (take (i + 1) ps) (take (i + 1) gs) ≡ staying_names (take i ps) (take i gs) ++ cond (keeps_name p.site (get_or gs i d)) (p.name ∷ []) []
  next p d h at =
      ap (λ (qs : List Place). staying_names qs (take (i + 1) gs)) (take_read ps i p at)
      ∙ ap (staying_names (take i ps ++ p ∷ [])) (take_more gs i d h)
      ∙ staying_push (take i ps) (take i gs) p (get_or gs i d) (omega (arith, length-take-le i ps (omega (arith, h, long)), length-take-le i gs (omega (arith, h))))

  pub one_stays : (p : Place) (d : Option ℕ) (b : Bor Text) (new : List (Bor Text)) → i < length gs → slice_get ps i ≡ Some p → keeps_name p.site (get_or gs i d) ≡ true → b.now ≡ p.name → new ≡ names ++ b ∷ []
      → map (λ n. n.now) new ≡ staying_names (take (i + 1) ps) (take (i + 1) gs)
  one_stays p d b new h at keeps e put =
      ap (map (λ (n : Bor Text). n.now)) put
      ∙ map-append (λ (n : Bor Text). n.now) names (b ∷ [])
      ∙ ap (λ (xs : List Text). xs ++ b.now ∷ []) so_far
      ∙ ap (λ (x : Text). staying_names (take i ps) (take i gs) ++ x ∷ []) e
      ∙ sym (next p d h at ∙ ap (λ (c : Bool). staying_names (take i ps) (take i gs) ++ cond c (p.name ∷ []) []) keeps)

  pub one_changes : (p : Place) (d : Option ℕ) → i < length gs → slice_get ps i ≡ Some p → keeps_name p.site (get_or gs i d) ≡ false → map (λ n. n.now) names ≡ staying_names (take (i + 1) ps) (take (i + 1) gs)
  one_changes p d h at changes =
      so_far
      ∙ sym (append-nil (staying_names (take i ps) (take i gs)))
      ∙ sym (next p d h at ∙ ap (λ (c : Bool). staying_names (take i ps) (take i gs) ++ cond c (p.name ∷ []) []) changes)

  pub all_staying : length gs ≤ i → map (λ n. n.now) names ≡ staying_names ps gs
  all_staying h =
      so_far
      ∙ ap (λ (qs : List Place). staying_names qs (take i gs)) (take_all i ps (omega (arith, h, long)))
      ∙ ap (staying_names ps) (take_all i gs h)

-- ---- what a guard with the reserved names and those that stay refuses

pub both_put : (reserved staying rs ss none first guard : List Text) → rs ≡ reserved → ss ≡ staying → none ≡ [] → HasAll none rs first → HasAll first ss guard → (x : Text) → is_among guard x ≡ (is_among staying x || is_among reserved x)
unfolding is_among
both_put reserved staying rs ss none first guard r s e one two x =
    two x
    ∙ ap (λ (ns : List Text). is_among ns x || is_among first x) s
    ∙ ap (λ (b : Bool). is_among staying x || b)
    (one x
    ∙ ap (λ (ns : List Text). is_among ns x || is_among none x) r
    ∙ ap (λ (ns : List Text). is_among reserved x || is_among ns x) e
    ∙ or_nothing (is_among reserved x))
  where
    or_nothing : (b : Bool) → (b || false) ≡ b
    or_nothing true = refl
    or_nothing false = refl

among_staying : (ms : List Member) (x : Text) → is_among (staying_names (map (λ m. m.place) ms) (map (λ m. m.group) ms)) x ≡ list_any (λ m. is_unchanged m && same_name m.place.name x) ms
unfolding is_among staying_names keeps_name is_unchanged is_variable
among_staying [] x = refl
among_staying (m ∷ ms) x = go (is_unchanged m) (among_staying ms x)
  where
    rest : List Text
    rest = staying_names (map (λ m. m.place) ms) (map (λ m. m.group) ms)

    go : (b : Bool) → is_among rest x ≡ list_any (λ m. is_unchanged m && same_name m.place.name x) ms
        → is_among (cond b (m.place.name ∷ rest) rest) x ≡ ((b && same_name m.place.name x) || list_any (λ m. is_unchanged m && same_name m.place.name x) ms)
    go true ih = ap (λ (c : Bool). c || is_among rest x) (same_flips x m.place.name) ∙ ap (λ (c : Bool). same_name m.place.name x || c) ih
    go false ih = ih

in_turn : (k e a r t : Bool) → ((k || e || a) || (t || r)) ≡ (k || e || (a || r) || t)
in_turn true e a r t = refl
in_turn false true a r t = refl
in_turn false false true r t = refl
in_turn false false false true true = refl
in_turn false false false true false = refl
in_turn false false false false true = refl
in_turn false false false false false = refl

pub refuses_taken : (o : Options) (ms : List Member) (guard : List Text) → ((x : Text) → is_among guard x ≡ (is_among (staying_names (map (λ m. m.place) ms) (map (λ m. m.group) ms)) x || is_among o.reserved x)) → (x : Text) → is_refused guard x ≡ is_taken o ms x
unfolding is_refused is_never_given is_taken is_reserved
refuses_taken o ms guard told x =
    ap (λ (b : Bool). is_never_given x || b) (told x ∙ ap (λ (b : Bool). b || is_among o.reserved x) (among_staying ms x))
    ∙ in_turn (is_reserved_keyword x) (same_name x name_eval) (same_name x name_arguments) (is_among o.reserved x) (list_any (λ m. is_unchanged m && same_name m.place.name x) ms)
