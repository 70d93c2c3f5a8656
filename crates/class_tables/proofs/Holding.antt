-- The tables of class bodies, one place after another.
use Rattle.std.specs.Prelude.{◌≡◌, ◌+◌, ◌<◌, ◌≤◌, ℕ, map, take, drop, zero, suc, Bool, true, false, not, ◌&&◌, nat_eq, get_or, List, [], ◌∷◌, ◌++◌, length, Option, Some, None, is_some, option_map, slice_get, if◌then◌else◌}
use Rattle.std.proofs.Common.{refl, sym, ap, ◌∙◌, subst, arith, set, take_all}
use Rattle.std.proofs.lemmas.Bool.{eqb-true, eqb-false}
use Rattle.std.proofs.lemmas.List.{get_or_default, get_or-set_same, length-map, length-set, length-take, map-append, take_more}
use Rattle.std.proofs.lemmas.Option.{slice_get-get_or}
use Rattle.std.specs.Borrow.{Bor}
use Rattle.tree_nodes.specs.Tree.{Text}
use Rattle.tree_places.specs.Places.{Place}
use Rattle.scope_rules.specs.Bindings.{is_node, or_else, same_name}
use Rattle.scope_rules.specs.PrivateNames.{distinct, distinct_after, is_among, is_innermost, is_member_key}
use Rattle.class_tables.specs.Outwards.{chain, chain_from, outer, steps}
use Rattle.class_tables.specs.Sights.{AreOf, Sight, sight, declares_in, declares_name, names_in, node_in, sight_of}
use Rattle.class_tables.specs.Tables.{Declares, DeclaresIn, Hold, at, declared_at, names_at, names_of, place_in}
use Rattle.class_tables.specs.declared.class_table.ClassTable.{ClassTable}
use Rattle.class_tables.specs.declared.class_table.Declared.{Declared}
use Rattle.place_list.specs.declared.tables.ClassEntry.{ClassEntry}
use Rattle.place_list.specs.declared.tables.PlaceEntry.{PlaceEntry}
use Rattle.class_tables.proofs.Distinct.{names_few, names_more, node_more, place_more, place_told, same_flips}
use Rattle.class_tables.proofs.Puts.{put_present}

some_kept : {X Y : Type 0} (f : X → Y) (o : Option X) → is_some (option_map f o) ≡ is_some o
some_kept f None = refl
some_kept f (Some x) = refl

or_kept : {X Y : Type 0} (f : X → Y) (o : Option X) (t : Bool) (x : X) → option_map f (or_else o (if t then Some x else None)) ≡ or_else (option_map f o) (if t then Some (f x) else None)
unfolding or_else
or_kept f None true x = refl
or_kept f None false x = refl
or_kept f (Some y) t x = refl

or_nothing : {X : Type 0} (o : Option X) → or_else o None ≡ o
unfolding or_else
or_nothing None = refl
or_nothing (Some x) = refl

-- which names have an entry
pub among_told : (ss : List Sight) (ts : List ClassTable) → Hold ss ts → (c : ℕ) (x : Text) → is_some (at ts c x) ≡ is_among (names_in ss c) x
among_told ss ts h c x = sym (some_kept (λ (d : Declared). d.index) (at ts c x)) ∙ ap is_some (h.index c x) ∙ place_told x (names_in ss c)

module _ (ss : List Sight) (ts ts' : List ClassTable) (h : Hold ss ts) (s : Sight) where
  pub holds_more : (c : ℕ) → DeclaresIn ts ts' c s.name s.node → ((k : ℕ) → declares_in k s ≡ nat_eq c k) → Hold (ss ++ s ∷ []) ts'
  unfolding declares_name
  holds_more c d there = record {
    names = λ k. d.names k
        ∙ ap (λ (b : Bool). if nat_eq c k && not b then names_at ts k ++ s.name ∷ [] else names_at ts k) (among_told ss ts h k s.name)
        ∙ ap (λ ns. if nat_eq c k && not (is_among (names_in ss k) s.name) then ns ++ s.name ∷ [] else ns) (h.names k)
        ∙ sym (names_now k);
    index = λ k x. ap (option_map (λ (e : Declared). e.index)) (d.at k x)
        ∙ or_kept (λ (e : Declared). e.index) (at ts k x) (nat_eq c k && same_name s.name x) (record { index = length (names_at ts k); node = s.node })
        ∙ ap (λ o. or_else o (if nat_eq c k && same_name s.name x then Some (length (names_at ts k)) else None)) (h.index k x)
        ∙ ap (λ ns. or_else (place_in x (names_in ss k)) (if nat_eq c k && same_name s.name x then Some (length ns) else None)) (h.names k)
        ∙ placed x (names_in ss k) (nat_eq c k) (is_among (names_in ss k) s.name) refl
        ∙ sym (ap (place_in x) (names_now k));
    node = λ k x. ap (option_map (λ (e : Declared). e.node)) (d.at k x)
        ∙ or_kept (λ (e : Declared). e.node) (at ts k x) (nat_eq c k && same_name s.name x) (record { index = length (names_at ts k); node = s.node })
        ∙ ap (λ o. or_else o (if nat_eq c k && same_name s.name x then Some s.node else None)) (h.node k x)
        ∙ ap (λ (b : Bool). or_else (node_in ss k x) (if b && same_name s.name x then Some s.node else None)) (sym (there k))
        ∙ sym (node_more ss s k x);
  }
    where
      names_now : (k : ℕ) → names_in (ss ++ s ∷ []) k ≡ (if nat_eq c k && not (is_among (names_in ss k) s.name) then names_in ss k ++ s.name ∷ [] else names_in ss k)
      names_now k = names_more ss s k ∙ ap (λ (b : Bool). if b && not (is_among (names_in ss k) s.name) then names_in ss k ++ s.name ∷ [] else names_in ss k) (there k)

      placed : (x : Text) (ns : List Text) (here : Bool) (among : Bool) → is_among ns s.name ≡ among
          → or_else (place_in x ns) (if here && same_name s.name x then Some (length ns) else None) ≡ place_in x (if here && not among then ns ++ s.name ∷ [] else ns)
      placed x ns false among e = or_nothing (place_in x ns)
      placed x ns true true e = sym (put_present (λ y. place_in y ns) s.name (length ns) (place_told s.name ns ∙ e) x)
      placed x ns true false e = ap (λ (b : Bool). or_else (place_in x ns) (if b then Some (length ns) else None)) (same_flips s.name x) ∙ sym (place_more x ns s.name)

  pub holds_still : ((k : ℕ) → declares_in k s ≡ false) → Hold (ss ++ s ∷ []) ts
  unfolding declares_name
  holds_still not_there = record {
    names = λ k. h.names k ∙ sym (names_now k);
    index = λ k x. h.index k x ∙ sym (ap (place_in x) (names_now k));
    node = λ k x. h.node k x ∙ sym (node_more ss s k x ∙ ap (λ (b : Bool). or_else (node_in ss k x) (if b && same_name s.name x then Some s.node else None)) (not_there k) ∙ or_nothing (node_in ss k x));
  }
    where
      names_now : (k : ℕ) → names_in (ss ++ s ∷ []) k ≡ names_in ss k
      names_now k = names_more ss s k ∙ ap (λ (b : Bool). if b && not (is_among (names_in ss k) s.name) then names_in ss k ++ s.name ∷ [] else names_in ss k) (not_there k)

-- ---- where an entry declares

-- the innermost class body is the one from which they go outwards
innermost_is_first : (next : ℕ → Option ℕ) (o : Option ℕ) (c : ℕ) → is_innermost c (chain_from next o) ≡ is_node o c
unfolding is_innermost chain_from chain steps is_node
innermost_is_first next None c = refl
innermost_is_first next (Some k) c = refl

pub declares_by : (bodies : List ClassEntry) (e : PlaceEntry) (k : ℕ) (b : Bool) → b ≡ (e.private && is_member_key e.setting.role) → declares_in k (sight_of bodies e) ≡ (b && is_node e.setting.class_body k)
unfolding declares_in sight_of
declares_by bodies e k b p = ap (λ (t : Bool). t && is_innermost k (chain_from (outer bodies) e.setting.class_body)) (sym p) ∙ ap (λ (t : Bool). b && t) (innermost_is_first (outer bodies) e.setting.class_body k)

-- ---- one class body's table is another

data Set (ts : List ClassTable) (c : ℕ) (t : ClassTable) (k : ℕ) : Type 0 where
  here : nat_eq c k ≡ true → slice_get (set ts c t) k ≡ Some t → slice_get ts k ≡ Some (get_or ts c t) → Set ts c t k
  elsewhere : nat_eq c k ≡ false → slice_get (set ts c t) k ≡ slice_get ts k → Set ts c t k

set_told : (ts : List ClassTable) (c : ℕ) (t : ClassTable) (k : ℕ) → c < length ts → Set ts c t k
set_told ts c t k h = go (nat_eq c k) refl
  where
    at_c : slice_get (set ts c t) c ≡ Some t
    at_c = slice_get-get_or (set ts c t) c t (let l = length-set ts c t in omega arith) ∙ ap Some (get_or-set_same ts c t t h)

    other : (rs : List ClassTable) (i j : ℕ) → (i ≡ j → ⊥) → slice_get (set rs i t) j ≡ slice_get rs j
    other [] i j d = refl
    other (r ∷ rs) zero zero d = absurd (d refl)
    other (r ∷ rs) zero (suc j) d = refl
    other (r ∷ rs) (suc i) zero d = refl
    other (r ∷ rs) (suc i) (suc j) d = other rs i j (λ e. d (ap (λ (n : ℕ). suc n) e))

    go : (b : Bool) → nat_eq c k ≡ b → Set ts c t k
    go true e = let s : c ≡ k = eqb-true c k e in
        here e (subst (λ (n : ℕ). slice_get (set ts c t) n ≡ Some t) s at_c) (subst (λ (n : ℕ). slice_get ts n ≡ Some (get_or ts c t)) s (slice_get-get_or ts c t h))
    go false e = elsewhere e (other ts c k (eqb-false c k e))

abbrev named : Option ClassTable → List Text
named o = elim o [ None ↦ [] | Some t ↦ names_of t ]

abbrev entry : Text → Option ClassTable → Option Declared
entry x o = elim o [ None ↦ None | Some t ↦ declared_at t x ]

-- a table is short where all are
pub short_names : (ts : List ClassTable) (c m : ℕ) (d : ClassTable) → c < length ts → ((k : ℕ) → length (names_at ts k) < m) → length (get_or ts c d).names.items < m
unfolding names_at
short_names ts c m d h few =
    let e = length-map (get_or ts c d).names.items (λ (n : Bor Text). n.now) in
    let l = few c in
    subst (λ (n : ℕ). n < m) (ap (λ o. length (named o)) (slice_get-get_or ts c d h) ∙ e) l

pub declares_set : (ts : List ClassTable) (c : ℕ) (t d : ClassTable) (n : Text) (node : ℕ) → c < length ts → Declares (get_or ts c d) t n node → DeclaresIn ts (set ts c t) c n node
unfolding names_at at
declares_set ts c t d n node h one = record { names = λ k. names k (set_told ts c t k h); at = λ k x. place k x (set_told ts c t k h) }
  where
    is_one : get_or ts c d ≡ get_or ts c t
    is_one = get_or_default ts c d t h

    flipped : (b : Bool) (ns : List Text) → (if b then ns else ns ++ n ∷ []) ≡ (if not b then ns ++ n ∷ [] else ns)
    flipped true ns = refl
    flipped false ns = refl

    names : (k : ℕ) → Set ts c t k → names_at (set ts c t) k ≡ (if nat_eq c k && not (is_some (at ts k n)) then names_at ts k ++ n ∷ [] else names_at ts k)
    names k (here e p q) =
        ap named p ∙ one.names ∙ flipped (is_some (declared_at (get_or ts c d) n)) (names_of (get_or ts c d))
        ∙ sym (ap (λ (b : Bool). if b && not (is_some (entry n (slice_get ts k))) then named (slice_get ts k) ++ n ∷ [] else named (slice_get ts k)) e
        ∙ ap (λ o. if not (is_some (entry n o)) then named o ++ n ∷ [] else named o) (q ∙ ap Some (sym is_one)))
    names k (elsewhere e p) = ap named p ∙ sym (ap (λ (b : Bool). if b && not (is_some (entry n (slice_get ts k))) then named (slice_get ts k) ++ n ∷ [] else named (slice_get ts k)) e)

    place : (k : ℕ) (x : Text) → Set ts c t k → at (set ts c t) k x ≡ or_else (at ts k x) (if nat_eq c k && same_name n x then Some (record { index = length (names_at ts k); node = node }) else None)
    place k x (here e p q) =
        ap (entry x) p ∙ one.at x
        ∙ sym (ap (λ (b : Bool). or_else (entry x (slice_get ts k)) (if b && same_name n x then Some (record { index = length (named (slice_get ts k)); node = node }) else None)) e
        ∙ ap (λ o. or_else (entry x o) (if same_name n x then Some (record { index = length (named o); node = node }) else None)) (q ∙ ap Some (sym is_one)))
    place k x (elsewhere e p) =
        ap (entry x) p ∙ sym (or_nothing (entry x (slice_get ts k)))
        ∙ sym (ap (λ (b : Bool). or_else (entry x (slice_get ts k)) (if b && same_name n x then Some (record { index = length (named (slice_get ts k)); node = node }) else None)) e)

-- ---- tables of nothing

pub nothing_held : (ts : List ClassTable) → ((c : ℕ) → names_at ts c ≡ []) → ((c : ℕ) (x : Text) → at ts c x ≡ None) → Hold [] ts
unfolding names_in node_in distinct distinct_after place_in
nothing_held ts n a = record {
  names = n;
  index = λ c x. ap (option_map (λ (d : Declared). d.index)) (a c x);
  node = λ c x. ap (option_map (λ (d : Declared). d.node)) (a c x);
}

names_pushed : (ts : List ClassTable) (t : ClassTable) → names_of t ≡ [] → ((c : ℕ) → names_at ts c ≡ []) → (c : ℕ) → names_at (ts ++ t ∷ []) c ≡ []
unfolding names_at
names_pushed [] t e n zero = e
names_pushed [] t e n (suc c) = refl
names_pushed (r ∷ rs) t e n zero = n 0
names_pushed (r ∷ rs) t e n (suc c) = names_pushed rs t e (λ k. n (suc k)) c

at_pushed : (x : Text) (ts : List ClassTable) (t : ClassTable) → declared_at t x ≡ None → ((c : ℕ) → at ts c x ≡ None) → (c : ℕ) → at (ts ++ t ∷ []) c x ≡ None
unfolding at
at_pushed x [] t e n zero = e
at_pushed x [] t e n (suc c) = refl
at_pushed x (r ∷ rs) t e n zero = n 0
at_pushed x (r ∷ rs) t e n (suc c) = at_pushed x rs t e (λ k. n (suc k)) c

pub record AreEmpty (ts : List ClassTable) : Type 0 where
  pub names : (c : ℕ) → names_at ts c ≡ []
  pub at : (c : ℕ) (x : Text) → at ts c x ≡ None

pub empty_pushed : (ts : List ClassTable) (t : ClassTable) → names_of t ≡ [] → ((x : Text) → declared_at t x ≡ None) → AreEmpty ts → AreEmpty (ts ++ t ∷ [])
empty_pushed ts t n a h = record { names = names_pushed ts t n h.names; at = λ c x. at_pushed x ts t (a x) (λ k. h.at k x) c }

pub none_empty : AreEmpty []
unfolding names_at at
none_empty = record { names = λ c. refl; at = λ c x. refl }

-- ---- a loop over all places

pub sights_more : (bodies : List ClassEntry) (es : List PlaceEntry) (i : ℕ) (d : PlaceEntry) → i < length es
    → map (sight_of bodies) (take (i + 1) es) ≡ map (sight_of bodies) (take i es) ++ sight_of bodies (get_or es i d) ∷ []
sights_more bodies es i d h = ap (map (sight_of bodies)) (take_more es i d h) ∙ map-append (sight_of bodies) (take i es) (get_or es i d ∷ [])

pub few_names : (bodies : List ClassEntry) (es : List PlaceEntry) (i m : ℕ) (ts : List ClassTable) → length es < m → Hold (map (sight_of bodies) (take i es)) ts → (c : ℕ) → length (names_at ts c) < m
few_names bodies es i m ts h held c =
    let e = ap length (held.names c) in
    let a = names_few (map (sight_of bodies) (take i es)) c in
    let b = length-map (take i es) (sight_of bodies) in
    let l = length-take i es in
    omega arith

pub all_held : (bodies : List ClassEntry) (es : List PlaceEntry) (i : ℕ) (ts : List ClassTable) → length es ≤ i → Hold (map (sight_of bodies) (take i es)) ts → (ps : List Place) → AreOf bodies es ps → Hold (map sight ps) ts
all_held bodies es i ts h held ps are = subst (λ ss. Hold ss ts) (ap (map (sight_of bodies)) (take_all i es h) ∙ sym are) held

pub written_back : {X : Type 0} (n : ℕ) (new old : List X) → length new ≡ n → take n (new ++ drop (length new) old) ≡ new
written_back {X} n new old e = subst (λ (k : ℕ). take k (new ++ drop (length new) old) ≡ new) e (go new (drop (length new) old))
  where
    go : (xs ys : List X) → take (length xs) (xs ++ ys) ≡ xs
    go [] ys = refl
    go (x ∷ xs) ys = ap (λ zs. x ∷ zs) (go xs ys)

pub names_get : (ts : List ClassTable) (c : ℕ) (d : ClassTable) → c < length ts → names_of (get_or ts c d) ≡ names_at ts c
unfolding names_at
names_get ts c d h = ap named (sym (slice_get-get_or ts c d h))
