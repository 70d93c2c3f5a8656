-- New names stand at no variable place, and no two bindings have one.
use Rattle.std.proofs.Common.{◌≡◌, ◌<◌, ℕ, zero, suc, Bool, true, false, cond, nat_eq, List, [], ◌∷◌, ◌++◌, Option, Some, None, slice_get, refl, sym, ap, subst, ◌∙◌, arith, inl, inr, ◌⊎◌}
use Rattle.std.proofs.lemmas.Bool.{and_from, both_ways, eq-eqb, eqb-true, or_left, or_parts, or_right}
use Rattle.std.proofs.lemmas.List.Folds.{list_any-append}
use Rattle.bundle_rules.specs.Bundles.{AreParts}
use Rattle.bundle_rules.specs.Mentions.{Mention, mentions_of}
use Rattle.bundle_rules.specs.NewNames.{AreNewNames, Modules, is_named, is_named_in, is_taken, name_given, needing, needs_new_name, new_name}
use Rattle.list_laws.proofs.AnyOf.{any_from}
use Rattle.list_laws.proofs.Members.{In, in_filter, in_right}
use Rattle.list_laws.proofs.Tests.{some_one}
use Rattle.tree_nodes.proofs.Cases.{none_some}
use Rattle.scope_rules.proofs.SameNames.{in_among, same_name_tells}
use Rattle.scope_rules.specs.Bindings.{or_else, same_name}
use Rattle.scope_rules.specs.PrivateNames.{is_among}
use Rattle.tree_nodes.specs.Tree.{Text, Tree}

-- ---- one module's new names

-- the new name of a binding: it is among the names, wasn't given before, and isn't taken
pub record Fresh (all : Modules) (given xs : List Text) (y : Text) : Type 0 where
  pub among : In y xs
  pub variables : is_named_in (λ m. m.variable) all y ≡ false
  pub unused : is_among given y ≡ false

not_before : (g : List Text) (x y : Text) → is_among (g ++ x ∷ []) y ≡ false → (is_among g y ≡ false) × (y ≡ x → ⊥)
unfolding is_among
not_before g x y e =
    let p = or_parts _ _ (sym (list_any-append (same_name y) g (x ∷ [])) ∙ e) in
    let q = or_parts _ _ p.1 in
    (p.0, λ same. both_ways _ q.0 ((same_name_tells y x).1 same))

found_in : (later own : Option Text) (y : Text) → or_else later own ≡ Some y → (later ≡ Some y) ⊎ ((later ≡ None) × (own ≡ Some y))
unfolding or_else
found_in None own y e = inr (refl, e)
found_in (Some x) own y e = inl e

own_name : (b : Bool) (x y : Text) → cond b (Some x) None ≡ Some y → (b ≡ true) × (x ≡ y)
own_name true x y e = (refl, some_one x y e)
own_name false x y e = none_some y e

pub fresh : (all : Modules) (g : List Text) (ms : List Mention) (xs : List Text) → AreNewNames all g ms xs → (n : ℕ) (y : Text) → new_name ms xs n ≡ Some y → Fresh all g xs y
unfolding new_name is_taken
fresh all g [] [] a n y e = none_some y e
fresh all g [] (x ∷ xs) a n y e = absurd a
fresh all g (m ∷ ms) [] a n y e = none_some y e
fresh all g (m ∷ ms) (x ∷ xs) a n y e = go (found_in _ _ y e) (fresh all (g ++ x ∷ []) ms xs a.1 n y)
  where
    go : (new_name ms xs n ≡ Some y) ⊎ ((new_name ms xs n ≡ None) × (cond (nat_eq m.node n) (Some x) None ≡ Some y)) → (new_name ms xs n ≡ Some y → Fresh all (g ++ x ∷ []) xs y) → Fresh all g (x ∷ xs) y
    go (inl h) ih = let f = ih h in record { among = inr f.among; variables = f.variables; unused = (not_before g x y f.unused).0 }
    go (inr h) ih =
        let same : x ≡ y = (own_name _ x y h.1).1 in
        let new = a.0 in
        let free : is_taken all g y ≡ false = ap (is_taken all g) (sym same ∙ new.2) ∙ new.1.free in
        let p = or_parts _ _ free in
        record { among = inl same; variables = p.0; unused = p.1 }

-- no two bindings have one
pub fresh_once : (all : Modules) (g : List Text) (ms : List Mention) (xs : List Text) → AreNewNames all g ms xs → (n k : ℕ) (y : Text) → new_name ms xs n ≡ Some y → new_name ms xs k ≡ Some y → n ≡ k
unfolding new_name
fresh_once all g [] [] a n k y e f = none_some y e
fresh_once all g [] (x ∷ xs) a n k y e f = absurd a
fresh_once all g (m ∷ ms) [] a n k y e f = none_some y e
fresh_once all g (m ∷ ms) (x ∷ xs) a n k y e f = go (found_in _ _ y e) (found_in _ _ y f) (fresh_once all (g ++ x ∷ []) ms xs a.1 n k y)
  where
    Found : ℕ → Type 0
    Found j = (new_name ms xs j ≡ Some y) ⊎ ((new_name ms xs j ≡ None) × (cond (nat_eq m.node j) (Some x) None ≡ Some y))

    later_differs : (j : ℕ) → new_name ms xs j ≡ Some y → x ≡ y → ⊥
    later_differs j h same = (not_before g x y (fresh all (g ++ x ∷ []) ms xs a.1 j y h).unused).1 (sym same)

    go : (new_name ms xs n ≡ Some y) ⊎ ((new_name ms xs n ≡ None) × (cond (nat_eq m.node n) (Some x) None ≡ Some y))
        → (new_name ms xs k ≡ Some y) ⊎ ((new_name ms xs k ≡ None) × (cond (nat_eq m.node k) (Some x) None ≡ Some y))
        → (new_name ms xs n ≡ Some y → new_name ms xs k ≡ Some y → n ≡ k) → n ≡ k
    go (inl h) (inl i) ih = ih h i
    go (inl h) (inr i) ih = absurd (later_differs n h (own_name _ x y i.1).1)
    go (inr h) (inl i) ih = absurd (later_differs k i (own_name _ x y h.1).1)
    go (inr h) (inr i) ih = sym (eqb-true m.node n (own_name _ x y h.1).0) ∙ eqb-true m.node k (own_name _ x y i.1).0

-- who needs one has one
pub has_one : (all : Modules) (g : List Text) (ms : List Mention) (xs : List Text) → AreNewNames all g ms xs → (m : Mention) → In m ms → new_name ms xs m.node ≡ None → ⊥
unfolding new_name or_else
has_one all g [] [] a m i e = i
has_one all g [] (x ∷ xs) a m i e = a
has_one all g (k ∷ ks) [] a m i e = a
has_one all g (k ∷ ks) (x ∷ xs) a m (inl same) e = go (new_name ks xs m.node) e
  where
    go : (o : Option Text) → or_else o (cond (nat_eq k.node m.node) (Some x) None) ≡ None → ⊥
    go None h = none_some x (sym (sym (ap (λ (b : Bool). cond b (Some x) None) (eq-eqb k.node m.node (ap (λ (q : Mention). q.node) same))) ∙ h))
    go (Some y) h = none_some y (sym h)
has_one all g (k ∷ ks) (x ∷ xs) a m (inr later) e = go (new_name ks xs m.node) e (has_one all (g ++ x ∷ []) ks xs a.1 m later)
  where
    go : (o : Option Text) → or_else o (cond (nat_eq k.node m.node) (Some x) None) ≡ None → (o ≡ None → ⊥) → ⊥
    go None h ih = ih refl
    go (Some y) h ih = none_some y (sym h)

-- ---- the modules in turn

pub record Part : Type 0 where
  pub tree : Tree
  pub needing : List Mention
  pub xs : List Text

unfoldable pub parts : (all before : Modules) (given : List Text) (ts us : List Tree) (last : List Text) → AreParts all before given ts us last → List Part
parts all before given [] [] last a = []
parts all before given [] (u ∷ us) last a = absurd a
parts all before given (t ∷ ts) [] last a = absurd a
parts all before given (t ∷ ts) (u ∷ us) last a = record { tree = t; needing = needing all before (mentions_of t); xs = a.0 } ∷ parts all (before ++ mentions_of t ∷ []) (given ++ a.0) ts us last a.2

-- where a part stands: after these modules, when these names were given
pub record Stands (all before : Modules) (given : List Text) (d : Part) : Type 0 where
  pub modules : Modules
  pub names : List Text
  pub needing : d.needing ≡ needing all modules (mentions_of d.tree)
  pub new : AreNewNames all names d.needing d.xs
  pub roots : (x : Text) → is_named_in (λ m. m.root) before x ≡ true → is_named_in (λ m. m.root) modules x ≡ true
  pub names_more : (y : Text) → is_among given y ≡ true → is_among names y ≡ true

more_roots : (before : Modules) (ms : List Mention) (x : Text) → is_named_in (λ m. m.root) before x ≡ true → is_named_in (λ m. m.root) (before ++ ms ∷ []) x ≡ true
unfolding is_named_in
more_roots before ms x h = list_any-append (λ (qs : List Mention). is_named (λ m. m.root) qs x) before (ms ∷ []) ∙ or_left _ _ h

last_roots : (before : Modules) (ms : List Mention) (x : Text) → is_named (λ m. m.root) ms x ≡ true → is_named_in (λ m. m.root) (before ++ ms ∷ []) x ≡ true
unfolding is_named_in
last_roots before ms x h = list_any-append (λ (qs : List Mention). is_named (λ m. m.root) qs x) before (ms ∷ []) ∙ or_right _ _ (or_left _ _ h)

more_given : (given xs : List Text) (y : Text) → is_among given y ≡ true → is_among (given ++ xs) y ≡ true
unfolding is_among
more_given given xs y h = list_any-append (same_name y) given xs ∙ or_left _ _ h

last_given : (given xs : List Text) (y : Text) → In y xs → is_among (given ++ xs) y ≡ true
last_given given xs y i = in_among (given ++ xs) y (in_right given xs y i)

pub stands : (all before : Modules) (given : List Text) (ts us : List Tree) (last : List Text) (a : AreParts all before given ts us last) (k : ℕ) (d : Part)
    → slice_get (parts all before given ts us last a) k ≡ Some d → Stands all before given d
unfolding parts
stands all before given [] [] last a k d e = none_some d e
stands all before given [] (u ∷ us) last a k d e = absurd a
stands all before given (t ∷ ts) [] last a k d e = absurd a
stands all before given (t ∷ ts) (u ∷ us) last a zero d e =
    let same : record { tree = t; needing = needing all before (mentions_of t); xs = a.0 } ≡ d = some_one _ _ e in
    subst (Stands all before given) same (record { modules = before; names = given; needing = refl; new = a.1.new; roots = λ x h. h; names_more = λ y h. h })
stands all before given (t ∷ ts) (u ∷ us) last a (suc k) d e =
    let s = stands all (before ++ mentions_of t ∷ []) (given ++ a.0) ts us last a.2 k d e in
    record { modules = s.modules; names = s.names; needing = s.needing; new = s.new; roots = λ x h. s.roots x (more_roots before (mentions_of t) x h); names_more = λ y h. s.names_more y (more_given given a.0 y h) }

-- of two parts the later one stands after the names and the new names of the earlier one
pub record After (all : Modules) (d f : Part) : Type 0 where
  pub modules : Modules
  pub names : List Text
  pub needing : f.needing ≡ needing all modules (mentions_of f.tree)
  pub new : AreNewNames all names f.needing f.xs
  pub roots : (x : Text) → is_named (λ m. m.root) (mentions_of d.tree) x ≡ true → is_named_in (λ m. m.root) modules x ≡ true
  pub names_more : (y : Text) → In y d.xs → is_among names y ≡ true

pub stands_after : (all before : Modules) (given : List Text) (ts us : List Tree) (last : List Text) (a : AreParts all before given ts us last) (k j : ℕ) (d f : Part) → k < j
    → slice_get (parts all before given ts us last a) k ≡ Some d → slice_get (parts all before given ts us last a) j ≡ Some f → After all d f
unfolding parts
stands_after all before given [] [] last a k j d f l e g = none_some d e
stands_after all before given [] (u ∷ us) last a k j d f l e g = absurd a
stands_after all before given (t ∷ ts) [] last a k j d f l e g = absurd a
stands_after all before given (t ∷ ts) (u ∷ us) last a k zero d f l e g = absurd (omega (arith, l))
stands_after all before given (t ∷ ts) (u ∷ us) last a zero (suc j) d f l e g =
    let same : record { tree = t; needing = needing all before (mentions_of t); xs = a.0 } ≡ d = some_one _ _ e in
    let s = stands all (before ++ mentions_of t ∷ []) (given ++ a.0) ts us last a.2 j f g in
    subst (λ (p : Part). After all p f) same (record { modules = s.modules; names = s.names; needing = s.needing; new = s.new; roots = λ x h. s.roots x (last_roots before (mentions_of t) x h); names_more = λ y i. s.names_more y (last_given given a.0 y i) })
stands_after all before given (t ∷ ts) (u ∷ us) last a (suc k) (suc j) d f l e g =
    stands_after all (before ++ mentions_of t ∷ []) (given ++ a.0) ts us last a.2 k j d f (omega (arith, l)) e g

-- ---- the facts

module _ (all before : Modules) (given : List Text) (ts us : List Tree) (last : List Text) (a : AreParts all before given ts us last) where
  abbrev at : ℕ → Part → Type 0
  at k d = slice_get (parts all before given ts us last a) k ≡ Some d

  given_some : (d : Part) (o : Option ℕ) (y : Text) → name_given d.needing d.xs o ≡ Some y → (n : ℕ) × (o ≡ Some n) × (new_name d.needing d.xs n ≡ Some y)
  unfolding name_given
  given_some d None y e = none_some y e
  given_some d (Some n) y e = (n, refl, e)

  pub at_no_variable : (k : ℕ) (d : Part) → at k d → (o : Option ℕ) (y : Text) → name_given d.needing d.xs o ≡ Some y → is_named_in (λ m. m.variable) all y ≡ false
  at_no_variable k d h o y e =
      let g = given_some d o y e in
      let s = stands all before given ts us last a k d h in
      (fresh all s.names d.needing d.xs s.new g.0 y g.2).variables

  pub of_one_binding : (k : ℕ) (d : Part) → at k d → (n j : ℕ) (y : Text) → name_given d.needing d.xs (Some n) ≡ Some y → name_given d.needing d.xs (Some j) ≡ Some y → n ≡ j
  unfolding name_given
  of_one_binding k d h n j y e f = let s = stands all before given ts us last a k d h in fresh_once all s.names d.needing d.xs s.new n j y e f

  pub of_one_module : (k j : ℕ) (d f : Part) → at k d → at j f → k < j → (o p : Option ℕ) (y : Text) → name_given d.needing d.xs o ≡ Some y → name_given f.needing f.xs p ≡ Some y → ⊥
  of_one_module k j d f h i l o p y e g =
      let s = stands_after all before given ts us last a k j d f l h i in
      let one = given_some d o y e in
      let two = given_some f p y g in
      let own = stands all before given ts us last a k d h in
      both_ways _ (fresh all s.names f.needing f.xs s.new two.0 y two.2).unused (s.names_more y (fresh all own.names d.needing d.xs own.new one.0 y one.2).among)

  named_again : (modules : Modules) (f : Part) (names : List Text) → f.needing ≡ needing all modules (mentions_of f.tree) → AreNewNames all names f.needing f.xs
      → (m : Mention) → In m (mentions_of f.tree) → needs_new_name all modules m ≡ true → name_given f.needing f.xs (Some m.node) ≡ None → ⊥
  unfolding name_given needing
  named_again modules f names same new m i n e = has_one all names f.needing f.xs new m (subst (In m) (sym same) (in_filter (needs_new_name all modules) (mentions_of f.tree) m i n)) e

  -- a binding of the root gets a new name where a module before has one of its name
  pub named_after : (k j : ℕ) (d f : Part) → at k d → at j f → k < j → (m q : Mention) → In m (mentions_of d.tree) → m.root ≡ true → In q (mentions_of f.tree) → q.root ≡ true → m.name ≡ q.name
      → name_given f.needing f.xs (Some q.node) ≡ None → ⊥
  unfolding needs_new_name is_named
  named_after k j d f h i l m q im rm iq rq e n =
      let s = stands_after all before given ts us last a k j d f l h i in
      let there : is_named (λ p. p.root) (mentions_of d.tree) q.name ≡ true = any_from _ (mentions_of d.tree) m im (and_from _ _ rm ((same_name_tells m.name q.name).1 e)) in
      named_again s.modules f s.names s.needing s.new q iq (and_from _ _ rq (or_left _ _ (s.roots q.name there))) n

  -- and where a module refers to its name without a binding
  pub named_elsewhere : (j : ℕ) (f : Part) → at j f → (q : Mention) → In q (mentions_of f.tree) → q.root ≡ true → is_named_in (λ m. m.unresolved) all q.name ≡ true
      → name_given f.needing f.xs (Some q.node) ≡ None → ⊥
  unfolding needs_new_name
  named_elsewhere j f h q i r u n =
      let s = stands all before given ts us last a j f h in
      named_again s.modules f s.names s.needing s.new q i (and_from _ _ r (or_right _ _ u)) n
