-- The symbol of a place: its name is the place's, and it is bound alike.
use Rattle.std.specs.Prelude.{◌≡◌, ◌⊎◌, ◌<◌, ℕ, suc, Bool, true, false, not, ◌&&◌, nat_eq, List, [], ◌∷◌, find, length, slice_get, Option, Some, None, option_map, if◌then◌else◌}
use Rattle.std.proofs.Common.{refl, sym, ap, ◌∙◌, subst, inl, inr}
use Rattle.std.proofs.lemmas.Bool.{and_parts, both_ways, eq-eqb, eqb-true}
use Rattle.std.proofs.lemmas.Option.{slice_get_within}
use Rattle.list_laws.proofs.FirstOf.{find_only}
use Rattle.list_laws.proofs.Members.{In, from_filter, in_filter, in_from_Contains}
use Rattle.list_laws.proofs.Tests.{none_some, some_one, told}
use Rattle.scope_rules.proofs.BindingsStay.{binding_source}
use Rattle.scope_rules.proofs.PlacesRise.{one_of_number}
use Rattle.scope_rules.proofs.SameNames.{same_name_tells}
use Rattle.scope_rules.specs.Bindings.{binding, is_node, node, same_name}
use Rattle.scope_rules.specs.Homes.{declares}
use Rattle.scope_rules.specs.Open.{all_open}
use Rattle.scope_rules.specs.Symbols.{is_symbol, node_symbol, number_among, symbol_of, symbols}
use Rattle.tree_nodes.specs.Tree.{Parts}
use Rattle.tree_nodes.specs.declared.table.Role.{Role}
use Rattle.tree_nodes.specs.declared.table.Role.TheVariants.{MemberKey, Plain}
use Rattle.tree_places.specs.Places.{Place, Site, places}
use Rattle.tree_places.specs.Renaming.{is_plain}
use Rattle.tree_semantic.specs.ClassBodies.{class_of_place, node_class}

-- ---- the place of a node

pub place_of_node : (t : Parts) (p : Place) → In p (places t) → find (λ (q : Place). nat_eq (node q) (node p)) (places t) ≡ Some p
place_of_node t p i = find_only (λ (q : Place). nat_eq (node q) (node p)) (places t) p i (eq-eqb (node p) (node p) refl) (λ q j e. one_of_number t q p j i (eqb-true (node q) (node p) e))

pub symbol_of_node : (t : Parts) (p : Place) → In p (places t) → node_symbol same_name (places t) (node p) ≡ symbol_of same_name (places t) p
unfolding node_symbol
symbol_of_node t p i = ap (λ (o : Option Place). elim o as (λ _. Option ℕ) [ None ↦ None | Some q ↦ symbol_of same_name (places t) q ]) (place_of_node t p i)

pub class_of_node : (t : Parts) (p : Place) → In p (places t) → node_class (places t) (node p) ≡ class_of_place (places t) p
unfolding node_class
class_of_node t p i = ap (λ (o : Option Place). elim o as (λ _. Option ℕ) [ None ↦ None | Some q ↦ class_of_place (places t) q ]) (place_of_node t p i)

-- ---- the symbol that has a number

number_reads : (bs : List Place) (n k : ℕ) → number_among bs n ≡ Some k → (b : Place) × (slice_get bs k ≡ Some b) × (node b ≡ n) × In b bs
unfolding number_among
number_reads [] n k e = absurd (none_some k e)
number_reads (b ∷ bs) n k e = go (nat_eq (node b) n) refl e (λ j. number_reads bs n j)
  where
    later : (o : Option ℕ) → number_among bs n ≡ o → option_map (λ j. suc j) o ≡ Some k → ((j : ℕ) → number_among bs n ≡ Some j → (c : Place) × (slice_get bs j ≡ Some c) × (node c ≡ n) × In c bs) → (c : Place) × (slice_get (b ∷ bs) k ≡ Some c) × (node c ≡ n) × In c (b ∷ bs)
    later None f g ih = absurd (none_some k g)
    later (Some j) f g ih =
        let r : (c : Place) × (slice_get bs j ≡ Some c) × (node c ≡ n) × In c bs = ih j f in
        (r.0, subst (λ (m : ℕ). slice_get (b ∷ bs) m ≡ Some r.0) (some_one (suc j) k g) r.1, r.2, inr r.3)

    go : (t : Bool) → nat_eq (node b) n ≡ t → (if◌then◌else◌ {A = Option ℕ} t (Some 0) (option_map (λ j. suc j) (number_among bs n))) ≡ Some k → ((j : ℕ) → number_among bs n ≡ Some j → (c : Place) × (slice_get bs j ≡ Some c) × (node c ≡ n) × In c bs) → (c : Place) × (slice_get (b ∷ bs) k ≡ Some c) × (node c ≡ n) × In c (b ∷ bs)
    go true f g ih = (b, subst (λ (m : ℕ). slice_get (b ∷ bs) m ≡ Some b) (some_one 0 k g) refl, eqb-true (node b) n f, inl refl)
    go false f g ih = later (number_among bs n) refl g ih

number_there : (bs : List Place) (b : Place) → In b bs → number_among bs (node b) ≡ None → ⊥
unfolding number_among
number_there [] b i e = absurd i
number_there (c ∷ bs) b i e = go (nat_eq (node c) (node b)) refl i e (number_there bs b)
  where
    mapped : (o : Option ℕ) → option_map (λ j. suc j) o ≡ None → o ≡ None
    mapped None f = refl
    mapped (Some j) f = absurd (none_some (suc j) (sym f))

    go : (t : Bool) → nat_eq (node c) (node b) ≡ t → (c ≡ b) ⊎ In b bs → (if◌then◌else◌ {A = Option ℕ} t (Some 0) (option_map (λ j. suc j) (number_among bs (node b)))) ≡ None → (In b bs → number_among bs (node b) ≡ None → ⊥) → ⊥
    go true f j g ih = none_some 0 (sym g)
    go false f (inl same) g ih = both_ways false refl (sym f ∙ eq-eqb (node c) (node b) (ap node same))
    go false f (inr j) g ih = ih j (mapped (number_among bs (node b)) g)

-- the symbol of a place has its name, and is bound as it is
pub record Symbol (t : Parts) (p : Place) (k : ℕ) : Type 0 where
  pub place : Place
  pub at : slice_get (symbols same_name (places t)) k ≡ Some place
  pub named : place.name ≡ p.name
  pub bound : binding same_name (places t) place ≡ binding same_name (places t) p

pub symbol_told : (t : Parts) (p : Place) → In p (places t) → (k : ℕ) → symbol_of same_name (places t) p ≡ Some k → Symbol t p k
unfolding symbol_of symbols is_symbol
symbol_told t p i k e = told (binding same_name (places t) p)
    (λ none. absurd (none_some k (sym (ap (λ (o : Option ℕ). elim o as (λ _. Option ℕ) [ None ↦ None | Some n ↦ number_among (symbols same_name (places t)) n ]) none) ∙ e)))
    (λ n some.
    let r = number_reads (symbols same_name (places t)) n k (sym (ap (λ (o : Option ℕ). elim o as (λ _. Option ℕ) [ None ↦ None | Some m ↦ number_among (symbols same_name (places t)) m ]) some) ∙ e) in
    let s = binding_source same_name same_name_tells (places t) p i n some in
    let f : In r.0 (places t) × (is_symbol same_name (places t) r.0 ≡ true) = from_filter (is_symbol same_name (places t)) (places t) r.0 r.3 in
    let same : r.0 ≡ s.0 = one_of_number t r.0 s.0 f.0 (in_from_Contains (places t) s.0 s.2.among) (r.2 ∙ sym s.1) in
    record {
      place = r.0;
      at = r.1;
      named = ap (λ (q : Place). q.name) same ∙ s.3;
      bound = ap (binding same_name (places t)) same ∙ s.2.own ∙ ap (λ (m : ℕ). Some m) s.1 ∙ sym some;
    })

its_own : (n : ℕ) → is_node (Some n) n ≡ true
unfolding is_node
its_own n = eq-eqb n n refl

-- the number of a node's symbol is below their number
pub symbol_below : (ps : List Place) (n k : ℕ) → node_symbol same_name ps n ≡ Some k → k < length (symbols same_name ps)
unfolding node_symbol symbol_of
symbol_below ps n k e = told (find (λ (q : Place). nat_eq (node q) n) ps)
    (λ none. absurd (none_some k (sym (ap of_place none) ∙ e)))
    (λ p some. told (binding same_name ps p)
    (λ none. absurd (none_some k (sym (ap of_place some ∙ ap of_binding none) ∙ e)))
    (λ m bound. let r = number_reads (symbols same_name ps) m k (sym (ap of_place some ∙ ap of_binding bound) ∙ e) in slice_get_within (symbols same_name ps) k r.0 r.1))
  where
    of_binding : Option ℕ → Option ℕ
    of_binding o = elim o as (λ _. Option ℕ) [ None ↦ None | Some m ↦ number_among (symbols same_name ps) m ]

    of_place : Option Place → Option ℕ
    of_place o = elim o as (λ _. Option ℕ) [ None ↦ None | Some p ↦ of_binding (binding same_name ps p) ]

-- a place without a symbol has no binding
pub no_symbol : (t : Parts) (p : Place) → In p (places t) → symbol_of same_name (places t) p ≡ None → binding same_name (places t) p ≡ None
unfolding symbol_of symbols is_symbol
no_symbol t p i e = told (binding same_name (places t) p) (λ none. none)
    (λ n some.
    let s = binding_source same_name same_name_tells (places t) p i n some in
    let own : (declares s.0.site && is_node (binding same_name (places t) s.0) (node s.0)) ≡ true = ap (λ (b : Bool). b && is_node (binding same_name (places t) s.0) (node s.0)) s.2.declares ∙ ap (λ (o : Option ℕ). is_node o (node s.0)) s.2.own ∙ its_own (node s.0) in
    absurd (number_there (symbols same_name (places t)) s.0 (in_filter (is_symbol same_name (places t)) (places t) s.0 (in_from_Contains (places t) s.0 s.2.among) own)
    (ap (number_among (symbols same_name (places t))) s.1 ∙ sym (ap (λ (o : Option ℕ). elim o as (λ _. Option ℕ) [ None ↦ None | Some m ↦ number_among (symbols same_name (places t)) m ]) some) ∙ e)))

-- ---- plain names

not_true : (b : Bool) → not b ≡ true → b ≡ false
not_true true e = sym e
not_true false e = refl

pub plain_is_public : (s : Site) → is_plain s ≡ true → s.private ≡ false
unfolding is_plain
plain_is_public s h = not_true s.private (and_parts _ _ h).0

module _ (ps : List Place) (s : Site) (plain : is_plain s ≡ true) where
  by_role : (r : Role) → s.setting.role ≡ r → elim r as (λ x. Bool) [ Plain ↦ true | MemberKey ↦ true | _ ↦ false ] ≡ true → (p : Place) → p.site ≡ s → binding same_name ps p ≡ None
  unfolding all_open
  by_role Plain w j p e = rw (e, plain_is_public s plain, w) refl
  by_role MemberKey w j p e = rw (e, plain_is_public s plain, w) refl
  by_role _ w j p e = absurd (both_ways false refl j)

  plain_unbound : (p : Place) → p.site ≡ s → binding same_name ps p ≡ None
  unfolding is_plain
  plain_unbound p e = by_role s.setting.role refl (and_parts _ _ plain).1 p e

pub plain_has_none : (ps : List Place) (p : Place) → is_plain p.site ≡ true → symbol_of same_name ps p ≡ None
unfolding symbol_of
plain_has_none ps p h = ap (λ (o : Option ℕ). elim o as (λ _. Option ℕ) [ None ↦ None | Some n ↦ number_among (symbols same_name ps) n ]) (plain_unbound ps p.site h p refl)
