-- Class bodies are opened one after another, outwards.
use Rattle.std.specs.Prelude.{◌≡◌, ◌<◌, ◌≤◌, ◌+◌, ℕ, Bool, true, false, ◌||◌, nat_eq, get_or, length, List, [], ◌∷◌, ◌++◌, map, take, Option, Some, None, IfSome}
use Rattle.std.specs.List.{All, list_any}
use Rattle.std.proofs.Common.{refl, sym, ap, ◌∙◌, subst, arith, set, take_all}
use Rattle.std.proofs.lemmas.Bool.{eqb-true, eqb-false}
use Rattle.std.proofs.lemmas.List.{get_or-set_other, get_or-set_same}
use Rattle.std.proofs.lemmas.List.Elements.{All-get_or}
use Rattle.std.proofs.lemmas.List.Folds.{list_any-append}
use Rattle.tree_places.specs.Places.{Place}
use Rattle.scope_rules.specs.Evals.{contains, is_open}
use Rattle.class_tables.specs.Outwards.{Falls, chain_from}
use Rattle.class_tables.specs.Sights.{AreOf, Sight, evals_in, sight_of}
use Rattle.place_list.specs.declared.tables.ClassEntry.{ClassEntry}
use Rattle.place_list.specs.declared.tables.PlaceEntry.{PlaceEntry}
use Rattle.class_tables.proofs.Chains.{chain_step}
use Rattle.class_tables.proofs.Holding.{sights_more}
use Rattle.class_tables.proofs.Seen.{open_is}

pub outer_below : (next : ℕ → Option ℕ) → Falls next → (c n : ℕ) → c < n → (o : Option ℕ) → o ≡ next c → IfSome o (λ k. k < n)
outer_below next falls c n h None e = tt
outer_below next falls c n h (Some k) e = let l : k < c = falls c k (sym e) in omega arith

module _ (next : ℕ → Option ℕ) (falls : Falls next) where
  -- one is opened, and those outwards are left
  pub marks_on : (marks : List Bool) (at : Option ℕ) (c : ℕ) → at ≡ Some c → c < length marks → (o : Option ℕ) → o ≡ next c → (k : ℕ)
      → (get_or (set marks c true) k false || contains (chain_from next o) k) ≡ (get_or marks k false || contains (chain_from next at) k)
  unfolding contains chain_from
  marks_on marks at c e h o p k =
      ap (λ q. get_or (set marks c true) k false || contains (chain_from next q) k) p
      ∙ go (nat_eq k c) refl
      ∙ sym (ap (λ q. get_or marks k false || contains (chain_from next q) k) e ∙ ap (λ cs. get_or marks k false || contains cs k) (chain_step next falls c))
    where
      moved : (a b : Bool) → (true || b) ≡ (a || (true || b))
      moved true b = refl
      moved false b = refl

      go : (t : Bool) → nat_eq k c ≡ t → (get_or (set marks c true) k false || contains (chain_from next (next c)) k) ≡ (get_or marks k false || (nat_eq k c || contains (chain_from next (next c)) k))
      go true q =
          ap (λ (b : Bool). b || contains (chain_from next (next c)) k) (ap (λ (n : ℕ). get_or (set marks c true) n false) (eqb-true k c q) ∙ get_or-set_same marks c true false h)
          ∙ moved (get_or marks k false) (contains (chain_from next (next c)) k)
          ∙ sym (ap (λ (b : Bool). get_or marks k false || (b || contains (chain_from next (next c)) k)) q)
      go false q =
          ap (λ (b : Bool). b || contains (chain_from next (next c)) k) (get_or-set_other marks c k true false (eqb-false k c q))
          ∙ sym (ap (λ (b : Bool). get_or marks k false || (b || contains (chain_from next (next c)) k)) q)

pub or_false : (b : Bool) → (b || false) ≡ b
or_false true = refl
or_false false = refl

pub any_more : (p : Sight → Bool) (ss : List Sight) (s : Sight) → list_any p (ss ++ s ∷ []) ≡ (list_any p ss || p s)
any_more p ss s = list_any-append p ss (s ∷ []) ∙ ap (λ (b : Bool). list_any p ss || b) (or_false (p s))

pub all_opened : (os : List ClassEntry) (es : List PlaceEntry) (i : ℕ) → length es ≤ i → (ps : List Place) → AreOf os es ps → (c : ℕ) → list_any (evals_in c) (map (sight_of os) (take i es)) ≡ is_open ps c
all_opened os es i h ps are c = ap (λ qs. list_any (evals_in c) (map (sight_of os) qs)) (take_all i es h) ∙ ap (list_any (evals_in c)) (sym are) ∙ open_is ps c

pub known_here : (es : List PlaceEntry) (i : ℕ) (d : PlaceEntry) (n m : ℕ) → i < length es → All (λ e. IfSome e.setting.class_body (λ k. k < n)) es → m ≡ n → IfSome (get_or es i d).setting.class_body (λ k. k < m)
known_here es i d n m h known e = subst (λ (j : ℕ). IfSome (get_or es i d).setting.class_body (λ k. k < j)) (sym e) (All-get_or (λ (p : PlaceEntry). IfSome p.setting.class_body (λ k. k < n)) es i d h known)

pub opened_more : (os : List ClassEntry) (es : List PlaceEntry) (i : ℕ) (d : PlaceEntry) → i < length es → (k : ℕ) (old new : Bool)
    → new ≡ (old || evals_in k (sight_of os (get_or es i d))) → old ≡ list_any (evals_in k) (map (sight_of os) (take i es)) → new ≡ list_any (evals_in k) (map (sight_of os) (take (i + 1) es))
opened_more os es i d h k old new e f =
    e ∙ ap (λ (b : Bool). b || evals_in k (sight_of os (get_or es i d))) f
    ∙ sym (ap (list_any (evals_in k)) (sights_more os es i d h) ∙ any_more (evals_in k) (map (sight_of os) (take i es)) (sight_of os (get_or es i d)))
