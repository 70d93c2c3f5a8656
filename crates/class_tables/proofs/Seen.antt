-- What the tables say of entries is what the definitions say of the places that they are of.
use Rattle.std.specs.Prelude.{◌≡◌, ℕ, Bool, true, false, cond, not, ◌&&◌, List, [], ◌∷◌, map, filter, find, Option, Some, None, is_some, option_map, if◌then◌else◌}
use Rattle.std.specs.List.{list_any}
use Rattle.std.proofs.Common.{refl, sym, ap, ◌∙◌}
use Rattle.std.proofs.lemmas.Bool.{both_ways}
use Rattle.tree_nodes.specs.Tree.{Text}
use Rattle.tree_places.specs.Places.{Place}
use Rattle.scope_rules.specs.Bindings.{node, node_of, or_else, same_name}
use Rattle.scope_rules.specs.Evals.{is_eval, is_open}
use Rattle.scope_rules.specs.Faults.{has_undeclared, is_undeclared}
use Rattle.scope_rules.specs.PrivateNames.{declares_private, declares_private_name, declaring_class, distinct, is_among, private_binder, private_binding, private_names}
use Rattle.list_laws.proofs.AnyOf.{any_map}
use Rattle.class_tables.specs.Answers.{binding_at, class_at, declaration_of, index_at, undeclared_at}
use Rattle.class_tables.specs.Outwards.{nearest}
use Rattle.class_tables.specs.Sights.{AreOf, Sight, declares_in, declares_name, evals_in, names_in, node_in, sight, sight_of}
use Rattle.class_tables.specs.Tables.{AreTablesOf, at, found_in, place_in}
use Rattle.class_tables.specs.declared.class_table.ClassTable.{ClassTable}
use Rattle.class_tables.specs.declared.class_table.Declared.{Declared}
use Rattle.place_list.specs.declared.tables.ClassEntry.{ClassEntry}
use Rattle.place_list.specs.declared.tables.PlaceEntry.{PlaceEntry}
use Rattle.class_tables.proofs.Holding.{among_told}
use Rattle.class_tables.proofs.Positions.{place_is_index}
use Rattle.name_rules.specs.PrivateNumbers.{index_of}

-- ---- of places, what their sights say

pub names_are : (ps : List Place) (c : ℕ) → names_in (map sight ps) c ≡ private_names ps c
unfolding names_in private_names declares_in declares_private sight
names_are ps c = ap distinct (go ps)
  where
    go : (qs : List Place) → map (λ s. s.name) (filter (declares_in c) (map sight qs)) ≡ map (λ q. q.name) (filter (λ q. declares_private c q.site) qs)
    go [] = refl
    go (q ∷ qs) = by (declares_private c q.site) (go qs)
      where
        by : (t : Bool) → map (λ s. s.name) (filter (declares_in c) (map sight qs)) ≡ map (λ r. r.name) (filter (λ r. declares_private c r.site) qs)
            → map (λ s. s.name) (cond t (sight q ∷ filter (declares_in c) (map sight qs)) (filter (declares_in c) (map sight qs))) ≡ map (λ r. r.name) (cond t (q ∷ filter (λ r. declares_private c r.site) qs) (filter (λ r. declares_private c r.site) qs))
        by true ih = ap (λ ns. q.name ∷ ns) ih
        by false ih = ih

pub node_is : (ps : List Place) (c : ℕ) (x : Text) → node_in (map sight ps) c x ≡ node_of (find (declares_private_name same_name x c) ps)
unfolding node_in declares_name declares_private_name declares_in declares_private sight node_of node
node_is [] c x = refl
node_is (p ∷ ps) c x = go (declares_private_name same_name x c p) (node_is ps c x)
  where
    go : (t : Bool) → option_map (λ s. s.node) (find (declares_name x c) (map sight ps)) ≡ node_of (find (declares_private_name same_name x c) ps)
        → option_map (λ s. s.node) (cond t (Some (sight p)) (find (declares_name x c) (map sight ps))) ≡ node_of (cond t (Some p) (find (declares_private_name same_name x c) ps))
    go true ih = refl
    go false ih = ih

pub open_is : (ps : List Place) (c : ℕ) → list_any (evals_in c) (map sight ps) ≡ is_open ps c
unfolding evals_in is_open is_eval sight
open_is ps c = any_map sight (evals_in c) ps

-- ---- outwards

module _ (ts : List ClassTable) (ps : List Place) (held : AreTablesOf ts ps) (x : Text) where
  -- what a class body declares decides, or else those outwards
  binder_step : (c : ℕ) (cs : List ℕ) → (d : Option Declared) → option_map (λ e. e.node) d ≡ node_of (find (declares_private_name same_name x c) ps)
      → option_map (λ f. f.node) (nearest (found_in ts x) cs) ≡ private_binder same_name ps x cs
      → option_map (λ f. f.node) (or_else (option_map (λ e. record { class = c; index = e.index; node = e.node }) d) (nearest (found_in ts x) cs)) ≡ private_binder same_name ps x (c ∷ cs)
  unfolding private_binder or_else
  binder_step c cs None e ih = ih ∙ ap (λ (o : Option ℕ). elim o as (λ _. Option ℕ) [ Some n ↦ Some n | None ↦ private_binder same_name ps x cs ]) e
  binder_step c cs (Some d) e ih = ap (λ (o : Option ℕ). elim o as (λ _. Option ℕ) [ Some n ↦ Some n | None ↦ private_binder same_name ps x cs ]) e

  pub binder_is : (cs : List ℕ) → option_map (λ f. f.node) (nearest (found_in ts x) cs) ≡ private_binder same_name ps x cs
  unfolding private_binder nearest found_in
  binder_is [] = refl
  binder_is (c ∷ cs) = binder_step c cs (at ts c x) (held.node c x ∙ node_is ps c x) (binder_is cs)

  class_step : (c : ℕ) (cs : List ℕ) → (d : Option Declared) → is_some d ≡ is_among (private_names ps c) x
      → option_map (λ f. f.class) (nearest (found_in ts x) cs) ≡ declaring_class ps x cs
      → option_map (λ f. f.class) (or_else (option_map (λ e. record { class = c; index = e.index; node = e.node }) d) (nearest (found_in ts x) cs)) ≡ declaring_class ps x (c ∷ cs)
  unfolding declaring_class or_else
  class_step c cs None e ih = ih ∙ ap (λ (b : Bool). if b then Some c else declaring_class ps x cs) e
  class_step c cs (Some d) e ih = ap (λ (b : Bool). if b then Some c else declaring_class ps x cs) e

  pub class_is : (cs : List ℕ) → option_map (λ f. f.class) (nearest (found_in ts x) cs) ≡ declaring_class ps x cs
  unfolding declaring_class nearest found_in
  class_is [] = refl
  class_is (c ∷ cs) = class_step c cs (at ts c x) (among_told (map sight ps) ts held c x ∙ ap (λ ns. is_among ns x) (names_are ps c)) (class_is cs)

  index_step : (c : ℕ) (cs : List ℕ) → (d : Option Declared) → is_some d ≡ is_among (private_names ps c) x → option_map (λ e. e.index) d ≡ place_in x (private_names ps c)
      → option_map (λ f. f.index) (nearest (found_in ts x) cs) ≡ option_map (λ k. index_of x (private_names ps k)) (declaring_class ps x cs)
      → option_map (λ f. f.index) (or_else (option_map (λ e. record { class = c; index = e.index; node = e.node }) d) (nearest (found_in ts x) cs)) ≡ option_map (λ k. index_of x (private_names ps k)) (declaring_class ps x (c ∷ cs))
  unfolding declaring_class or_else
  index_step c cs None e g ih = ih ∙ ap (λ (b : Bool). option_map (λ k. index_of x (private_names ps k)) (if b then Some c else declaring_class ps x cs)) e
  index_step c cs (Some d) e g ih =
      ap (λ (n : ℕ). Some n) (sym (place_is_index x (private_names ps c) d.index (sym g)))
      ∙ ap (λ (b : Bool). option_map (λ k. index_of x (private_names ps k)) (if b then Some c else declaring_class ps x cs)) e

  pub index_is : (cs : List ℕ) → option_map (λ f. f.index) (nearest (found_in ts x) cs) ≡ option_map (λ k. index_of x (private_names ps k)) (declaring_class ps x cs)
  unfolding declaring_class nearest found_in
  index_is [] = refl
  index_is (c ∷ cs) = index_step c cs (at ts c x) (among_told (map sight ps) ts held c x ∙ ap (λ ns. is_among ns x) (names_are ps c)) (held.index c x ∙ ap (place_in x) (names_are ps c)) (index_is cs)

-- ---- of an entry and its place

module _ (ts : List ClassTable) (os : List ClassEntry) (ps : List Place) (held : AreTablesOf ts ps) (e : PlaceEntry) (p : Place) (same : sight p ≡ sight_of os e) where
  pub binding_is : binding_at ts os e ≡ private_binding same_name ps p
  unfolding binding_at declaration_of private_binding sight sight_of
  binding_is =
      ap (λ (s : Sight). if s.private then option_map (λ f. f.node) (nearest (found_in ts s.name) s.classes) else None) (sym same)
      ∙ ap (λ (o : Option ℕ). if p.site.private then o else None) (binder_is ts ps held p.name p.site.setting.classes)

  pub declaring_is : class_at ts os e ≡ declaring_class ps p.name p.site.setting.classes
  unfolding class_at declaration_of sight sight_of
  declaring_is =
      ap (λ (s : Sight). option_map (λ f. f.class) (nearest (found_in ts s.name) s.classes)) (sym same)
      ∙ class_is ts ps held p.name p.site.setting.classes

  pub name_index_is : index_at ts os e ≡ option_map (λ c. index_of p.name (private_names ps c)) (declaring_class ps p.name p.site.setting.classes)
  unfolding index_at declaration_of sight sight_of
  name_index_is =
      ap (λ (s : Sight). option_map (λ f. f.index) (nearest (found_in ts s.name) s.classes)) (sym same)
      ∙ index_is ts ps held p.name p.site.setting.classes

  pub undeclared_is : undeclared_at ts os e ≡ is_undeclared same_name ps p
  unfolding undeclared_at is_undeclared sight sight_of
  undeclared_is =
      ap (λ (s : Sight). s.private && not (is_some (binding_at ts os e))) (sym same)
      ∙ ap (λ o. p.site.private && not (is_some o)) binding_is

-- ---- of all entries and their places

first_or : Sight → List Sight → Sight
first_or d [] = d
first_or d (s ∷ ss) = s

but_first : List Sight → List Sight
but_first [] = []
but_first (s ∷ ss) = ss

is_empty : List Sight → Bool
is_empty [] = true
is_empty (s ∷ ss) = false

pub all_alike : {Y : Type 0} (os : List ClassEntry) (f : PlaceEntry → Y) (g : Place → Y) → ((e : PlaceEntry) (p : Place) → sight p ≡ sight_of os e → f e ≡ g p)
    → (es : List PlaceEntry) (ps : List Place) → AreOf os es ps → map f es ≡ map g ps
unfolding first_or but_first is_empty
all_alike os f g same [] [] h = refl
all_alike os f g same [] (p ∷ ps) h = absurd (both_ways _ refl (ap is_empty h))
all_alike os f g same (e ∷ es) [] h = absurd (both_ways _ (ap is_empty h) refl)
all_alike os f g same (e ∷ es) (p ∷ ps) h =
    ap (λ y. y ∷ map f es) (same e p (ap (first_or (sight p)) h)) ∙ ap (λ ys. g p ∷ ys) (all_alike os f g same es ps (ap but_first h))

pub any_alike : (os : List ClassEntry) (f : PlaceEntry → Bool) (g : Place → Bool) → ((e : PlaceEntry) (p : Place) → sight p ≡ sight_of os e → f e ≡ g p)
    → (es : List PlaceEntry) (ps : List Place) → AreOf os es ps → list_any f es ≡ list_any g ps
any_alike os f g same es ps h =
    sym (any_map f (λ (b : Bool). b) es) ∙ ap (list_any (λ (b : Bool). b)) (all_alike os f g same es ps h) ∙ any_map g (λ (b : Bool). b) ps

pub undeclared_any : (ts : List ClassTable) (os : List ClassEntry) (es : List PlaceEntry) (ps : List Place) → AreOf os es ps → AreTablesOf ts ps → list_any (undeclared_at ts os) es ≡ has_undeclared same_name ps
unfolding has_undeclared
undeclared_any ts os es ps are held = any_alike os (undeclared_at ts os) (is_undeclared same_name ps) (undeclared_is ts os ps held) es ps are
