-- What holds of each walk: scopes are numbered in order, each scope's parent and each place's scope is among them, and there is one name for each site.
use Rattle.std.specs.List.{list_any, list_all}
use Rattle.std.specs.Prelude.{◌≡◌, ◌⊎◌, ℕ, suc, Bool, true, false, cond, ◌||◌, List, [], ◌∷◌, length, ⊤}
use Rattle.std.proofs.Common.{refl, inl, inr}
use Rattle.std.proofs.lemmas.Bool.{or_cases, or_left, or_right, and_from}
use Rattle.list_laws.proofs.AnyOf.{all_weaken}
use Rattle.tree_nodes.specs.Along.{Along, all, each, first_column, other_columns}
use Rattle.tree_nodes.specs.Table.{Column, row}
use Rattle.tree_nodes.specs.Tree.{Parts, atom, child, done, many}
use Rattle.tree_nodes.specs.declared.table.Opens.{Opens}
use Rattle.tree_nodes.specs.declared.table.Opens.TheVariants.{BareBlock, Block, ClassMembers, Hoisting, NameHere, Nothing, PrivateNameHere, WithBody}
use Rattle.tree_places.proofs.MarkedSettings.{inner_setting, mark_keeps_scope}
use Rattle.tree_places.proofs.Outwards.{same_scope_refl}
use Rattle.tree_places.specs.Open.{all_open}
use Rattle.tree_places.specs.Places.{Around, Setting, Seen, at_field, enter, hide, met, side, strict_in, walk}
use Rattle.tree_places.specs.Scopes.{same_scope, Scope}

-- a scope of the list, or none at all
abbrev pub known : List Scope → Scope → Bool
known ss x = same_scope x [] || list_any (same_scope x) ss

-- the last first: each scope is the number of those before it, in a known one
abbrev pub Proper : List Scope → Type 0
Proper [] = ⊤
Proper (s ∷ ss) = (outer : Scope) × (s ≡ length ss ∷ outer) × (known ss outer ≡ true) × Proper ss

pub record Good (a : Around) (s : Seen) : Type 0 where
  pub proper : Proper s.scopes
  pub outside : known s.scopes a.outside.scope ≡ true
  pub inside : known s.scopes a.inside.scope ≡ true
  pub placed : list_all (λ x. known s.scopes x.setting.scope) s.sites ≡ true

pub record Stepped (s s' : Seen) : Type 0 where
  pub proper : Proper s'.scopes
  pub grows : (x : Scope) → known s.scopes x ≡ true → known s'.scopes x ≡ true
  pub placed : list_all (λ x. known s'.scopes x.setting.scope) s'.sites ≡ true

pub known_more : (ss : List Scope) (n x : Scope) → known ss x ≡ true → known (n ∷ ss) x ≡ true
unfolding all_open
known_more ss n x h = go (or_cases _ _ h)
  where
    go : (same_scope x [] ≡ true) ⊎ (list_any (same_scope x) ss ≡ true) → known (n ∷ ss) x ≡ true
    go (inl e) = or_left _ _ e
    go (inr e) = or_right _ _ (or_right _ _ e)

pub known_first : (ss : List Scope) (n : Scope) → known (n ∷ ss) n ≡ true
unfolding all_open
known_first ss n = or_right _ _ (or_left _ _ (same_scope_refl n))

side_known : (b : Bool) (a : Around) (s : Seen) → Good a s → known s.scopes (side b a).scope ≡ true
unfolding all_open
side_known true a s g = g.inside
side_known false a s g = g.outside

field_known : (f : Column) (a : Around) (s : Seen) → Good a s → known s.scopes (at_field f a).scope ≡ true
unfolding all_open
field_known f a s g = rw (mark_keeps_scope f.mark) (side_known f.inside a s g)

-- a node with a scope: the scope is the next one
next : (s : Seen) (e : Setting) → known s.scopes e.scope ≡ true → Proper s.scopes → Proper ((length s.scopes ∷ e.scope) ∷ s.scopes)
unfolding all_open
next s e k p = (e.scope, refl, k, p)

more_placed : (s : Seen) (n : Scope) → list_all (λ x. known s.scopes x.setting.scope) s.sites ≡ true → list_all (λ x. known (n ∷ s.scopes) x.setting.scope) s.sites ≡ true
unfolding all_open
more_placed s n h = all_weaken (λ x. known s.scopes x.setting.scope) (λ x. known (n ∷ s.scopes) x.setting.scope) (λ x. known_more s.scopes n x.setting.scope) s.sites h

same_step : (s : Seen) → Proper s.scopes → list_all (λ x. known s.scopes x.setting.scope) s.sites ≡ true → Stepped s s
unfolding all_open
same_step s p h = record { proper = p; grows = λ x k. k; placed = h }

opened_step : (s : Seen) (e : Setting) → known s.scopes e.scope ≡ true → Proper s.scopes → list_all (λ x. known s.scopes x.setting.scope) s.sites ≡ true
    → Stepped s (record s { nodes = suc s.nodes; scopes = (length s.scopes ∷ e.scope) ∷ s.scopes })
unfolding all_open
opened_step s e k p h = record { proper = next s e k p; grows = λ x. known_more s.scopes (length s.scopes ∷ e.scope) x; placed = more_placed s (length s.scopes ∷ e.scope) h }

met_step : (o : Opens) (b : ℕ) (e : Setting) (strict : Bool) (s : Seen) → known s.scopes e.scope ≡ true → Proper s.scopes → list_all (λ x. known s.scopes x.setting.scope) s.sites ≡ true
    → Stepped s (met o b e (inner_setting o e strict s).scope s) × (known (met o b e (inner_setting o e strict s).scope s).scopes (inner_setting o e strict s).scope ≡ true)
unfolding all_open
met_step Nothing b e strict s k p h = (record { proper = p; grows = λ x j. j; placed = h }, k)
met_step Block b e strict s k p h = (opened_step s e k p h, known_first s.scopes (length s.scopes ∷ e.scope))
met_step WithBody b e strict s k p h = (record { proper = next s e k p; grows = λ x. known_more s.scopes (length s.scopes ∷ e.scope) x; placed = more_placed s (length s.scopes ∷ e.scope) h }, known_first s.scopes (length s.scopes ∷ e.scope))
met_step BareBlock b e strict s k p h = go e.bare
  where
    go : (b : Bool) → Stepped s (record s { nodes = suc s.nodes; scopes = cond b s.scopes ((cond b (record e { strict = strict }) (record e { strict = strict; scope = length s.scopes ∷ e.scope })).scope ∷ s.scopes) })
        × (known (cond b s.scopes ((cond b (record e { strict = strict }) (record e { strict = strict; scope = length s.scopes ∷ e.scope })).scope ∷ s.scopes)) (cond b (record e { strict = strict }) (record e { strict = strict; scope = length s.scopes ∷ e.scope })).scope ≡ true)
    go true = (record { proper = p; grows = λ x j. j; placed = h }, k)
    go false = (opened_step s e k p h, known_first s.scopes (length s.scopes ∷ e.scope))
met_step Hoisting b e strict s k p h = (opened_step s e k p h, known_first s.scopes (length s.scopes ∷ e.scope))
met_step ClassMembers b e strict s k p h = (record { proper = p; grows = λ x j. j; placed = h }, k)
met_step NameHere b e strict s k p h = (record { proper = p; grows = λ x j. j; placed = and_from _ _ k h }, k)
met_step PrivateNameHere b e strict s k p h = (record { proper = p; grows = λ x j. j; placed = and_from _ _ k h }, k)

good_after : (a : Around) (s s' : Seen) → Good a s → Stepped s s' → Good a s'
unfolding all_open
good_after a s s' g st = record { proper = st.proper; outside = st.grows a.outside.scope g.outside; inside = st.grows a.inside.scope g.inside; placed = st.placed }

then_step : (s s' s'' : Seen) → Stepped s s' → Stepped s' s'' → Stepped s s''
unfolding all_open
then_step s s' s'' a b = record { proper = b.proper; grows = λ x k. b.grows x (a.grows x k); placed = b.placed }

pub walk_good : (x : Parts) (rows : Along) (a : Around) (s : Seen) → Good a s → Stepped s (walk x rows a s)
unfolding all_open
walk_good done rows a s g = same_step s g.proper g.placed
walk_good (atom v more) rows a s g = walk_good more (other_columns rows) a s g
walk_good (many items more) rows a s g =
    let first : Stepped s (walk items (all (first_column rows)) a s) = walk_good items (all (first_column rows)) a s g in
    then_step s (walk items (all (first_column rows)) a s) (walk more (other_columns rows) a (walk items (all (first_column rows)) a s)) first
    (walk_good more (other_columns rows) a (walk items (all (first_column rows)) a s) (good_after a s (walk items (all (first_column rows)) a s) g first))
walk_good (child k b e fields more) rows a s g =
    let here : Setting = at_field (first_column rows) a in
    let around : Around = enter (row k) (hide k fields) here s in
    let s₁ : Seen = met (row k).opens b here around.inside.scope s in
    let s₂ : Seen = walk fields (each (row k).columns) around s₁ in
    let m : Stepped s s₁ × (known s₁.scopes around.inside.scope ≡ true) = met_step (row k).opens b here (strict_in (row k).strict here.strict (hide k fields)) s (field_known (first_column rows) a s g) g.proper g.placed in
    let f : Stepped s₁ s₂ = walk_good fields (each (row k).columns) around s₁ (record { proper = m.0.proper; outside = m.0.grows here.scope (field_known (first_column rows) a s g); inside = m.1; placed = m.0.placed }) in
    let st : Stepped s s₂ = then_step s s₁ s₂ m.0 f in
    then_step s s₂ (walk more (other_columns rows) a s₂) st (walk_good more (other_columns rows) a s₂ (good_after a s s₂ g st))
