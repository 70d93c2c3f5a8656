-- Of each tree: the var scope of a place is the nearest var scope outwards, whichever place is asked, and parameters and function-names stand in one.
use Rattle.std.specs.List.{list_all}
use Rattle.std.specs.Prelude.{◌≡◌, ◌⊎◌, ℕ, suc, ◌<◌, ◌≤◌, Bool, true, false, cond, not, ◌&&◌, ◌||◌, nat_eq, List, [], ◌∷◌, length}
use Rattle.std.proofs.Common.{refl, sym, ap, ◌∙◌, subst, arith, inl, inr}
use Rattle.std.proofs.lemmas.Bool.{or_cases, and_parts, both_ways, eq-eqb, ne_eqb, not-true}
use Rattle.list_laws.proofs.AllOf.{AllOf, AllOf_reverse, AllOf_weaken, of_each}
use Rattle.list_laws.proofs.Members.{In}
use Rattle.tree_nodes.proofs.EachKind.{of_each as of_each_kind}
use Rattle.tree_nodes.specs.Along.{Along, all, each, first_column, other_columns}
use Rattle.tree_nodes.specs.Roles.{role_at}
use Rattle.tree_nodes.specs.Table.{Column, row, unlisted}
use Rattle.tree_nodes.specs.Tree.{Parts, atom, child, done, many}
use Rattle.tree_nodes.specs.declared.kind.Kind.{Kind}
use Rattle.tree_nodes.specs.declared.table.Declared.TheVariants.{FunctionName, Param}
use Rattle.tree_nodes.specs.declared.table.Opens.{Opens}
use Rattle.tree_nodes.specs.declared.table.Opens.TheVariants.{BareBlock, Block, ClassMembers, Hoisting, NameHere, Nothing, PrivateNameHere, WithBody}
use Rattle.tree_nodes.specs.declared.table.Role.{Role}
use Rattle.tree_nodes.specs.declared.table.Role.TheVariants.{Declares}
use Rattle.tree_places.proofs.MarkedSettings.{inner_setting, mark_keeps_role, mark_keeps_scope, mark_keeps_var_scope}
use Rattle.tree_places.proofs.Outwards.{same_scope_eq}
use Rattle.tree_places.specs.Lineage.{opens_var_scope}
use Rattle.tree_places.specs.Open.{all_open}
use Rattle.tree_places.specs.Places.{Around, Seen, Setting, Site, at_field, before_all, enter, hide, met, nothing_yet, opened, seen, side, sites, strict_in, walk}
use Rattle.tree_places.specs.Scopes.{Scope, is_inside, same_scope}
use Rattle.scope_rules.proofs.GivenRoles.{IsNarrow, given_by_field, gives, hands_on, no_role}

-- ---- the nearest scope outwards whose number is that of a var scope

abbrev pub nearest : (ℕ → Bool) → Scope → Scope
nearest v [] = []
nearest v (n ∷ ns) = cond (v n) (n ∷ ns) (nearest v ns)

abbrev pub Below : ℕ → Scope → Type 0
Below n s = AllOf (λ k. k < n) s

-- below n, the same numbers are those of var scopes
abbrev pub Agree : (ℕ → Bool) → (ℕ → Bool) → ℕ → Type 0
Agree u v n = (k : ℕ) → k < n → u k ≡ v k

pub record Fits (v : ℕ → Bool) (n : ℕ) (e : Setting) : Type 0 where
  pub below : Below n e.scope
  pub near : nearest v e.scope ≡ e.var_scope

abbrev pub AllFit : (ℕ → Bool) → ℕ → List Site → Type 0
AllFit v n ss = AllOf (λ q. Fits v n q.setting) ss

nearest_same : (u v : ℕ → Bool) (n : ℕ) (s : Scope) → Agree u v n → Below n s → nearest u s ≡ nearest v s
nearest_same u v n [] f b = refl
nearest_same u v n (k ∷ ks) f b =
    ap (λ c. cond c (k ∷ ks) (nearest u ks)) (f k b.0) ∙ ap (λ (r : Scope). cond (v k) (k ∷ ks) r) (nearest_same u v n ks f b.1)

below_more : (m n : ℕ) (s : Scope) → m ≤ n → Below m s → Below n s
below_more m n s h b = AllOf_weaken (λ k. k < m) (λ k. k < n) (λ k i. omega (arith, h, i)) s b

pub fits_more : (u v : ℕ → Bool) (m n : ℕ) (e : Setting) → m ≤ n → Agree u v m → Fits u m e → Fits v n e
fits_more u v m n e h f p = record { below = below_more m n e.scope h p.below; near = sym (nearest_same u v m e.scope f p.below) ∙ p.near }

all_more : (u v : ℕ → Bool) (m n : ℕ) (ss : List Site) → m ≤ n → Agree u v m → AllFit u m ss → AllFit v n ss
all_more u v m n ss h f a = AllOf_weaken (λ q. Fits u m q.setting) (λ q. Fits v n q.setting) (λ q p. fits_more u v m n q.setting h f p) ss a

-- the same, with whether the scope n is a var scope
abbrev marked : (ℕ → Bool) → ℕ → Bool → ℕ → Bool
marked u n h k = cond (nat_eq k n) h (u k)

marked_agree : (u : ℕ → Bool) (n : ℕ) (h : Bool) → Agree u (marked u n h) n
marked_agree u n h k i = sym (ap (λ b. cond b h (u k)) (ne_eqb k n (λ e. omega (arith, i, e))))

marked_self : (u : ℕ → Bool) (n : ℕ) (h : Bool) → marked u n h n ≡ h
marked_self u n h = ap (λ b. cond b h (u n)) (eq-eqb n n refl)

inside_below : (n : ℕ) (s : Scope) → Below n s → Below (suc n) (n ∷ s)
inside_below n s b = (omega arith, below_more n (suc n) s (omega arith) b)

inside_near : (u : ℕ → Bool) (n : ℕ) (h : Bool) (e : Setting) → Fits u n e → nearest (marked u n h) (n ∷ e.scope) ≡ cond h (n ∷ e.scope) e.var_scope
inside_near u n h e p =
    ap (λ b. cond b (n ∷ e.scope) (nearest (marked u n h) e.scope)) (marked_self u n h)
    ∙ ap (λ (r : Scope). cond h (n ∷ e.scope) r) (sym (nearest_same u (marked u n h) n e.scope (marked_agree u n h) p.below) ∙ p.near)

-- ---- the walk

pub record After (u : ℕ → Bool) (s s' : Seen) : Type 0 where
  pub vars : ℕ → Bool
  pub agree : Agree u vars (length s.scopes)
  pub more : length s.scopes ≤ length s'.scopes
  pub placed : AllFit vars (length s'.scopes) s'.sites

pub record Met (u : ℕ → Bool) (s s' : Seen) (inner : Setting) : Type 0 where
  pub after : After u s s'
  pub inside : Fits after.vars (length s'.scopes) inner

side_fits : (b : Bool) (v : ℕ → Bool) (n : ℕ) (a : Around) → Fits v n a.outside → Fits v n a.inside → Fits v n (side b a)
unfolding all_open
side_fits true v n a p q = q
side_fits false v n a p q = p

pub field_fits : (f : Column) (v : ℕ → Bool) (n : ℕ) (a : Around) → Fits v n a.outside → Fits v n a.inside → Fits v n (at_field f a)
unfolding all_open
field_fits f v n a p q =
    let s : Fits v n (side f.inside a) = side_fits f.inside v n a p q in
    record { below = rw (mark_keeps_scope f.mark) s.below; near = rw (mark_keeps_scope f.mark, mark_keeps_var_scope f.mark) s.near }

-- a node that opens no scope, and one that does
unopened : (u : ℕ → Bool) (s s' : Seen) (e e' : Setting) → length s'.scopes ≡ length s.scopes → e'.scope ≡ e.scope → e'.var_scope ≡ e.var_scope
    → Fits u (length s.scopes) e → AllFit u (length s.scopes) s'.sites → Met u s s' e'
unopened u s s' e e' h i j p a = record {
  after = record { vars = u; agree = λ k l. refl; more = omega (arith, h); placed = subst (λ (n : ℕ). AllFit u n s'.sites) (sym h) a };
  inside = record { below = subst (λ (n : ℕ). Below n e'.scope) (sym h) (subst (Below (length s.scopes)) (sym i) p.below); near = ap (nearest u) i ∙ p.near ∙ sym j };
}

newly_opened : (u : ℕ → Bool) (h : Bool) (s s' : Seen) (e e' : Setting) → length s'.scopes ≡ suc (length s.scopes) → s'.sites ≡ s.sites
    → e'.scope ≡ length s.scopes ∷ e.scope → e'.var_scope ≡ cond h (length s.scopes ∷ e.scope) e.var_scope
    → Fits u (length s.scopes) e → AllFit u (length s.scopes) s.sites → Met u s s' e'
newly_opened u h s s' e e' l w i j p a =
    let v : ℕ → Bool = marked u (length s.scopes) h in
    let b : AllFit v (suc (length s.scopes)) s.sites = all_more u v (length s.scopes) (suc (length s.scopes)) s.sites (omega arith) (marked_agree u (length s.scopes) h) a in
    record {
      after = record { vars = v; agree = marked_agree u (length s.scopes) h; more = omega (arith, l); placed = subst (λ (n : ℕ). AllFit v n s'.sites) (sym l) (subst (AllFit v (suc (length s.scopes))) (sym w) b) };
      inside = record {
        below = subst (λ (n : ℕ). Below n e'.scope) (sym l) (subst (Below (suc (length s.scopes))) (sym i) (inside_below (length s.scopes) e.scope p.below));
        near = ap (nearest v) i ∙ inside_near u (length s.scopes) h e p ∙ sym j;
      };
    }

pub met_fits : (o : Opens) (b : ℕ) (e : Setting) (strict : Bool) (u : ℕ → Bool) (s : Seen) → Fits u (length s.scopes) e → AllFit u (length s.scopes) s.sites
    → Met u s (met o b e (inner_setting o e strict s).scope s) (inner_setting o e strict s)
unfolding all_open
met_fits Nothing b e strict u s p a = unopened u s _ e _ refl refl refl p a
met_fits Block b e strict u s p a = newly_opened u false s _ e _ refl refl refl refl p a
met_fits WithBody b e strict u s p a = newly_opened u false s _ e _ refl refl refl refl p a
met_fits Hoisting b e strict u s p a = newly_opened u true s _ e _ refl refl refl refl p a
met_fits ClassMembers b e strict u s p a = unopened u s _ e _ refl refl refl p a
met_fits NameHere b e strict u s p a = unopened u s _ e _ refl refl refl p (p, a)
met_fits PrivateNameHere b e strict u s p a = unopened u s _ e _ refl refl refl p (p, a)
met_fits BareBlock b e strict u s p a = go e.bare
  where
    go : (c : Bool) → Met u s (record s { nodes = suc s.nodes; scopes = cond c s.scopes ((cond c (record e { strict = strict }) (record e { strict = strict; scope = length s.scopes ∷ e.scope })).scope ∷ s.scopes) })
        (cond c (record e { strict = strict }) (record e { strict = strict; scope = length s.scopes ∷ e.scope }))
    go true = unopened u s _ e _ refl refl refl p a
    go false = newly_opened u false s _ e _ refl refl refl refl p a

pub then_after : (u : ℕ → Bool) (s s' s'' : Seen) (a : After u s s') → After a.vars s' s'' → After u s s''
then_after u s s' s'' a b = record {
  vars = b.vars;
  agree = λ k i. a.agree k i ∙ b.agree k (let m : length s.scopes ≤ length s'.scopes = a.more in omega (arith, i, m));
  more = (let m : length s.scopes ≤ length s'.scopes = a.more in let n : length s'.scopes ≤ length s''.scopes = b.more in omega (arith, m, n));
  placed = b.placed;
}

pub walk_fits : (x : Parts) (columns : Along) (a : Around) (s : Seen) (u : ℕ → Bool) → Fits u (length s.scopes) a.outside → Fits u (length s.scopes) a.inside → AllFit u (length s.scopes) s.sites
    → After u s (walk x columns a s)
unfolding all_open
walk_fits done columns a s u p q r = record { vars = u; agree = λ k i. refl; more = omega arith; placed = r }
walk_fits (atom v more) columns a s u p q r = walk_fits more (other_columns columns) a s u p q r
walk_fits (many items more) columns a s u p q r =
    let s₁ : Seen = walk items (all (first_column columns)) a s in
    let one : After u s s₁ = walk_fits items (all (first_column columns)) a s u p q r in
    then_after u s s₁ (walk more (other_columns columns) a s₁) one
    (walk_fits more (other_columns columns) a s₁ one.vars
    (fits_more u one.vars (length s.scopes) (length s₁.scopes) a.outside one.more one.agree p) (fits_more u one.vars (length s.scopes) (length s₁.scopes) a.inside one.more one.agree q) one.placed)
walk_fits (child k b st fields more) columns a s u p q r =
    let here : Setting = at_field (first_column columns) a in
    let around : Around = enter (row k) (hide k fields) here s in
    let s₁ : Seen = met (row k).opens b here around.inside.scope s in
    let s₂ : Seen = walk fields (each (row k).columns) around s₁ in
    let h : Fits u (length s.scopes) here = field_fits (first_column columns) u (length s.scopes) a p q in
    let m : Met u s s₁ around.inside = met_fits (row k).opens b here (strict_in (row k).strict here.strict (hide k fields)) u s h r in
    let two : After m.after.vars s₁ s₂ = walk_fits fields (each (row k).columns) around s₁ m.after.vars
    (fits_more u m.after.vars (length s.scopes) (length s₁.scopes) here m.after.more m.after.agree h) m.inside m.after.placed in
    let both : After u s s₂ = then_after u s s₁ s₂ m.after two in
    then_after u s s₂ (walk more (other_columns columns) a s₂) both
    (walk_fits more (other_columns columns) a s₂ both.vars
    (fits_more u both.vars (length s.scopes) (length s₂.scopes) a.outside both.more both.agree p) (fits_more u both.vars (length s.scopes) (length s₂.scopes) a.inside both.more both.agree q) both.placed)

abbrev Near : (ℕ → Bool) → Site → Type 0
Near v q = nearest v q.setting.scope ≡ q.setting.var_scope

near_all : (t : Parts) → (v : ℕ → Bool) × AllOf (Near v) (sites t)
unfolding all_open
near_all t =
    let none : ℕ → Bool = λ k. false in
    let a : After none nothing_yet (seen t) = walk_fits t (all unlisted) before_all nothing_yet none (record { below = tt; near = refl }) (record { below = tt; near = refl }) tt in
    (a.vars, AllOf_reverse (Near a.vars) (seen t).sites (AllOf_weaken (λ q. Fits a.vars (length (seen t).scopes) q.setting) (Near a.vars) (λ q p. p.near) (seen t).sites a.placed))

-- what is found begins with a var scope
nearest_heads : (v : ℕ → Bool) (x : Scope) (k : ℕ) (ks : Scope) → nearest v x ≡ k ∷ ks → v k ≡ true
unfolding all_open
nearest_heads v [] k ks e = absurd (both_ways false refl (ap (λ (s : Scope). elim s [ [] ↦ false | n ∷ ns ↦ true ]) e))
nearest_heads v (m ∷ ms) k ks e = go (v m) refl e (nearest_heads v ms k ks)
  where
    go : (b : Bool) → v m ≡ b → cond b (m ∷ ms) (nearest v ms) ≡ k ∷ ks → (nearest v ms ≡ k ∷ ks → v k ≡ true) → v k ≡ true
    go true h q ih = subst (λ (n : ℕ). v n ≡ true) (ap (λ (s : Scope). elim s [ [] ↦ k | n ∷ ns ↦ n ]) q) h
    go false h q ih = ih q

nearest_lies_inside : (v : ℕ → Bool) (r s : Scope) → ((k : ℕ) (ks : Scope) → r ≡ k ∷ ks → v k ≡ true) → is_inside s r ≡ true → is_inside (nearest v s) r ≡ true
unfolding all_open
nearest_lies_inside v r [] h i = i
nearest_lies_inside v r (k ∷ ks) h i = go (v k) refl i (or_cases _ _ i) (nearest_lies_inside v r ks h)
  where
    go : (b : Bool) → v k ≡ b → is_inside (k ∷ ks) r ≡ true → (same_scope (k ∷ ks) r ≡ true) ⊎ (is_inside ks r ≡ true) → (is_inside ks r ≡ true → is_inside (nearest v ks) r ≡ true) → is_inside (cond b (k ∷ ks) (nearest v ks)) r ≡ true
    go true q j o ih = j
    go false q j (inl e) ih = absurd (both_ways _ q (h k ks (sym (same_scope_eq (k ∷ ks) r e))))
    go false q j (inr e) ih = ih e

-- a place inside a var scope has its own var scope at or inside that
pub hoisted : (t : Parts) (p q : Site) → In p (sites t) → In q (sites t) → is_inside p.setting.scope q.setting.var_scope ≡ true → is_inside p.setting.var_scope q.setting.var_scope ≡ true
unfolding all_open
hoisted t p q i j h =
    let n : (v : ℕ → Bool) × AllOf (Near v) (sites t) = near_all t in
    let at : nearest n.0 q.setting.scope ≡ q.setting.var_scope = of_each (Near n.0) (sites t) q n.1 j in
    subst (λ (s : Scope). is_inside s q.setting.var_scope ≡ true) (of_each (Near n.0) (sites t) p n.1 i)
    (nearest_lies_inside n.0 q.setting.var_scope p.setting.scope (λ k ks e. nearest_heads n.0 q.setting.scope k ks (at ∙ e)) h)

-- ---- parameters and function-names

abbrev pub is_pinned : Role → Bool
is_pinned (Declares Param) = true
is_pinned (Declares (FunctionName special)) = true
is_pinned _ = false

abbrev pub Pinned : Setting → Type 0
Pinned e = is_pinned e.role ≡ true → e.scope ≡ e.var_scope

is_pinned_narrow : IsNarrow is_pinned
unfolding all_open
is_pinned_narrow = record { plain = refl; read = refl; write = refl; read_write = refl; called = refl; variable = refl; lexical = refl; constant = refl; function = λ special. refl }

abbrev column_fits : Opens → Column → Bool
column_fits o c = (not (gives is_pinned c.mode) || (c.inside && opens_var_scope o)) && (not (hands_on c.mode) || not c.inside)

abbrev along_fits : Opens → Along → Bool
along_fits o (each cs) = list_all (column_fits o) cs
along_fits o (all c) = column_fits o c

-- in the table, a field for parameters or a function's name lies in the var scope of its node, and one that hands the role on lies in no scope of its node
row_fits : (k : Kind) → along_fits (row k).opens (each (row k).columns) ≡ true
unfolding all_open
row_fits k = of_each_kind (λ (l : Kind). along_fits (row l).opens (each (row l).columns)) refl refl k

-- what a column that fits says
or_says : (a b : Bool) → (not a || b) ≡ true → a ≡ true → b ≡ true
or_says true b h e = h
or_says false b h e = no_role e

side_pinned : (b : Bool) (a : Around) → b ≡ false → a.outside.scope ≡ a.outside.var_scope → (side b a).scope ≡ (side b a).var_scope
unfolding all_open
side_pinned true a n h = absurd (both_ways _ n refl)
side_pinned false a n h = h

side_hoists : (b : Bool) (a : Around) → b ≡ true → a.inside.scope ≡ a.inside.var_scope → (side b a).scope ≡ (side b a).var_scope
unfolding all_open
side_hoists true a n h = h
side_hoists false a n h = absurd (both_ways false refl n)

field_pinned : (c : Column) (a : Around) (o : Opens) → column_fits o c ≡ true → (opens_var_scope o ≡ true → a.inside.scope ≡ a.inside.var_scope) → Pinned a.outside → Pinned (at_field c a)
unfolding all_open
field_pinned c a o f i p h =
    let two : ((not (gives is_pinned c.mode) || (c.inside && opens_var_scope o)) ≡ true) × ((not (hands_on c.mode) || not c.inside) ≡ true) = and_parts _ _ f in
    let role : is_pinned (role_at c.mode a.outside.role a.fields) ≡ true = subst (λ (r : Role). is_pinned r ≡ true) (mark_keeps_role c.mark _ _ _ _) h in
    rw (mark_keeps_scope c.mark, mark_keeps_var_scope c.mark) (go two (given_by_field is_pinned is_pinned_narrow c.mode a.outside.role a.fields role))
  where
    go : ((not (gives is_pinned c.mode) || (c.inside && opens_var_scope o)) ≡ true) × ((not (hands_on c.mode) || not c.inside) ≡ true)
        → (gives is_pinned c.mode ≡ true) ⊎ ((hands_on c.mode ≡ true) × (is_pinned a.outside.role ≡ true)) → (side c.inside a).scope ≡ (side c.inside a).var_scope
    go two (inl e) = let both : (c.inside ≡ true) × (opens_var_scope o ≡ true) = and_parts _ _ (or_says _ _ two.0 e) in side_hoists c.inside a both.0 (i both.1)
    go two (inr e) = side_pinned c.inside a (not-true _ (or_says _ _ two.1 e.0)) (p e.1)

first_fits : (o : Opens) (cs : Along) → along_fits o cs ≡ true → column_fits o (first_column cs) ≡ true
unfolding all_open
first_fits o (each []) h = refl
first_fits o (each (c ∷ cs)) h = (and_parts _ _ h).0
first_fits o (all c) h = h

others_fit : (o : Opens) (cs : Along) → along_fits o cs ≡ true → along_fits o (other_columns cs) ≡ true
unfolding all_open
others_fit o (each []) h = refl
others_fit o (each (c ∷ cs)) h = (and_parts _ _ h).1
others_fit o (all c) h = h

opened_hoists : (o : Opens) (n c : ℕ) (e : Setting) → opens_var_scope o ≡ true → (opened o n c e).scope ≡ (opened o n c e).var_scope
unfolding all_open
opened_hoists Hoisting n c e h = refl
opened_hoists _ n c e h = no_role h

abbrev AllPinned : List Site → Type 0
AllPinned ss = AllOf (λ q. Pinned q.setting) ss

met_pinned : (o : Opens) (b : ℕ) (e : Setting) (inner : Scope) (s : Seen) → Pinned e → AllPinned s.sites → AllPinned (met o b e inner s).sites
unfolding all_open
met_pinned NameHere b e inner s h a = (h, a)
met_pinned PrivateNameHere b e inner s h a = (h, a)
met_pinned _ b e inner s h a = a

walk_pinned : (x : Parts) (columns : Along) (a : Around) (s : Seen) (o : Opens) → along_fits o columns ≡ true → (opens_var_scope o ≡ true → a.inside.scope ≡ a.inside.var_scope) → Pinned a.outside
    → AllPinned s.sites → AllPinned (walk x columns a s).sites
unfolding all_open
walk_pinned done columns a s o f i p r = r
walk_pinned (atom v more) columns a s o f i p r = walk_pinned more (other_columns columns) a s o (others_fit o columns f) i p r
walk_pinned (many items more) columns a s o f i p r =
    walk_pinned more (other_columns columns) a (walk items (all (first_column columns)) a s) o (others_fit o columns f) i p
    (walk_pinned items (all (first_column columns)) a s o (first_fits o columns f) i p r)
walk_pinned (child k b st fields more) columns a s o f i p r =
    let here : Setting = at_field (first_column columns) a in
    let around : Around = enter (row k) (hide k fields) here s in
    let s₁ : Seen = met (row k).opens b here around.inside.scope s in
    let h : Pinned here = field_pinned (first_column columns) a o (first_fits o columns f) i p in
    walk_pinned more (other_columns columns) a (walk fields (each (row k).columns) around s₁) o (others_fit o columns f) i p
    (walk_pinned fields (each (row k).columns) around s₁ (row k).opens (row_fits k)
    (opened_hoists (row k).opens (length s.scopes) s.classes (record here { strict = strict_in (row k).strict here.strict (hide k fields) })) h
    (met_pinned (row k).opens b here around.inside.scope s h r))

-- a parameter or function-name stands in a var scope
pub pinned : (t : Parts) (q : Site) → In q (sites t) → Pinned q.setting
unfolding all_open
pinned t q i = of_each (λ x. Pinned x.setting) (sites t) q (AllOf_reverse (λ x. Pinned x.setting) (seen t).sites
    (walk_pinned t (all unlisted) before_all nothing_yet Nothing refl (λ h. no_role h) (λ h. no_role h) tt)) i
