-- No two function-names have one home, where each function expression has one name at most: its scope is new when it is met.
use Rattle.std.specs.List.{list_all, list_any}
use Rattle.std.specs.Prelude.{◌≡◌, ◌⊎◌, ℕ, ◌<◌, Bool, true, false, cond, not, ◌&&◌, ◌||◌, List, [], ◌∷◌, length, reverse}
use Rattle.std.proofs.Common.{refl, sym, ap, ◌∙◌, subst, arith, inl, inr}
use Rattle.std.proofs.lemmas.Bool.{and_parts, and_from, both_ways, not-true}
use Rattle.std.proofs.lemmas.Grind.{reverse_onto}
use Rattle.list_laws.proofs.AllOf.{AllOf, AllOf_weaken, AllOf_reverse}
use Rattle.list_laws.proofs.AnyOf.{any_some}
use Rattle.list_laws.proofs.Members.{In}
use Rattle.list_laws.proofs.PairsOf.{PairsOf, PairsOf_push}
use Rattle.list_laws.proofs.Tests.{tested}
use Rattle.tree_nodes.proofs.EachKind.{of_each as of_each_kind}
use Rattle.tree_nodes.specs.Along.{Along, all, each, first_column, other_columns}
use Rattle.tree_nodes.specs.Table.{Column, row, unlisted}
use Rattle.tree_nodes.specs.Tree.{Parts, atom, child, done, many}
use Rattle.tree_nodes.specs.declared.kind.Kind.{Kind}
use Rattle.tree_nodes.specs.declared.kind.Kind.TheVariants.{FunctionExpression, Identifier}
use Rattle.tree_nodes.specs.declared.table.Declared.TheVariants.{FunctionName}
use Rattle.tree_nodes.specs.declared.table.Opens.{Opens}
use Rattle.tree_nodes.specs.declared.table.Opens.TheVariants.{NameHere, PrivateNameHere}
use Rattle.tree_nodes.specs.declared.table.Role.{Role}
use Rattle.tree_nodes.specs.declared.table.Role.TheVariants.{Declares}
use Rattle.tree_places.proofs.MarkedSettings.{mark_keeps_role, mark_keeps_scope}
use Rattle.tree_places.proofs.Outwards.{same_scope_eq}
use Rattle.tree_places.specs.Places.{Around, Seen, Setting, Site, at_field, before_all, enter, hide, met, nothing_yet, seen, side, sites, strict_in, walk}
use Rattle.tree_places.specs.Scopes.{Scope, same_scope}
use Rattle.scope_rules.proofs.GivenRoles.{hands_on, no_role, IsNarrow, given_by_field, gives}
use Rattle.scope_rules.proofs.VarScopes.{After, AllFit, Below, Fits, Met, field_fits, fits_more, met_fits, then_after, walk_fits}
use Rattle.scope_rules.specs.FunctionNames.{FunctionNamesStandApart, begins_with_name, is_function_expression, is_identifier_kind, names_functions_once}
use Rattle.scope_rules.specs.Homes.{home, is_function_name, is_var, names_function}
use Rattle.scope_rules.specs.Open.{all_open}
use Rattle.scope_rules.specs.Separation.{function_names_apart}

-- ---- which fields give the role of a function-name

is_function_name_narrow : IsNarrow is_function_name
unfolding all_open
is_function_name_narrow = record { plain = refl; read = refl; write = refl; read_write = refl; called = refl; variable = refl; lexical = refl; constant = refl; function = λ special. refl }

-- in a node whose own role is that of a function-name, or isn't
abbrev is_quiet : Bool → Column → Bool
is_quiet own c = not (gives is_function_name c.mode) && not (hands_on c.mode && own)

abbrev all_quiet : Bool → Along → Bool
all_quiet own (each cs) = list_all (is_quiet own) cs
all_quiet own (all c) = is_quiet own c

-- only a function expression's first field does
row_quiet : (k : Kind) → is_function_expression k ≡ false → all_quiet false (each (row k).columns) ≡ true
unfolding all_open
row_quiet k e =
    subst (λ (b : Bool). (b || all_quiet false (each (row k).columns)) ≡ true) e
    (of_each_kind (λ (l : Kind). is_function_expression l || all_quiet false (each (row l).columns)) refl refl k)

is_expression_kind : (k : Kind) → is_function_expression k ≡ true → k ≡ FunctionExpression
unfolding all_open
is_expression_kind FunctionExpression e = refl
is_expression_kind _ e = no_role e

is_name_kind : (k : Kind) → is_identifier_kind k ≡ true → k ≡ Identifier
unfolding all_open
is_name_kind Identifier e = refl
is_name_kind _ e = no_role e

-- what a quiet field gives is no function-name
quiet_role : (c : Column) (a : Around) → is_quiet (is_function_name a.outside.role) c ≡ true → is_function_name (at_field c a).role ≡ false
unfolding all_open
quiet_role c a q = tested (is_function_name (at_field c a).role)
    (λ h.
    let two : (not (gives is_function_name c.mode) ≡ true) × (not (hands_on c.mode && is_function_name a.outside.role) ≡ true) = and_parts _ _ q in
    go two (given_by_field is_function_name is_function_name_narrow c.mode a.outside.role a.fields (subst (λ (r : Role). is_function_name r ≡ true) (mark_keeps_role c.mark _ _ _ _) h)))
    (λ h. h)
  where
    go : (not (gives is_function_name c.mode) ≡ true) × (not (hands_on c.mode && is_function_name a.outside.role) ≡ true) → (gives is_function_name c.mode ≡ true) ⊎ ((hands_on c.mode ≡ true) × (is_function_name a.outside.role ≡ true)) → is_function_name (at_field c a).role ≡ false
    go two (inl e) = absurd (both_ways _ (not-true _ two.0) e)
    go two (inr e) = absurd (both_ways _ (not-true _ two.1) (and_from _ _ e.0 e.1))

first_quiet : (b : Bool) (cs : Along) → all_quiet b cs ≡ true → is_quiet b (first_column cs) ≡ true
unfolding all_open
first_quiet b (each []) h = refl
first_quiet b (each (c ∷ cs)) h = (and_parts _ _ h).0
first_quiet b (all c) h = h

others_quiet : (b : Bool) (cs : Along) → all_quiet b cs ≡ true → all_quiet b (other_columns cs) ≡ true
unfolding all_open
others_quiet b (each []) h = refl
others_quiet b (each (c ∷ cs)) h = (and_parts _ _ h).1
others_quiet b (all c) h = h

-- ---- sites

abbrev Apart : Site → Site → Type 0
Apart p q = names_function p ≡ true → names_function q ≡ true → home p ≡ home q → ⊥

abbrev AllApart : List Site → Type 0
AllApart ss = PairsOf Apart ss

pub function_home : (s : Site) → names_function s ≡ true → home s ≡ s.setting.scope
unfolding all_open
function_home s h = go s.setting.role (and_parts _ _ h).1
  where
    go : (r : Role) → is_function_name r ≡ true → cond (is_var r) s.setting.var_scope s.setting.scope ≡ s.setting.scope
    go (Declares (FunctionName special)) q = refl
    go _ q = no_role q

-- no site has this scope
abbrev Fresh : Scope → List Site → Type 0
Fresh h ss = AllOf (λ q. q.setting.scope ≡ h → ⊥) ss

-- a node is met: its own place is no function-name, or one whose scope is fresh
met_apart : (o : Opens) (b : ℕ) (e : Setting) (inner : Scope) (s : Seen) → (is_function_name e.role ≡ false) ⊎ Fresh e.scope s.sites → AllApart s.sites → AllApart (met o b e inner s).sites
unfolding all_open
met_apart NameHere b e inner s c a = (go c, a)
  where
    quiet : is_function_name e.role ≡ false → (ss : List Site) → AllOf (Apart (record { node = s.nodes; start = b; private = false; setting = e })) ss
    quiet n [] = tt
    quiet n (q ∷ qs) = ((λ f g h. both_ways _ n (and_parts _ _ f).1), quiet n qs)

    fresh : (ss : List Site) → Fresh e.scope ss → AllOf (Apart (record { node = s.nodes; start = b; private = false; setting = e })) ss
    fresh [] f = tt
    fresh (q ∷ qs) f = ((λ g h k. f.0 (sym (function_home q h) ∙ sym k ∙ function_home (record { node = s.nodes; start = b; private = false; setting = e }) g)), fresh qs f.1)

    go : (is_function_name e.role ≡ false) ⊎ Fresh e.scope s.sites → AllOf (Apart (record { node = s.nodes; start = b; private = false; setting = e })) s.sites
    go (inl n) = quiet n s.sites
    go (inr f) = fresh s.sites f
met_apart PrivateNameHere b e inner s c a = (private s.sites, a)
  where
    private : (ss : List Site) → AllOf (Apart (record { node = s.nodes; start = b; private = true; setting = e })) ss
    private [] = tt
    private (q ∷ qs) = ((λ f g h. no_role f), private qs)
met_apart _ b e inner s c a = a

-- what a new scope is: none of the sites so far has it
new_fresh : (v : ℕ → Bool) (n : ℕ) (outer : Scope) (ss : List Site) → AllFit v n ss → Fresh (n ∷ outer) ss
new_fresh v n outer ss a = AllOf_weaken (λ q. Fits v n q.setting) (λ q. q.setting.scope ≡ n ∷ outer → ⊥) (λ q p e. let h : n < n = (subst (Below n) e p.below).0 in omega (arith, h)) ss a

-- the first field of a function expression: it lies in the new scope
record Naming (x : Parts) (columns : Along) (a : Around) (s : Seen) : Type 0 where
  begins : begins_with_name x ≡ true
  inside : (first_column columns).inside ≡ true
  others : all_quiet (is_function_name a.outside.role) (other_columns columns) ≡ true
  fresh : Fresh a.inside.scope s.sites

abbrev Ready : Parts → Along → Around → Seen → Type 0
Ready x columns a s = (all_quiet (is_function_name a.outside.role) columns ≡ true) ⊎ Naming x columns a s

field_scope : (c : Column) (a : Around) → c.inside ≡ true → (at_field c a).scope ≡ a.inside.scope
unfolding all_open
field_scope c a h = mark_keeps_scope c.mark _ _ _ _ ∙ ap (λ b. (side b a).scope) h

-- the fields of a node whose own role is no function-name
entered : (k : Kind) (fields : Parts) (e : Setting) (b : ℕ) (s : Seen) (u : ℕ → Bool) → AllFit u (length s.scopes) s.sites → is_function_name e.role ≡ false → (not (is_function_expression k) || begins_with_name fields) ≡ true
    → Ready fields (each (row k).columns) (enter (row k) (hide k fields) e s) (met (row k).opens b e (enter (row k) (hide k fields) e s).inside.scope s)
unfolding all_open
entered k fields e b s u fit n h = tested (is_function_expression k)
    (λ f. inr (subst (λ (j : Kind). Naming fields (each (row j).columns) (enter (row j) (hide j fields) e s) (met (row j).opens b e (enter (row j) (hide j fields) e s).inside.scope s)) (sym (is_expression_kind k f)) (here (begins f h))))
    (λ f. inl (ap (λ c. all_quiet c (each (row k).columns)) n ∙ row_quiet k f))
  where
    begins : is_function_expression k ≡ true → (not (is_function_expression k) || begins_with_name fields) ≡ true → begins_with_name fields ≡ true
    begins f g = subst (λ c. (not c || begins_with_name fields) ≡ true) f g

    here : begins_with_name fields ≡ true → Naming fields (each (row FunctionExpression).columns) (enter (row FunctionExpression) (hide FunctionExpression fields) e s) (met (row FunctionExpression).opens b e (enter (row FunctionExpression) (hide FunctionExpression fields) e s).inside.scope s)
    here g = record { begins = g; inside = refl; others = ap (λ c. all_quiet c (other_columns (each (row FunctionExpression).columns))) n; fresh = new_fresh u (length s.scopes) e.scope s.sites fit }

identifier_quiet : (k : Kind) (b : Bool) → k ≡ Identifier → all_quiet b (each (row k).columns) ≡ true
unfolding all_open
identifier_quiet k b e = subst (λ (j : Kind). all_quiet b (each (row j).columns) ≡ true) (sym e) (go b)
  where
    go : (c : Bool) → all_quiet c (each (row Identifier).columns) ≡ true
    go true = refl
    go false = refl

walk_apart : (x : Parts) (columns : Along) (a : Around) (s : Seen) (u : ℕ → Bool) → Fits u (length s.scopes) a.outside → Fits u (length s.scopes) a.inside → AllFit u (length s.scopes) s.sites
    → names_functions_once x ≡ true → Ready x columns a s → AllApart s.sites → AllApart (walk x columns a s).sites
unfolding all_open
walk_apart done columns a s u p q r h c d = d
walk_apart (atom v more) columns a s u p q r h (inl c) d = walk_apart more (other_columns columns) a s u p q r h (inl (others_quiet _ columns c)) d
walk_apart (atom v more) columns a s u p q r h (inr c) d = walk_apart more (other_columns columns) a s u p q r h (inl c.others) d
walk_apart (many items more) columns a s u p q r h (inr c) d = no_role c.begins
walk_apart (many items more) columns a s u p q r h (inl c) d =
    let two : (names_functions_once items ≡ true) × (names_functions_once more ≡ true) = and_parts _ _ h in
    let s₁ : Seen = walk items (all (first_column columns)) a s in
    let one : After u s s₁ = walk_fits items (all (first_column columns)) a s u p q r in
    walk_apart more (other_columns columns) a s₁ one.vars
    (fits_more u one.vars (length s.scopes) (length s₁.scopes) a.outside one.more one.agree p) (fits_more u one.vars (length s.scopes) (length s₁.scopes) a.inside one.more one.agree q) one.placed
    two.1 (inl (others_quiet _ columns c))
    (walk_apart items (all (first_column columns)) a s u p q r two.0 (inl (first_quiet _ columns c)) d)
walk_apart (child k b st fields more) columns a s u p q r h c d =
    let three : (((not (is_function_expression k) || begins_with_name fields) && names_functions_once fields) ≡ true) × (names_functions_once more ≡ true) = and_parts _ _ h in
    let four : ((not (is_function_expression k) || begins_with_name fields) ≡ true) × (names_functions_once fields ≡ true) = and_parts _ _ three.0 in
    let here : Setting = at_field (first_column columns) a in
    let around : Around = enter (row k) (hide k fields) here s in
    let s₁ : Seen = met (row k).opens b here around.inside.scope s in
    let s₂ : Seen = walk fields (each (row k).columns) around s₁ in
    let f : Fits u (length s.scopes) here = field_fits (first_column columns) u (length s.scopes) a p q in
    let m : Met u s s₁ around.inside = met_fits (row k).opens b here (strict_in (row k).strict here.strict (hide k fields)) u s f r in
    let g : Fits m.after.vars (length s₁.scopes) here = fits_more u m.after.vars (length s.scopes) (length s₁.scopes) here m.after.more m.after.agree f in
    let two : After m.after.vars s₁ s₂ = walk_fits fields (each (row k).columns) around s₁ m.after.vars g m.inside m.after.placed in
    let both : After u s s₂ = then_after u s s₁ s₂ m.after two in
    walk_apart more (other_columns columns) a s₂ both.vars
    (fits_more u both.vars (length s.scopes) (length s₂.scopes) a.outside both.more both.agree p) (fits_more u both.vars (length s.scopes) (length s₂.scopes) a.inside both.more both.agree q) both.placed
    three.1 (inl (rest c))
    (walk_apart fields (each (row k).columns) around s₁ m.after.vars g m.inside m.after.placed four.1 (fields_ready c four.0) (met_apart (row k).opens b here around.inside.scope s (own c) d))
  where
    rest : Ready (child k b st fields more) columns a s → all_quiet (is_function_name a.outside.role) (other_columns columns) ≡ true
    rest (inl z) = others_quiet _ columns z
    rest (inr z) = z.others

    own : Ready (child k b st fields more) columns a s → (is_function_name (at_field (first_column columns) a).role ≡ false) ⊎ Fresh (at_field (first_column columns) a).scope s.sites
    own (inl z) = inl (quiet_role (first_column columns) a (first_quiet _ columns z))
    own (inr z) = inr (subst (λ (x : Scope). Fresh x s.sites) (sym (field_scope (first_column columns) a z.inside)) z.fresh)

    fields_ready : Ready (child k b st fields more) columns a s → (not (is_function_expression k) || begins_with_name fields) ≡ true
        → Ready fields (each (row k).columns) (enter (row k) (hide k fields) (at_field (first_column columns) a) s) (met (row k).opens b (at_field (first_column columns) a) (enter (row k) (hide k fields) (at_field (first_column columns) a) s).inside.scope s)
    fields_ready (inl z) e = entered k fields (at_field (first_column columns) a) b s u r (quiet_role (first_column columns) a (first_quiet _ columns z)) e
    fields_ready (inr z) e = inl (identifier_quiet k (is_function_name (at_field (first_column columns) a).role) (is_name_kind k z.begins))

-- ---- a tree

pairs_reverse : (ss : List Site) → AllApart ss → AllApart (reverse ss)
unfolding all_open
pairs_reverse [] p = tt
pairs_reverse (s ∷ ss) p = rw (reverse_onto ss s []) (PairsOf_push Apart (reverse ss) s (pairs_reverse ss p.1)
    (AllOf_reverse (λ q. Apart q s) ss (AllOf_weaken (Apart s) (λ q. Apart q s) (λ q f g h e. f h g (sym e)) ss p.0)))

apart_told : (ss : List Site) → AllApart ss → function_names_apart ss ≡ true
unfolding all_open
apart_told [] p = refl
apart_told (s ∷ ss) p = and_from _ _ (none (names_function s && list_any (λ r. names_function r && same_scope (home r) (home s)) ss) (λ e. clash e)) (apart_told ss p.1)
  where
    none : (b : Bool) → (b ≡ true → ⊥) → not b ≡ true
    none true f = absurd (f refl)
    none false f = refl

    of_each : (qs : List Site) → AllOf (Apart s) qs → (q : Site) → In q qs → Apart s q
    of_each [] a q i = absurd i
    of_each (y ∷ ys) a q i = go i (of_each ys a.1 q)
      where
        go : (y ≡ q) ⊎ In q ys → (In q ys → Apart s q) → Apart s q
        go (inl e) ih = subst (Apart s) e a.0
        go (inr j) ih = ih j

    clash : (names_function s && list_any (λ r. names_function r && same_scope (home r) (home s)) ss) ≡ true → ⊥
    clash e =
        let two : (names_function s ≡ true) × (list_any (λ r. names_function r && same_scope (home r) (home s)) ss ≡ true) = and_parts _ _ e in
        let w : (q : Site) × In q ss × ((names_function q && same_scope (home q) (home s)) ≡ true) = any_some (λ r. names_function r && same_scope (home r) (home s)) ss two.1 in
        let three : (names_function w.0 ≡ true) × (same_scope (home w.0) (home s) ≡ true) = and_parts _ _ w.2 in
        of_each ss p.0 w.0 w.1 two.0 three.0 (sym (same_scope_eq (home w.0) (home s) three.1))

pub function_names_stand_apart : FunctionNamesStandApart
unfolding all_open
function_names_stand_apart t h =
    apart_told (sites t) (pairs_reverse (seen t).sites
    (walk_apart t (all unlisted) before_all nothing_yet (λ k. false) (record { below = tt; near = refl }) (record { below = tt; near = refl }) tt h (inl refl) tt))
