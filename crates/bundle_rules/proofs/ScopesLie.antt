-- Where the scopes of a walk inside the root lie: each is the root, or a later scope inside one.
use Rattle.std.proofs.Common.{◌≡◌, ℕ, suc, ◌<◌, ◌≤◌, Bool, true, false, cond, [], ◌∷◌, length, refl, sym, subst, arith}
use Rattle.list_laws.proofs.AllOf.{AllOf, AllOf_weaken}
use Rattle.tree_nodes.specs.Along.{Along, all, each, first_column, other_columns}
use Rattle.tree_nodes.specs.Table.{Column, row}
use Rattle.tree_nodes.specs.Tree.{Parts, atom, child, done, many}
use Rattle.tree_nodes.specs.declared.table.Opens.{Opens}
use Rattle.tree_nodes.specs.declared.table.Opens.TheVariants.{BareBlock, Block, ClassMembers, Hoisting, NameHere, Nothing, PrivateNameHere, WithBody}
use Rattle.tree_places.proofs.MarkedSettings.{inner_setting, mark_keeps_scope, mark_keeps_var_scope}
use Rattle.tree_places.specs.Open.{all_open}
use Rattle.tree_places.specs.Places.{Around, Seen, Setting, Site, at_field, enter, hide, met, side, strict_in, walk}
use Rattle.tree_places.specs.Scopes.{Scope}

-- the root's, which is 0, or a number from 1 to k - 1 before such a scope
abbrev pub Lies : ℕ → Scope → Type 0
Lies k [] = ⊥
Lies k (n ∷ []) = n ≡ 0
Lies k (n ∷ m ∷ s) = (1 ≤ n) × (n < k) × Lies k (m ∷ s)

pub lies_more : (k l : ℕ) (s : Scope) → k ≤ l → Lies k s → Lies l s
lies_more k l [] h p = p
lies_more k l (n ∷ []) h p = p
lies_more k l (n ∷ m ∷ s) h p = (p.0, (let i : n < k = p.1 in omega (arith, h, i)), lies_more k l (m ∷ s) h p.2)

lies_new : (k : ℕ) (s : Scope) → 1 ≤ k → Lies k s → Lies (suc k) (k ∷ s)
lies_new k [] h p = absurd p
lies_new k (m ∷ s) h p = (h, omega arith, lies_more k (suc k) (m ∷ s) (omega arith) p)

pub record LiesIn (k : ℕ) (e : Setting) : Type 0 where
  pub scope : Lies k e.scope
  pub var_scope : Lies k e.var_scope

lies_in_more : (k l : ℕ) (e : Setting) → k ≤ l → LiesIn k e → LiesIn l e
lies_in_more k l e h p = record { scope = lies_more k l e.scope h p.scope; var_scope = lies_more k l e.var_scope h p.var_scope }

-- all sites so far lie so, and there is a scope
pub record AllLie (s : Seen) : Type 0 where
  pub root : 1 ≤ length s.scopes
  pub placed : AllOf (λ q. LiesIn (length s.scopes) q.setting) s.sites

pub record Later (s s' : Seen) : Type 0 where
  pub more : length s.scopes ≤ length s'.scopes
  pub lie : AllLie s'

then_later : (s s' s'' : Seen) → Later s s' → Later s' s'' → Later s s''
then_later s s' s'' a b = record { more = (let m = a.more in let n = b.more in omega (arith, m, n)); lie = b.lie }

side_lies : (b : Bool) (k : ℕ) (a : Around) → LiesIn k a.outside → LiesIn k a.inside → LiesIn k (side b a)
unfolding all_open
side_lies true k a p q = q
side_lies false k a p q = p

field_lies : (f : Column) (k : ℕ) (a : Around) → LiesIn k a.outside → LiesIn k a.inside → LiesIn k (at_field f a)
unfolding all_open
field_lies f k a p q =
    let s : LiesIn k (side f.inside a) = side_lies f.inside k a p q in
    record { scope = rw (mark_keeps_scope f.mark) s.scope; var_scope = rw (mark_keeps_var_scope f.mark) s.var_scope }

pub record Met (s s' : Seen) (inner : Setting) : Type 0 where
  pub later : Later s s'
  pub inside : LiesIn (length s'.scopes) inner

more_sites : (s : Seen) → AllLie s → AllOf (λ q. LiesIn (suc (length s.scopes)) q.setting) s.sites
more_sites s a = AllOf_weaken (λ (q : Site). LiesIn (length s.scopes) q.setting) (λ (q : Site). LiesIn (suc (length s.scopes)) q.setting) (λ q i. lies_in_more _ _ q.setting (omega arith) i) s.sites a.placed

unopened : (s s' : Seen) (e e' : Setting) → length s'.scopes ≡ length s.scopes → e'.scope ≡ e.scope → e'.var_scope ≡ e.var_scope
    → LiesIn (length s.scopes) e → 1 ≤ length s.scopes → AllOf (λ q. LiesIn (length s.scopes) q.setting) s'.sites → Met s s' e'
unopened s s' e e' l i j p r a = record {
  later = record { more = omega (arith, l); lie = record { root = omega (arith, l, r); placed = subst (λ (n : ℕ). AllOf (λ (q : Site). LiesIn n q.setting) s'.sites) (sym l) a } };
  inside = record { scope = subst (λ (n : ℕ). Lies n e'.scope) (sym l) (subst (Lies (length s.scopes)) (sym i) p.scope); var_scope = subst (λ (n : ℕ). Lies n e'.var_scope) (sym l) (subst (Lies (length s.scopes)) (sym j) p.var_scope) };
}

newly_opened : (h : Bool) (s s' : Seen) (e e' : Setting) → length s'.scopes ≡ suc (length s.scopes) → s'.sites ≡ s.sites
    → e'.scope ≡ length s.scopes ∷ e.scope → e'.var_scope ≡ cond h (length s.scopes ∷ e.scope) e.var_scope
    → LiesIn (length s.scopes) e → AllLie s → Met s s' e'
newly_opened h s s' e e' l w i j p a =
    let new : Lies (suc (length s.scopes)) (length s.scopes ∷ e.scope) = lies_new (length s.scopes) e.scope a.root p.scope in
    let old : Lies (suc (length s.scopes)) e.var_scope = lies_more _ _ e.var_scope (omega arith) p.var_scope in
    record {
      later = record { more = omega (arith, l); lie = record { root = omega (arith, l); placed = subst (λ (n : ℕ). AllOf (λ (q : Site). LiesIn n q.setting) s'.sites) (sym l) (subst (AllOf (λ (q : Site). LiesIn (suc (length s.scopes)) q.setting)) (sym w) (more_sites s a)) } };
      inside = record {
        scope = subst (λ (n : ℕ). Lies n e'.scope) (sym l) (subst (Lies (suc (length s.scopes))) (sym i) new);
        var_scope = subst (λ (n : ℕ). Lies n e'.var_scope) (sym l) (subst (Lies (suc (length s.scopes))) (sym j) (either h new old));
      };
    }
  where
    either : (b : Bool) → Lies (suc (length s.scopes)) (length s.scopes ∷ e.scope) → Lies (suc (length s.scopes)) e.var_scope → Lies (suc (length s.scopes)) (cond b (length s.scopes ∷ e.scope) e.var_scope)
    either true x y = x
    either false x y = y

met_lies : (o : Opens) (b : ℕ) (e : Setting) (strict : Bool) (s : Seen) → LiesIn (length s.scopes) e → AllLie s
    → Met s (met o b e (inner_setting o e strict s).scope s) (inner_setting o e strict s)
unfolding all_open
met_lies Nothing b e strict s p a = unopened s _ e _ refl refl refl p a.root a.placed
met_lies Block b e strict s p a = newly_opened false s _ e _ refl refl refl refl p a
met_lies WithBody b e strict s p a = newly_opened false s _ e _ refl refl refl refl p a
met_lies Hoisting b e strict s p a = newly_opened true s _ e _ refl refl refl refl p a
met_lies ClassMembers b e strict s p a = unopened s _ e _ refl refl refl p a.root a.placed
met_lies NameHere b e strict s p a = unopened s _ e _ refl refl refl p a.root (p, a.placed)
met_lies PrivateNameHere b e strict s p a = unopened s _ e _ refl refl refl p a.root (p, a.placed)
met_lies BareBlock b e strict s p a = go e.bare
  where
    go : (c : Bool) → Met s (record s { nodes = suc s.nodes; scopes = cond c s.scopes ((cond c (record e { strict = strict }) (record e { strict = strict; scope = length s.scopes ∷ e.scope })).scope ∷ s.scopes) })
        (cond c (record e { strict = strict }) (record e { strict = strict; scope = length s.scopes ∷ e.scope }))
    go true = unopened s _ e _ refl refl refl p a.root a.placed
    go false = newly_opened false s _ e _ refl refl refl refl p a

-- the walk of what lies in the root
pub walk_lies : (x : Parts) (columns : Along) (a : Around) (s : Seen) → LiesIn (length s.scopes) a.outside → LiesIn (length s.scopes) a.inside → AllLie s → Later s (walk x columns a s)
unfolding all_open
walk_lies done columns a s p q r = record { more = omega arith; lie = r }
walk_lies (atom v more) columns a s p q r = walk_lies more (other_columns columns) a s p q r
walk_lies (many items more) columns a s p q r =
    let s₁ : Seen = walk items (all (first_column columns)) a s in
    let one : Later s s₁ = walk_lies items (all (first_column columns)) a s p q r in
    then_later s s₁ (walk more (other_columns columns) a s₁) one
    (walk_lies more (other_columns columns) a s₁ (lies_in_more _ _ a.outside one.more p) (lies_in_more _ _ a.inside one.more q) one.lie)
walk_lies (child k b fstop fields more) columns a s p q r =
    let here : Setting = at_field (first_column columns) a in
    let around : Around = enter (row k) (hide k fields) here s in
    let s₁ : Seen = met (row k).opens b here around.inside.scope s in
    let s₂ : Seen = walk fields (each (row k).columns) around s₁ in
    let h : LiesIn (length s.scopes) here = field_lies (first_column columns) (length s.scopes) a p q in
    let m : Met s s₁ around.inside = met_lies (row k).opens b here (strict_in (row k).strict here.strict (hide k fields)) s h r in
    let two : Later s₁ s₂ = walk_lies fields (each (row k).columns) around s₁ (lies_in_more _ _ here m.later.more h) m.inside m.later.lie in
    let both : Later s s₂ = then_later s s₁ s₂ m.later two in
    then_later s s₂ (walk more (other_columns columns) a s₂) both
    (walk_lies more (other_columns columns) a s₂ (lies_in_more _ _ a.outside both.more p) (lies_in_more _ _ a.inside both.more q) both.lie)
