-- The class bodies around places are linked: what encloses a class body is the same from wherever it is seen.
use Rattle.std.specs.List.{list_any}
use Rattle.std.specs.Prelude.{◌≡◌, ◌⊎◌, ℕ, suc, ◌<◌, Bool, true, false, cond, List, [], ◌∷◌, length, reverse}
use Rattle.std.proofs.Common.{refl, sym, ap, ◌∙◌, subst, arith, inl, inr}
use Rattle.std.proofs.lemmas.Bool.{or_cases, both_ways}
use Rattle.std.proofs.lemmas.Grind.{reverse_onto}
use Rattle.list_laws.proofs.AllOf.{AllOf, AllOf_push}
use Rattle.tree_nodes.specs.Along.{Along, all, each, first_column, other_columns}
use Rattle.tree_nodes.specs.Table.{Column, row, unlisted}
use Rattle.tree_nodes.specs.Tree.{Parts, atom, child, done, many}
use Rattle.tree_nodes.specs.declared.table.Mark.{Mark}
use Rattle.tree_nodes.specs.declared.table.Mark.TheVariants.{Usual}
use Rattle.tree_nodes.specs.declared.table.Opens.{Opens}
use Rattle.tree_nodes.specs.declared.table.Opens.TheVariants.{BareBlock, Block, ClassMembers, Hoisting, NameHere, Nothing, PrivateNameHere, WithBody}
use Rattle.tree_places.proofs.Outwards.{same_scope_eq}
use Rattle.tree_places.proofs.Rooted.{known_outwards}
use Rattle.tree_places.proofs.Walks.{Proper, known, known_first, known_more}
use Rattle.tree_places.specs.Open.{all_open}
use Rattle.tree_places.specs.Places.{Around, Seen, Setting, Site, at_field, before_all, enter, hide, met, nothing_yet, opened, seen, side, sites, strict_in, walk, with_mark}
use Rattle.tree_places.specs.Scopes.{Scope, is_inside, same_scope}

-- ---- the walk, with the list of all chains of class bodies

abbrev Sites : List Scope → List Site → Type 0
Sites cs ss = AllOf (λ s. known cs s.setting.classes ≡ true) ss

record Linked (cs : List Scope) (s : Seen) : Type 0 where
  proper : Proper cs
  count : length cs ≡ s.classes
  sites : Sites cs s.sites

-- the list after, which has all of the list before
record After (cs : List Scope) (s : Seen) : Type 0 where
  chains : List Scope
  linked : Linked chains s
  grows : (x : Scope) → known cs x ≡ true → known chains x ≡ true

mark_classes : (k : Mark) (fields : Parts) (n : ℕ) (o : List ℕ) (e : Setting) → (with_mark k fields n o e).classes ≡ e.classes
unfolding all_open
mark_classes Usual fields n o e = refl
mark_classes _ fields n o e = refl

field_classes : (f : Column) (a : Around) (cs : List Scope) → known cs a.outside.classes ≡ true → known cs a.inside.classes ≡ true → known cs (at_field f a).classes ≡ true
unfolding all_open
field_classes f a cs p q = rw (mark_classes f.mark) (go f.inside)
  where
    go : (b : Bool) → known cs (side b a).classes ≡ true
    go true = q
    go false = p

more_sites : (cs ds : List Scope) (ss : List Site) → ((x : Scope) → known cs x ≡ true → known ds x ≡ true) → Sites cs ss → Sites ds ss
unfolding all_open
more_sites cs ds [] f a = tt
more_sites cs ds (s ∷ ss) f a = (f s.setting.classes a.0, more_sites cs ds ss f a.1)

-- what a node that opens this adds, and that the classes inside it are known then
record Met (cs : List Scope) (s : Seen) (inner : Scope) : Type 0 where
  after : After cs s
  inside : known after.chains inner ≡ true

abbrev same_linked : (cs : List Scope) (s s' : Seen) → Linked cs s → s'.classes ≡ s.classes → Sites cs s'.sites → After cs s'
same_linked cs s s' l e a = record { chains = cs; linked = record { proper = l.proper; count = l.count ∙ sym e; sites = a }; grows = λ x k. k }

met_linked : (o : Opens) (b n : ℕ) (e : Setting) (strict : Bool) (inner : Scope) (cs : List Scope) (s : Seen) → Linked cs s → known cs e.classes ≡ true
    → Met cs (met o b e inner s) (opened o n s.classes (record e { strict = strict })).classes
unfolding all_open
met_linked ClassMembers b n e strict inner cs s l k = record {
  after = record {
    chains = (length cs ∷ e.classes) ∷ cs;
    linked = record { proper = (e.classes, refl, k, l.proper); count = ap suc l.count; sites = more_sites cs ((length cs ∷ e.classes) ∷ cs) s.sites (λ x. known_more cs (length cs ∷ e.classes) x) l.sites };
    grows = λ x. known_more cs (length cs ∷ e.classes) x;
  };
  inside = subst (λ (c : ℕ). known ((length cs ∷ e.classes) ∷ cs) (c ∷ e.classes) ≡ true) l.count (known_first cs (length cs ∷ e.classes));
}
met_linked NameHere b n e strict inner cs s l k = record { after = same_linked cs s (met NameHere b e inner s) l refl (k, l.sites); inside = k }
met_linked PrivateNameHere b n e strict inner cs s l k = record { after = same_linked cs s (met PrivateNameHere b e inner s) l refl (k, l.sites); inside = k }
met_linked Nothing b n e strict inner cs s l k = record { after = same_linked cs s (met Nothing b e inner s) l refl l.sites; inside = k }
met_linked Block b n e strict inner cs s l k = record { after = same_linked cs s (met Block b e inner s) l refl l.sites; inside = k }
met_linked WithBody b n e strict inner cs s l k = record { after = same_linked cs s (met WithBody b e inner s) l refl l.sites; inside = k }
met_linked Hoisting b n e strict inner cs s l k = record { after = same_linked cs s (met Hoisting b e inner s) l refl l.sites; inside = k }
met_linked BareBlock b n e strict inner cs s l k = record { after = same_linked cs s (met BareBlock b e inner s) l refl l.sites; inside = go e.bare }
  where
    go : (b : Bool) → known cs (cond b (record e { strict = strict }) (record e { strict = strict; scope = n ∷ e.scope })).classes ≡ true
    go true = k
    go false = k

then_after : (cs : List Scope) (s s' : Seen) (a : After cs s) → After a.chains s' → After cs s'
unfolding all_open
then_after cs s s' a b = record { chains = b.chains; linked = b.linked; grows = λ x k. b.grows x (a.grows x k) }

walk_linked : (x : Parts) (columns : Along) (a : Around) (s : Seen) (cs : List Scope) → Linked cs s → known cs a.outside.classes ≡ true → known cs a.inside.classes ≡ true → After cs (walk x columns a s)
unfolding all_open
walk_linked done columns a s cs l p q = record { chains = cs; linked = l; grows = λ x k. k }
walk_linked (atom v more) columns a s cs l p q = walk_linked more (other_columns columns) a s cs l p q
walk_linked (many items more) columns a s cs l p q =
    let s₁ : Seen = walk items (all (first_column columns)) a s in
    let one : After cs s₁ = walk_linked items (all (first_column columns)) a s cs l p q in
    then_after cs s₁ (walk more (other_columns columns) a s₁) one
    (walk_linked more (other_columns columns) a s₁ one.chains one.linked (one.grows a.outside.classes p) (one.grows a.inside.classes q))
walk_linked (child k b st fields more) columns a s cs l p q =
    let here : Setting = at_field (first_column columns) a in
    let around : Around = enter (row k) (hide k fields) here s in
    let s₁ : Seen = met (row k).opens b here around.inside.scope s in
    let s₂ : Seen = walk fields (each (row k).columns) around s₁ in
    let h : known cs here.classes ≡ true = field_classes (first_column columns) a cs p q in
    let one : Met cs s₁ around.inside.classes = met_linked (row k).opens b (length s.scopes) here (strict_in (row k).strict here.strict (hide k fields)) around.inside.scope cs s l h in
    let two : After one.after.chains s₂ = walk_linked fields (each (row k).columns) around s₁ one.after.chains one.after.linked (one.after.grows here.classes h) one.inside in
    let both : After cs s₂ = then_after cs s₁ s₂ one.after two in
    then_after cs s₂ (walk more (other_columns columns) a s₂) both
    (walk_linked more (other_columns columns) a s₂ both.chains both.linked (both.grows a.outside.classes p) (both.grows a.inside.classes q))

-- ---- chains that begin with one number are one

head_below : (cs : List Scope) → Proper cs → (c : ℕ) (o : Scope) → list_any (same_scope (c ∷ o)) cs ≡ true → c < length cs
unfolding all_open
head_below [] p c o h = absurd (both_ways false refl h)
head_below (s ∷ ss) (outer, e, k, p) c o h = go (or_cases _ _ h) (head_below ss p c o)
  where
    go : (same_scope (c ∷ o) s ≡ true) ⊎ (list_any (same_scope (c ∷ o)) ss ≡ true) → (list_any (same_scope (c ∷ o)) ss ≡ true → c < length ss) → c < suc (length ss)
    go (inl q) ih = let w : c ≡ length ss = ap (λ (x : Scope). elim x [ [] ↦ 0 | n ∷ ns ↦ n ]) (same_scope_eq (c ∷ o) s q ∙ e) in omega (arith, w)
    go (inr q) ih = let w : c < length ss = ih q in omega (arith, w)

one_chain : (cs : List Scope) → Proper cs → (c : ℕ) (o r : Scope) → list_any (same_scope (c ∷ o)) cs ≡ true → list_any (same_scope (c ∷ r)) cs ≡ true → o ≡ r
unfolding all_open
one_chain [] p c o r h k = absurd (both_ways false refl h)
one_chain (s ∷ ss) (outer, e, ko, p) c o r h k = go (or_cases _ _ h) (or_cases _ _ k) (one_chain ss p c o r) (head_below ss p c o) (head_below ss p c r)
  where
    head : same_scope (c ∷ o) s ≡ true → c ≡ length ss
    head q = ap (λ (x : Scope). elim x [ [] ↦ 0 | n ∷ ns ↦ n ]) (same_scope_eq (c ∷ o) s q ∙ e)

    head' : same_scope (c ∷ r) s ≡ true → c ≡ length ss
    head' q = ap (λ (x : Scope). elim x [ [] ↦ 0 | n ∷ ns ↦ n ]) (same_scope_eq (c ∷ r) s q ∙ e)

    go : (same_scope (c ∷ o) s ≡ true) ⊎ (list_any (same_scope (c ∷ o)) ss ≡ true) → (same_scope (c ∷ r) s ≡ true) ⊎ (list_any (same_scope (c ∷ r)) ss ≡ true)
        → (list_any (same_scope (c ∷ o)) ss ≡ true → list_any (same_scope (c ∷ r)) ss ≡ true → o ≡ r) → (list_any (same_scope (c ∷ o)) ss ≡ true → c < length ss) → (list_any (same_scope (c ∷ r)) ss ≡ true → c < length ss) → o ≡ r
    go (inl a) (inl b) ih f g = ap (λ (x : Scope). elim x [ [] ↦ [] | n ∷ ns ↦ ns ]) (same_scope_eq (c ∷ o) s a ∙ sym (same_scope_eq (c ∷ r) s b))
    go (inl a) (inr b) ih f g = let w : c ≡ length ss = head a in let v : c < length ss = g b in absurd (omega (arith, w, v))
    go (inr a) (inl b) ih f g = let w : c ≡ length ss = head' b in let v : c < length ss = f a in absurd (omega (arith, w, v))
    go (inr a) (inr b) ih f g = ih a b

pub record Chains (t : Parts) : Type 0 where
  pub chains : List Scope
  pub proper : Proper chains
  pub around : AllOf (λ s. known chains s.setting.classes ≡ true) (sites t)

pub class_chains : (t : Parts) → Chains t
unfolding all_open
class_chains t =
    let a : After [] (seen t) = walk_linked t (all unlisted) before_all nothing_yet [] (record { proper = tt; count = refl; sites = tt }) refl refl in
    record { chains = a.chains; proper = a.linked.proper; around = reversed a.chains (seen t).sites a.linked.sites }
  where
    reversed : (cs : List Scope) (ss : List Site) → Sites cs ss → Sites cs (reverse ss)
    reversed cs [] a = tt
    reversed cs (s ∷ ss) a = rw (reverse_onto ss s []) (AllOf_push (λ x. known cs x.setting.classes ≡ true) (reverse ss) s (reversed cs ss a.1) a.0)

-- what is around a class body is the same wherever that is found
pub one_outside : (cs : List Scope) → Proper cs → (x y : Scope) (c : ℕ) (o r : Scope) → known cs x ≡ true → known cs y ≡ true → is_inside x (c ∷ o) ≡ true → is_inside y (c ∷ r) ≡ true → o ≡ r
unfolding all_open
one_outside cs p x y c o r k l i j = one_chain cs p c o r (found o (known_outwards cs p x (c ∷ o) k i)) (found r (known_outwards cs p y (c ∷ r) l j))
  where
    found : (z : Scope) → known cs (c ∷ z) ≡ true → list_any (same_scope (c ∷ z)) cs ≡ true
    found z h = go (or_cases _ _ h)
      where
        go : (same_scope (c ∷ z) [] ≡ true) ⊎ (list_any (same_scope (c ∷ z)) cs ≡ true) → list_any (same_scope (c ∷ z)) cs ≡ true
        go (inl q) = absurd (both_ways false refl q)
        go (inr q) = q
