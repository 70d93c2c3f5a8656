-- Each place lies at or inside its nearest var scope.
use Rattle.std.specs.Prelude.{◌≡◌, ℕ, Bool, true, false, cond, List, [], ◌∷◌, length, reverse}
use Rattle.std.proofs.Common.{refl}
use Rattle.std.proofs.lemmas.Bool.{or_right}
use Rattle.std.proofs.lemmas.Grind.{reverse_onto}
use Rattle.list_laws.proofs.AllOf.{AllOf, AllOf_push}
use Rattle.tree_nodes.specs.Along.{Along, all, each, first_column, other_columns}
use Rattle.tree_nodes.specs.Table.{Column, row, unlisted}
use Rattle.tree_nodes.specs.Tree.{Parts, atom, child, done, many}
use Rattle.tree_nodes.specs.declared.table.Mark.{Mark}
use Rattle.tree_nodes.specs.declared.table.Mark.TheVariants.{Usual}
use Rattle.tree_nodes.specs.declared.table.Opens.{Opens}
use Rattle.tree_nodes.specs.declared.table.Opens.TheVariants.{BareBlock, Block, ClassMembers, Hoisting, NameHere, Nothing, PrivateNameHere, WithBody}
use Rattle.tree_places.proofs.Outwards.{inside_refl}
use Rattle.tree_places.specs.Open.{all_open}
use Rattle.tree_places.specs.Places.{Around, Seen, Setting, Site, at_field, before_all, enter, hide, met, nothing_yet, opened, seen, side, sites, strict_in, walk, with_mark}
use Rattle.tree_places.specs.Scopes.{Scope, is_inside}

abbrev Homed : Setting → Type 0
Homed e = is_inside e.scope e.var_scope ≡ true

mark_homed : (k : Mark) (fields : Parts) (n : ℕ) (o : List ℕ) (e : Setting) → Homed e → Homed (with_mark k fields n o e)
unfolding all_open
mark_homed Usual fields n o e h = h
mark_homed _ fields n o e h = h

side_homed : (b : Bool) (a : Around) → Homed a.outside → Homed a.inside → Homed (side b a)
unfolding all_open
side_homed true a p q = q
side_homed false a p q = p

field_homed : (f : Column) (a : Around) → Homed a.outside → Homed a.inside → Homed (at_field f a)
unfolding all_open
field_homed f a p q = mark_homed f.mark a.fields _ _ _ (side_homed f.inside a p q)

opened_homed : (o : Opens) (n c : ℕ) (e : Setting) (strict : Bool) → Homed e → Homed (opened o n c (record e { strict = strict }))
unfolding all_open
opened_homed Nothing n c e strict h = h
opened_homed Block n c e strict h = or_right _ _ h
opened_homed WithBody n c e strict h = or_right _ _ h
opened_homed Hoisting n c e strict h = inside_refl (n ∷ e.scope)
opened_homed ClassMembers n c e strict h = h
opened_homed NameHere n c e strict h = h
opened_homed PrivateNameHere n c e strict h = h
opened_homed BareBlock n c e strict h = go e.bare
  where
    go : (b : Bool) → Homed (cond b (record e { strict = strict }) (record e { strict = strict; scope = n ∷ e.scope }))
    go true = h
    go false = or_right _ _ h

abbrev AllHomed : List Site → Type 0
AllHomed ss = AllOf (λ s. Homed s.setting) ss

met_homed : (o : Opens) (b : ℕ) (e : Setting) (inner : Scope) (s : Seen) → Homed e → AllHomed s.sites → AllHomed (met o b e inner s).sites
unfolding all_open
met_homed NameHere b e inner s h a = (h, a)
met_homed PrivateNameHere b e inner s h a = (h, a)
met_homed _ b e inner s h a = a

walk_homed : (x : Parts) (columns : Along) (a : Around) (s : Seen) → Homed a.outside → Homed a.inside → AllHomed s.sites → AllHomed (walk x columns a s).sites
unfolding all_open
walk_homed done columns a s p q r = r
walk_homed (atom v more) columns a s p q r = walk_homed more (other_columns columns) a s p q r
walk_homed (many items more) columns a s p q r =
    walk_homed more (other_columns columns) a (walk items (all (first_column columns)) a s) p q (walk_homed items (all (first_column columns)) a s p q r)
walk_homed (child k b st fields more) columns a s p q r =
    let here : Setting = at_field (first_column columns) a in
    let around : Around = enter (row k) (hide k fields) here s in
    let s₁ : Seen = met (row k).opens b here around.inside.scope s in
    let h : Homed here = field_homed (first_column columns) a p q in
    walk_homed more (other_columns columns) a (walk fields (each (row k).columns) around s₁) p q
    (walk_homed fields (each (row k).columns) around s₁ h
    (opened_homed (row k).opens (length s.scopes) s.classes here (strict_in (row k).strict here.strict (hide k fields)) h)
    (met_homed (row k).opens b here around.inside.scope s h r))

reversed : (ss : List Site) → AllHomed ss → AllHomed (reverse ss)
unfolding all_open
reversed [] a = tt
reversed (s ∷ ss) a = rw (reverse_onto ss s []) (AllOf_push (λ x. Homed x.setting) (reverse ss) s (reversed ss a.1) a.0)

pub var_scopes_lie_outside : (t : Parts) → AllOf (λ s. is_inside s.setting.scope s.setting.var_scope ≡ true) (sites t)
unfolding all_open
var_scopes_lie_outside t = reversed (seen t).sites (walk_homed t (all unlisted) before_all nothing_yet refl refl tt)
