-- In a tree whose nodes stand where they may, each place lies in a var scope: in that of the Program, at least.
use Rattle.std.specs.Prelude.{◌≡◌, ℕ, Bool, true, false, cond, ◌&&◌, List, [], ◌∷◌, length, reverse}
use Rattle.std.proofs.Common.{refl, sym, ◌∙◌, subst}
use Rattle.std.proofs.lemmas.Bool.{and_parts, both_ways}
use Rattle.std.proofs.lemmas.Grind.{reverse_onto}
use Rattle.list_laws.proofs.AllOf.{AllOf, AllOf_push}
use Rattle.tree_nodes.proofs.EachKind.{kind_told}
use Rattle.tree_nodes.specs.Along.{Along, all, each, first_column, other_columns}
use Rattle.tree_nodes.specs.Roles.{role_at}
use Rattle.tree_nodes.specs.Standing.{group_admits, is_placed, is_sound, root_column, stands}
use Rattle.tree_nodes.specs.Table.{Column, row, unlisted}
use Rattle.tree_nodes.specs.Tree.{Parts, Tree, alone, atom, child, done, many}
use Rattle.tree_nodes.specs.declared.kind.Kind.{Kind}
use Rattle.tree_nodes.specs.declared.kind.Kind.TheVariants.{Hashbang, Program}
use Rattle.tree_nodes.specs.declared.table.Class.{Class as FieldClass}
use Rattle.tree_nodes.specs.declared.table.Class.TheVariants.{Flag}
use Rattle.tree_nodes.specs.declared.table.Mark.{Mark}
use Rattle.tree_nodes.specs.declared.table.Mark.TheVariants.{Usual}
use Rattle.tree_nodes.specs.declared.table.Opens.{Opens}
use Rattle.tree_nodes.specs.declared.table.Opens.TheVariants.{BareBlock, Hoisting, NameHere, Nothing, PrivateNameHere}
use Rattle.tree_nodes.specs.declared.table.Role.{Role}
use Rattle.tree_nodes.specs.declared.table.Role.TheVariants.{Plain}
use Rattle.tree_places.specs.Laws.{IsRooted}
use Rattle.tree_places.specs.Open.{all_open}
use Rattle.tree_places.specs.Places.{Around, Seen, Setting, Site, at_field, before_all, enter, hide, met, nothing_yet, opened, seen, side, strict_in, walk, with_mark}
use Rattle.tree_places.specs.Scopes.{Scope, same_scope}

abbrev Rooted : Setting → Type 0
Rooted e = same_scope e.var_scope [] ≡ false

abbrev AllRooted : List Site → Type 0
AllRooted ss = AllOf (λ s. same_scope s.setting.var_scope [] ≡ false) ss

mark_rooted : (k : Mark) (fields : Parts) (n : ℕ) (o : List ℕ) (e : Setting) → Rooted e → Rooted (with_mark k fields n o e)
unfolding all_open
mark_rooted Usual fields n o e h = h
mark_rooted _ fields n o e h = h

field_rooted : (f : Column) (a : Around) → Rooted (side f.inside a) → Rooted (at_field f a)
unfolding all_open
field_rooted f a h = mark_rooted f.mark a.fields _ _ _ h

side_rooted : (b : Bool) (a : Around) → Rooted a.outside → Rooted a.inside → Rooted (side b a)
unfolding all_open
side_rooted true a p q = q
side_rooted false a p q = p

opened_rooted : (o : Opens) (n c : ℕ) (e : Setting) (strict : Bool) → Rooted e → Rooted (opened o n c (record e { strict = strict }))
unfolding all_open
opened_rooted Hoisting n c e strict h = refl
opened_rooted BareBlock n c e strict h = go e.bare
  where
    go : (b : Bool) → Rooted (cond b (record e { strict = strict }) (record e { strict = strict; scope = n ∷ e.scope }))
    go true = h
    go false = h
opened_rooted _ n c e strict h = h

met_rooted : (o : Opens) (b : ℕ) (e : Setting) (inner : Scope) (s : Seen) → Rooted e → AllRooted s.sites → AllRooted (met o b e inner s).sites
unfolding all_open
met_rooted NameHere b e inner s h a = (h, a)
met_rooted PrivateNameHere b e inner s h a = (h, a)
met_rooted _ b e inner s h a = a

walk_rooted : (x : Parts) (columns : Along) (a : Around) (s : Seen) → Rooted a.outside → Rooted a.inside → AllRooted s.sites → AllRooted (walk x columns a s).sites
unfolding all_open
walk_rooted done columns a s p q r = r
walk_rooted (atom v more) columns a s p q r = walk_rooted more (other_columns columns) a s p q r
walk_rooted (many items more) columns a s p q r =
    walk_rooted more (other_columns columns) a (walk items (all (first_column columns)) a s) p q (walk_rooted items (all (first_column columns)) a s p q r)
walk_rooted (child k b st fields more) columns a s p q r =
    let here : Setting = at_field (first_column columns) a in
    let around : Around = enter (row k) (hide k fields) here s in
    let s₁ : Seen = met (row k).opens b here around.inside.scope s in
    let h : Rooted here = field_rooted (first_column columns) a (side_rooted (first_column columns).inside a p q) in
    walk_rooted more (other_columns columns) a (walk fields (each (row k).columns) around s₁) p q
    (walk_rooted fields (each (row k).columns) around s₁ h
    (opened_rooted (row k).opens (length s.scopes) s.classes here (strict_in (row k).strict here.strict (hide k fields)) h)
    (met_rooted (row k).opens b here around.inside.scope s h r))

-- a list inside the scope that its node opens
list_rooted : (x : Parts) (c : Column) (a : Around) (s : Seen) → c.inside ≡ true → Rooted a.inside → AllRooted s.sites → AllRooted (walk x (all c) a s).sites
unfolding all_open
list_rooted done c a s e q r = r
list_rooted (atom v more) c a s e q r = list_rooted more c a s e q r
list_rooted (many items more) c a s e q r = list_rooted more c a (walk items (all c) a s) e q (list_rooted items c a s e q r)
list_rooted (child k b st fields more) c a s e q r =
    let here : Setting = at_field c a in
    let around : Around = enter (row k) (hide k fields) here s in
    let s₁ : Seen = met (row k).opens b here around.inside.scope s in
    let h : Rooted here = field_rooted c a (subst (λ (i : Bool). Rooted (side i a)) (sym e) q) in
    list_rooted more c a (walk fields (each (row k).columns) around s₁) e q
    (walk_rooted fields (each (row k).columns) around s₁ h
    (opened_rooted (row k).opens (length s.scopes) s.classes here (strict_in (row k).strict here.strict (hide k fields)) h)
    (met_rooted (row k).opens b here around.inside.scope s h r))

-- ---- runs without a place

-- a column that admits no node, and one that admits a Hashbang at most
abbrev Bare : FieldClass → Type 0
Bare c = (r : Role) (within : Parts) (k : Kind) (fields : Parts) → group_admits c r within k fields ≡ false

abbrev AtMostHashbang : FieldClass → Type 0
AtMostHashbang c = (r : Role) (within : Parts) (k : Kind) (fields : Parts) → group_admits c r within k fields ≡ true → k ≡ Hashbang

abbrev EachColumn : (FieldClass → Type 0) → List Column → Type 0
EachColumn P [] = Unit {0}
EachColumn P (c ∷ cs) = P c.class × EachColumn P cs

abbrev Columns : (FieldClass → Type 0) → Along → Type 0
Columns P (each cs) = EachColumn P cs
Columns P (all c) = P c.class

first_class : (P : FieldClass → Type 0) → P Flag → (columns : Along) → Columns P columns → P (first_column columns).class
unfolding all_open
first_class P f (each []) h = f
first_class P f (each (c ∷ cs)) h = h.0
first_class P f (all c) h = h

other_classes : (P : FieldClass → Type 0) (columns : Along) → Columns P columns → Columns P (other_columns columns)
unfolding all_open
other_classes P (each []) h = h
other_classes P (each (c ∷ cs)) h = h.1
other_classes P (all c) h = h

flag_bare : Bare Flag
unfolding all_open
flag_bare r within k fields = refl

flag_hashbang : AtMostHashbang Flag
unfolding all_open
flag_hashbang r within k fields h = absurd (both_ways false refl h)

none_is_there : (x : Parts) (columns : Along) (a : Around) (s : Seen) (own : Role) (within : Parts) → Columns Bare columns → stands x columns own within ≡ true → (walk x columns a s).sites ≡ s.sites
unfolding all_open
none_is_there done columns a s own within f h = refl
none_is_there (atom v more) columns a s own within f h = none_is_there more (other_columns columns) a s own within (other_classes Bare columns f) h
none_is_there (many items more) columns a s own within f h =
    none_is_there more (other_columns columns) a (walk items (all (first_column columns)) a s) own within (other_classes Bare columns f) (and_parts _ _ h).1
    ∙ none_is_there items (all (first_column columns)) a s own within (first_class Bare flag_bare columns f) (and_parts _ _ h).0
none_is_there (child k b st fields more) columns a s own within f h =
    absurd (both_ways _ (first_class Bare flag_bare columns f (role_at (first_column columns).mode own within) within k fields) (and_parts _ _ (and_parts _ _ (and_parts _ _ h).0).0).0)

-- a Hashbang has no place
in_hashbang : (k : Kind) → k ≡ Hashbang → (b : ℕ) (fields : Parts) (a : Around) (e : Setting) (inner : Scope) (s : Seen) (r : Role)
    → stands fields (each (row k).columns) r fields ≡ true → (walk fields (each (row k).columns) a (met (row k).opens b e inner s)).sites ≡ s.sites
unfolding all_open
in_hashbang k q b fields a e inner s r = subst (λ (l : Kind). stands fields (each (row l).columns) r fields ≡ true → (walk fields (each (row l).columns) a (met (row l).opens b e inner s)).sites ≡ s.sites) (sym q)
    (λ h. none_is_there fields (each (row Hashbang).columns) a (met Nothing b e inner s) r fields (λ r' w k' f. refl, tt) h)

hashbang_there : (x : Parts) (columns : Along) (a : Around) (s : Seen) (own : Role) (within : Parts) → Columns AtMostHashbang columns → stands x columns own within ≡ true → (walk x columns a s).sites ≡ s.sites
unfolding all_open
hashbang_there done columns a s own within f h = refl
hashbang_there (atom v more) columns a s own within f h = hashbang_there more (other_columns columns) a s own within (other_classes AtMostHashbang columns f) h
hashbang_there (many items more) columns a s own within f h =
    hashbang_there more (other_columns columns) a (walk items (all (first_column columns)) a s) own within (other_classes AtMostHashbang columns f) (and_parts _ _ h).1
    ∙ hashbang_there items (all (first_column columns)) a s own within (first_class AtMostHashbang flag_hashbang columns f) (and_parts _ _ h).0
hashbang_there (child k b st fields more) columns a s own within f h =
    let here : Setting = at_field (first_column columns) a in
    let around : Around = enter (row k) (hide k fields) here s in
    let r : Role = role_at (first_column columns).mode own within in
    let one : ((group_admits (first_column columns).class r within k fields && is_sound k fields && stands fields (each (row k).columns) r fields) ≡ true) × (stands more (other_columns columns) own within ≡ true) = and_parts _ _ h in
    let two : ((group_admits (first_column columns).class r within k fields && is_sound k fields) ≡ true) × (stands fields (each (row k).columns) r fields ≡ true) = and_parts _ _ one.0 in
    let q : k ≡ Hashbang = first_class AtMostHashbang flag_hashbang columns f r within k fields (and_parts _ _ two.0).0 in
    hashbang_there more (other_columns columns) a (walk fields (each (row k).columns) around (met (row k).opens b here around.inside.scope s)) own within (other_classes AtMostHashbang columns f) one.1
    ∙ in_hashbang k q b fields around here around.inside.scope s r two.1

-- ---- a Program

-- the second and the third field
abbrev later_columns : List Column
later_columns = elim ((row Program).columns) [ [] ↦ [] | c ∷ cs ↦ cs ]

later_hashbang : EachColumn AtMostHashbang later_columns
unfolding all_open
later_hashbang = (λ r within k fields h. absurd (both_ways false refl h), (λ r within k fields h. kind_told k Hashbang h, tt))

program_rooted : (x : Parts) (a : Around) (s : Seen) (own : Role) (within : Parts) → stands x (each (row Program).columns) own within ≡ true → Rooted a.inside → AllRooted s.sites → AllRooted (walk x (each (row Program).columns) a s).sites
unfolding all_open
program_rooted done a s own within h q r = r
program_rooted (atom v more) a s own within h q r = subst AllRooted (sym (hashbang_there more (each later_columns) a s own within later_hashbang h)) r
program_rooted (many items more) a s own within h q r =
    let s₁ : Seen = walk items (all (first_column (each (row Program).columns))) a s in
    subst AllRooted (sym (hashbang_there more (each later_columns) a s₁ own within later_hashbang (and_parts _ _ h).1))
    (list_rooted items (first_column (each (row Program).columns)) a s refl q r)
program_rooted (child k b st fields more) a s own within h q r =
    let c : Column = first_column (each (row Program).columns) in
    let here : Setting = at_field c a in
    let around : Around = enter (row k) (hide k fields) here s in
    let s₁ : Seen = met (row k).opens b here around.inside.scope s in
    let e : Rooted here = field_rooted c a q in
    subst AllRooted (sym (hashbang_there more (each later_columns) a (walk fields (each (row k).columns) around s₁) own within later_hashbang (and_parts _ _ h).1))
    (walk_rooted fields (each (row k).columns) around s₁ e
    (opened_rooted (row k).opens (length s.scopes) s.classes here (strict_in (row k).strict here.strict (hide k fields)) e)
    (met_rooted (row k).opens b here around.inside.scope s e r))

root_rooted : (k : Kind) → k ≡ Program → (b : ℕ) (fields : Parts) (r : Role) → stands fields (each (row k).columns) r fields ≡ true
    → AllRooted (walk fields (each (row k).columns) (enter (row k) (hide k fields) (at_field unlisted before_all) nothing_yet)
    (met (row k).opens b (at_field unlisted before_all) (enter (row k) (hide k fields) (at_field unlisted before_all) nothing_yet).inside.scope nothing_yet)).sites
unfolding all_open
root_rooted k q b fields r = subst
    (λ (l : Kind). stands fields (each (row l).columns) r fields ≡ true
    → AllRooted (walk fields (each (row l).columns) (enter (row l) (hide l fields) (at_field unlisted before_all) nothing_yet)
    (met (row l).opens b (at_field unlisted before_all) (enter (row l) (hide l fields) (at_field unlisted before_all) nothing_yet).inside.scope nothing_yet)).sites)
    (sym q)
    (λ h. program_rooted fields (enter (row Program) (hide Program fields) (at_field unlisted before_all) nothing_yet)
    (met (row Program).opens b (at_field unlisted before_all) (enter (row Program) (hide Program fields) (at_field unlisted before_all) nothing_yet).inside.scope nothing_yet) r fields h refl tt)

reversed : (ss : List Site) → AllRooted ss → AllRooted (reverse ss)
unfolding all_open
reversed [] a = tt
reversed (s ∷ ss) a = rw (reverse_onto ss s []) (AllOf_push (λ x. same_scope x.setting.var_scope [] ≡ false) (reverse ss) s (reversed ss a.1) a.0)

pub placed_trees_are_rooted : (t : Tree) → is_placed t ≡ true → IsRooted (alone t)
unfolding all_open
placed_trees_are_rooted t h =
    let one : ((group_admits root_column.class (role_at root_column.mode Plain done) done t.kind t.fields && is_sound t.kind t.fields && stands t.fields (each (row t.kind).columns) (role_at root_column.mode Plain done) t.fields) ≡ true) × (true ≡ true) = and_parts _ _ h in
    let two : ((group_admits root_column.class (role_at root_column.mode Plain done) done t.kind t.fields && is_sound t.kind t.fields) ≡ true) × (stands t.fields (each (row t.kind).columns) (role_at root_column.mode Plain done) t.fields ≡ true) = and_parts _ _ one.0 in
    reversed (seen (alone t)).sites (root_rooted t.kind (kind_told t.kind Program (and_parts _ _ two.0).0) t.start t.fields (role_at root_column.mode Plain done) two.1)
