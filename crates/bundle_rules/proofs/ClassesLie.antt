-- The class bodies around a place are among those that the walk has met: so those of different modules are apart.
use Rattle.std.proofs.Common.{◌≡◌, ◌<◌, ◌≤◌, ℕ, zero, suc, ◌+◌, Bool, true, false, cond, List, [], ◌∷◌, length, Some, slice_get, refl, sym, subst, arith}
use Rattle.bundle_rules.proofs.BundlePlaces.{moves_at}
use Rattle.bundle_rules.proofs.JoinedSites.{bare_seen, body_column, root_seen, statements_seen, top}
use Rattle.bundle_rules.proofs.NewNamesApart.{Part}
use Rattle.bundle_rules.specs.Joined.{body}
use Rattle.bundle_rules.specs.Moves.{IsBare, Moves, moves_after}
use Rattle.list_laws.proofs.AllOf.{AllOf, AllOf_reverse, AllOf_weaken, of_each}
use Rattle.list_laws.proofs.Members.{In}
use Rattle.list_laws.proofs.Tests.{some_one}
use Rattle.scope_rules.specs.Open.{all_open}
use Rattle.tree_nodes.proofs.Cases.{none_some}
use Rattle.tree_nodes.specs.Along.{Along, all, each, first_column, other_columns}
use Rattle.tree_nodes.specs.Table.{Column, row}
use Rattle.tree_nodes.specs.Tree.{Parts, Tree, alone, atom, child, done, many}
use Rattle.tree_nodes.specs.declared.table.Mark.{Mark}
use Rattle.tree_nodes.specs.declared.table.Mark.TheVariants.{Usual}
use Rattle.tree_nodes.specs.declared.table.Opens.{Opens}
use Rattle.tree_nodes.specs.declared.table.Opens.TheVariants.{BareBlock, Block, ClassMembers, Hoisting, NameHere, Nothing, PrivateNameHere, WithBody}
use Rattle.tree_places.proofs.MarkedSettings.{inner_setting}
use Rattle.tree_places.specs.Places.{Around, Seen, Setting, Site, at_field, enter, hide, met, seen, side, sites, strict_in, walk, with_mark}

abbrev pub Below : ℕ → List ℕ → Type 0
Below n cs = AllOf (λ c. c < n) cs

below_more : (n k : ℕ) (cs : List ℕ) → n ≤ k → Below n cs → Below k cs
below_more n k cs h a = AllOf_weaken (λ c. c < n) (λ c. c < k) (λ c l. omega (arith, h, l)) cs a

abbrev AllBelow : ℕ → List Site → Type 0
AllBelow n ss = AllOf (λ q. Below n q.setting.classes) ss

all_more : (n k : ℕ) (ss : List Site) → n ≤ k → AllBelow n ss → AllBelow k ss
all_more n k ss h a = AllOf_weaken (λ (q : Site). Below n q.setting.classes) (λ (q : Site). Below k q.setting.classes) (λ q b. below_more n k q.setting.classes h b) ss a

mark_keeps_classes : (k : Mark) (fields : Parts) (n : ℕ) (o : List ℕ) (e : Setting) → (with_mark k fields n o e).classes ≡ e.classes
unfolding all_open
mark_keeps_classes Usual fields n o e = refl
mark_keeps_classes _ fields n o e = refl

side_below : (b : Bool) (n : ℕ) (a : Around) → Below n a.outside.classes → Below n a.inside.classes → Below n (side b a).classes
unfolding all_open
side_below true n a p q = q
side_below false n a p q = p

field_below : (f : Column) (n : ℕ) (a : Around) → Below n a.outside.classes → Below n a.inside.classes → Below n (at_field f a).classes
unfolding all_open
field_below f n a p q = let s : Below n (side f.inside a).classes = side_below f.inside n a p q in rw (mark_keeps_classes f.mark) s

record Met (s s' : Seen) (inner : Setting) : Type 0 where
  more : s.classes ≤ s'.classes
  all : AllBelow s'.classes s'.sites
  inside : Below s'.classes inner.classes

met_below : (o : Opens) (b : ℕ) (e : Setting) (strict : Bool) (s : Seen) → Below s.classes e.classes → AllBelow s.classes s.sites
    → Met s (met o b e (inner_setting o e strict s).scope s) (inner_setting o e strict s)
unfolding all_open
met_below Nothing b e strict s p a = record { more = omega arith; all = a; inside = p }
met_below Block b e strict s p a = record { more = omega arith; all = a; inside = p }
met_below WithBody b e strict s p a = record { more = omega arith; all = a; inside = p }
met_below Hoisting b e strict s p a = record { more = omega arith; all = a; inside = p }
met_below ClassMembers b e strict s p a = record { more = omega arith; all = all_more s.classes (suc s.classes) s.sites (omega arith) a; inside = (omega arith, below_more s.classes (suc s.classes) e.classes (omega arith) p) }
met_below NameHere b e strict s p a = record { more = omega arith; all = (p, a); inside = p }
met_below PrivateNameHere b e strict s p a = record { more = omega arith; all = (p, a); inside = p }
met_below BareBlock b e strict s p a = record { more = omega arith; all = a; inside = go e.bare }
  where
    go : (c : Bool) → Below s.classes (cond c (record e { strict = strict }) (record e { strict = strict; scope = length s.scopes ∷ e.scope })).classes
    go true = p
    go false = p

walk_below : (x : Parts) (columns : Along) (a : Around) (s : Seen) → Below s.classes a.outside.classes → Below s.classes a.inside.classes → AllBelow s.classes s.sites
    → (s.classes ≤ (walk x columns a s).classes) × AllBelow (walk x columns a s).classes (walk x columns a s).sites
unfolding all_open
walk_below done columns a s p q r = (omega arith, r)
walk_below (atom v more) columns a s p q r = walk_below more (other_columns columns) a s p q r
walk_below (many items more) columns a s p q r =
    let s₁ : Seen = walk items (all (first_column columns)) a s in
    let one = walk_below items (all (first_column columns)) a s p q r in
    let two = walk_below more (other_columns columns) a s₁ (below_more _ _ a.outside.classes one.0 p) (below_more _ _ a.inside.classes one.0 q) one.1 in
    (omega (arith, one.0, two.0), two.1)
walk_below (child k b stop fields more) columns a s p q r =
    let here : Setting = at_field (first_column columns) a in
    let around : Around = enter (row k) (hide k fields) here s in
    let s₁ : Seen = met (row k).opens b here around.inside.scope s in
    let s₂ : Seen = walk fields (each (row k).columns) around s₁ in
    let h : Below s.classes here.classes = field_below (first_column columns) s.classes a p q in
    let m : Met s s₁ around.inside = met_below (row k).opens b here (strict_in (row k).strict here.strict (hide k fields)) s h r in
    let one : s.classes ≤ s₁.classes = m.more in
    let two = walk_below fields (each (row k).columns) around s₁ (below_more _ _ here.classes one h) m.inside m.all in
    let both : s.classes ≤ s₂.classes = (let t : s₁.classes ≤ s₂.classes = two.0 in omega (arith, one, t)) in
    let three = walk_below more (other_columns columns) a s₂ (below_more _ _ a.outside.classes both p) (below_more _ _ a.inside.classes both q) two.1 in
    (omega (arith, both, three.0), three.1)

-- ---- one module

abbrev pub classes_in : Tree → ℕ
classes_in t = (seen (alone t)).classes

all_below : (t : Tree) → IsBare t → AllBelow (classes_in t) (sites (alone t))
unfolding all_open statements_seen
all_below t b =
    let after : Seen = statements_seen (body t) in
    let own : seen (alone t) ≡ after = bare_seen t b in
    let w = walk_below (body t) (all body_column) top root_seen tt tt tt in
    AllOf_reverse (λ (q : Site). Below (classes_in t) q.setting.classes) (seen (alone t)).sites (subst (λ (q : Seen). AllBelow q.classes q.sites) (sym own) w.1)

pub classes_lie : (t : Tree) → IsBare t → (s : Site) → In s (sites (alone t)) → Below (classes_in t) s.setting.classes
classes_lie t b s i = of_each (λ (q : Site). Below (classes_in t) q.setting.classes) (sites (alone t)) s (all_below t b) i

-- ---- modules in turn have their own class bodies

more_bodies : (m : Moves) (ds : List Part) (k : ℕ) → m.bodies ≤ (moves_at m ds k).bodies
unfolding moves_after
more_bodies m [] k = omega arith
more_bodies m (d ∷ ds) zero = omega arith
more_bodies m (d ∷ ds) (suc k) = omega (arith, more_bodies (moves_after m d.tree) ds k)

pub bodies_rise : (m : Moves) (ds : List Part) (k j : ℕ) (d : Part) → k < j → slice_get ds k ≡ Some d → (moves_at m ds k).bodies + classes_in d.tree ≤ (moves_at m ds j).bodies
unfolding moves_after
bodies_rise m [] k j d l e = none_some d e
bodies_rise m (f ∷ ds) k zero d l e = absurd (omega (arith, l))
bodies_rise m (f ∷ ds) zero (suc j) d l e =
    subst (λ (g : Part). m.bodies + classes_in g.tree ≤ (moves_at (moves_after m f.tree) ds j).bodies) (some_one f d e) (more_bodies (moves_after m f.tree) ds j)
bodies_rise m (f ∷ ds) (suc k) (suc j) d l e = bodies_rise (moves_after m f.tree) ds k j d (omega (arith, l)) e
