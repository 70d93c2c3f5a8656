-- The places of modules one after another are theirs, moved.
use Rattle.std.proofs.Common.{◌≡◌, ℕ, ◌+◌, true, List, [], ◌∷◌, ◌++◌, length, map, reverse, codes, refl, sym, ap, subst, ◌∙◌, arith, append_assoc}
use Rattle.std.proofs.lemmas.List.{append-nil, length-reverse, reverse-append, reverse-reverse}
use Rattle.std.specs.List.{AllByRecursion}
use Rattle.bundle_rules.proofs.Counted.{walk_nodes}
use Rattle.bundle_rules.proofs.MovedWalks.{AreMoved, moved_around, walk_moved}
use Rattle.bundle_rules.specs.Joined.{bodies, body, joined, module_of}
use Rattle.bundle_rules.specs.Moves.{IsBare, JoiningMovesPlaces, Moves, moved_site, moved_sites, moves_after, no_moves}
use Rattle.list_laws.proofs.Mapped.{map_reverse}
use Rattle.tree_nodes.specs.Along.{all, each}
use Rattle.tree_nodes.specs.Look.{onto}
use Rattle.tree_nodes.specs.NodeCount.{nodes_in}
use Rattle.tree_nodes.specs.Table.{Column, inner, node, row}
use Rattle.tree_nodes.specs.Tree.{Parts, Tree, alone, atom, child, done, empty, many, word}
use Rattle.tree_nodes.specs.declared.kind.Kind.{Kind}
use Rattle.tree_nodes.specs.declared.kind.Kind.TheVariants.{Program}
use Rattle.tree_nodes.specs.declared.table.Class.TheVariants.{Many}
use Rattle.tree_nodes.specs.declared.table.Group.TheVariants.{ModuleItems}
use Rattle.tree_nodes.specs.declared.table.Role.TheVariants.{Read}
use Rattle.tree_places.specs.Open.{all_open}
use Rattle.tree_places.specs.Places.{Around, Seen, Setting, Site, at_field, enter, hide, met, nowhere, seen, sites, walk}

abbrev pub body_column : Column
body_column = inner (node (codes "body") (Many (ModuleItems 1)))

-- what holds at a module's statements
abbrev root_setting : Setting
root_setting = record nowhere { role = Read; scope = 0 ∷ []; var_scope = 0 ∷ []; strict = true }

abbrev pub top : Around
top = record { outside = root_setting; inside = root_setting; fields = done; number = 0 }

-- what is seen before them
abbrev pub root_seen : Seen
root_seen = record { nodes = 1; classes = 0; scopes = (0 ∷ []) ∷ []; sites = []; withs = [] }

-- a walk of items looks around by what their column says alone
walk_alike : (x : Parts) (c : Column) (a b : Around) (s : Seen) → at_field c a ≡ at_field c b → walk x (all c) a s ≡ walk x (all c) b s
unfolding all_open
walk_alike done c a b s e = refl
walk_alike (atom v more) c a b s e = walk_alike more c a b s e
walk_alike (many items more) c a b s e =
    ap (walk more (all c) a) (walk_alike items c a b s e) ∙ walk_alike more c a b (walk items (all c) b s) e
walk_alike (child k t p fields more) c a b s e =
    let in_node = λ (h : Setting). walk fields (each (row k).columns) (enter (row k) (hide k fields) h s) (met (row k).opens t h (enter (row k) (hide k fields) h s).inside.scope s) in
    ap (λ (h : Setting). walk more (all c) a (in_node h)) e ∙ walk_alike more c a b (in_node (at_field c b)) e

walk_onto : (x y : Parts) (c : Column) (a : Around) (s : Seen) → walk (onto x y) (all c) a s ≡ walk y (all c) a (walk x (all c) a s)
unfolding all_open
walk_onto done y c a s = refl
walk_onto (atom v more) y c a s = walk_onto more y c a s
walk_onto (many items more) y c a s = walk_onto more y c a (walk items (all c) a s)
walk_onto (child k t p fields more) y c a s = walk_onto more y c a _

-- ---- a module alone

unfoldable pub statements_seen : Parts → Seen
statements_seen x = walk x (all body_column) top root_seen

module_seen : (t p : ℕ) (x : Parts) → seen (child Program t p (many x (atom (word 1) (atom empty done))) done) ≡ statements_seen x
unfolding all_open statements_seen
module_seen t p x = walk_alike x body_column _ top root_seen refl

pub bare_seen : (t : Tree) → IsBare t → seen (alone t) ≡ statements_seen (body t)
bare_seen t (k, f) =
    ap (λ (l : Kind). seen (child l t.start t.stop t.fields done)) k ∙ ap (λ (x : Parts). seen (child Program t.start t.stop x done)) f ∙ module_seen t.start t.stop (body t)

-- ---- one after another

reversed_map : (m : Moves) (ss : List Site) → reverse (map (moved_site m) (reverse ss)) ≡ map (moved_site m) ss
reversed_map m ss = ap reverse (map_reverse (moved_site m) ss) ∙ reverse-reverse (map (moved_site m) ss)

-- ready for the next module
abbrev Ready : Moves → Seen → Type 0
Ready m s = AreMoved m s.sites root_seen s

one_module : (m : Moves) (t : Tree) → IsBare t → (s : Seen) → Ready m s
    → ((walk (body t) (all body_column) top s).sites ≡ map (moved_site m) (seen (alone t)).sites ++ s.sites) × Ready (moves_after m t) (walk (body t) (all body_column) top s)
unfolding all_open statements_seen moves_after
one_module m t b s r =
    let after : Seen = statements_seen (body t) in
    let next : Seen = walk (body t) (all body_column) top s in
    let same : next ≡ walk (body t) (all body_column) (moved_around m top) s = walk_alike (body t) body_column top (moved_around m top) s refl in
    let a : AreMoved m s.sites after next = subst (AreMoved m s.sites after) (sym same) (walk_moved m s.sites (body t) (all body_column) top root_seen s r) in
    let own : seen (alone t) ≡ after = bare_seen t b in
    let nodes : after.nodes ≡ nodes_in (body t) + 1 = walk_nodes (body t) (all body_column) top root_seen in
    let many : length (reverse (seen (alone t)).scopes) ≡ length after.scopes = length-reverse (seen (alone t)).scopes ∙ ap (λ (q : Seen). length q.scopes) own in
    let bodies_are : (seen (alone t)).classes ≡ after.classes = ap (λ (q : Seen). q.classes) own in (
      a.sites ∙ ap (λ (q : Seen). map (moved_site m) q.sites ++ s.sites) (sym own),
      record {
        nodes = omega (arith, a.nodes, nodes);
        bodies = omega (arith, a.bodies, bodies_are);
        scopes = omega (arith, a.scopes, a.root, many);
        root = omega arith;
        sites = refl;
      },
    )

all_modules : (ts : List Tree) → AllByRecursion IsBare ts → (m : Moves) (s : Seen) → Ready m s → (walk (bodies ts) (all body_column) top s).sites ≡ reverse (moved_sites m ts) ++ s.sites
unfolding all_open bodies moved_sites
all_modules [] a m s r = refl
all_modules (t ∷ ts) (b, a) m s r =
    let one = one_module m t b s r in
    let next : Seen = walk (body t) (all body_column) top s in
    let rest = moved_sites (moves_after m t) ts in
    let here = map (moved_site m) (sites (alone t)) in
    ap (λ (q : Seen). q.sites) (walk_onto (body t) (bodies ts) body_column top s)
    ∙ all_modules ts a (moves_after m t) next one.1
    ∙ ap (λ (ss : List Site). reverse rest ++ ss) (one.0 ∙ ap (λ (ss : List Site). ss ++ s.sites) (sym (reversed_map m (seen (alone t)).sites)))
    ∙ sym (append_assoc (reverse rest) (reverse here) s.sites)
    ∙ ap (λ (ss : List Site). ss ++ s.sites) (sym (reverse-append here rest))

ready_first : Ready no_moves root_seen
ready_first = record { nodes = refl; bodies = refl; scopes = refl; root = omega arith; sites = refl }

pub joining_moves_places : JoiningMovesPlaces
unfolding all_open joined module_of statements_seen
joining_moves_places ts a =
    ap (λ (q : Seen). reverse q.sites) (module_seen 0 0 (bodies ts))
    ∙ ap reverse (all_modules ts a no_moves root_seen ready_first ∙ append-nil (reverse (moved_sites no_moves ts)))
    ∙ reverse-reverse (moved_sites no_moves ts)
