-- A program under other names and marks is a program, if its nodes stand where they may.
use Rattle.std.proofs.Common.{◌≡◌, ℕ, zero, Bool, true, false, ◌+◌, ◌<◌, ◌≤◌, ◌^◌, suc, max, List, [], ◌∷◌, drop, if◌then◌else◌, length, sym, subst, ap, ap₂, refl, ◌∙◌, arith}
use Rattle.std.specs.List.{AllByRecursion}
use Rattle.name_map.proofs.FilledAlike.{filled_alike}
use Rattle.name_map.proofs.FilledNames.{filled_named}
use Rattle.name_map.specs.Filled.{Given, after, called, filled, filled_tree, first_name, flag_put, inside, own_filled}
use Rattle.tree_core.proofs.FitsBack.{tree_back}
use Rattle.tree_core.proofs.ReadsBack.{shape_read, tree_fits}
use Rattle.tree_core.proofs.ReadTrees.{tree_of-placed}
use Rattle.tree_core.specs.LongestText.{longest_text, text_bytes}
use Rattle.tree_core.specs.NodeCount.{node_count, nodes_in}
use Rattle.tree_core.specs.Program.{IsProgram}
use Rattle.tree_core.specs.Values.{value_of}
use Rattle.tree_core.specs.Widest.{widest_list}
use Rattle.tree_nodes.specs.Look.{parts_len}
use Rattle.tree_nodes.specs.Standing.{is_placed}
use Rattle.tree_nodes.specs.Tree.{Parts, Text, Tree, alone, atom, child, done, flag, many, text}
use Rattle.tree_nodes.specs.declared.kind.Kind.{Kind}
use Rattle.tree_nodes.specs.declared.kind.Kind.TheVariants.{Identifier, PrivateIdentifier, Property}
use Rattle.tree_places.specs.Places.{names}
use Rattle.tree_places.specs.Renaming.{blind}
use Rattle.tree_rename.proofs.FitsAlike.{tree_fits_alike}
use Rattle.tree_rename.proofs.RenamedPrograms.{program_formed}
use Rattle.tree_rename.specs.Laws.{IsName, IsShort}
use Rattle.tree_rename.specs.Renamed.{count, has_name}

-- ---- as many nodes

nodes_called : (x : Text) (p : Parts) → nodes_in (called x p) ≡ nodes_in p
unfolding called
nodes_called x (atom (text y) more) = refl
nodes_called x _ = refl

nodes_put : (i : ℕ) (b : Bool) (p : Parts) → nodes_in (flag_put i b p) ≡ nodes_in p
unfolding flag_put
nodes_put i b done = refl
nodes_put zero b (atom (flag c) more) = refl
nodes_put zero b (atom _ more) = refl
nodes_put (suc i) b (atom a more) = nodes_put i b more
nodes_put zero b (many items more) = refl
nodes_put (suc i) b (many items more) = ap (λ n. nodes_in items + n) (nodes_put i b more)
nodes_put zero b (child k s e fields more) = refl
nodes_put (suc i) b (child k s e fields more) = ap (λ n. suc (nodes_in fields + n)) (nodes_put i b more)

nodes_own : (k : Kind) (g : Given) (p : Parts) → nodes_in (own_filled k g p) ≡ nodes_in p
unfolding own_filled
nodes_own Identifier g p = nodes_called _ p
nodes_own PrivateIdentifier g p = nodes_called _ p
nodes_own Property g p = nodes_put 4 _ p
nodes_own _ g p = refl

nodes_filled : (g : Given) (p : Parts) → nodes_in (filled g p) ≡ nodes_in p
unfolding filled
nodes_filled g done = refl
nodes_filled g (atom a more) = nodes_filled g more
nodes_filled g (many items more) = ap₂ (λ a b. a + b) (nodes_filled g items) (nodes_filled (after items g) more)
nodes_filled g (child k s e fields more) =
    ap₂ (λ a b. suc (a + b)) (nodes_own k g (filled (inside k g) fields) ∙ nodes_filled (inside k g) fields) (nodes_filled (after fields (inside k g)) more)

counts : (g : Given) (u : Tree) → node_count (filled_tree g u) ≡ node_count u
unfolding filled
counts g u =
    let same : nodes_in (alone (filled_tree g u)) ≡ nodes_in (alone u) = nodes_filled g (alone u) in
    omega (arith, same)

-- ---- lists as wide

long_filled : (g : Given) (p : Parts) → parts_len (filled g p) ≡ parts_len p
unfolding filled
long_filled g done = refl
long_filled g (atom a more) = ap suc (long_filled g more)
long_filled g (many items more) = ap suc (long_filled (after items g) more)
long_filled g (child k s e fields more) = ap suc (long_filled (after fields (inside k g)) more)

widest_called : (x : Text) (p : Parts) → widest_list (called x p) ≡ widest_list p
unfolding called
widest_called x (atom (text y) more) = refl
widest_called x _ = refl

widest_put : (i : ℕ) (b : Bool) (p : Parts) → widest_list (flag_put i b p) ≡ widest_list p
unfolding flag_put
widest_put i b done = refl
widest_put zero b (atom (flag c) more) = refl
widest_put zero b (atom _ more) = refl
widest_put (suc i) b (atom a more) = widest_put i b more
widest_put zero b (many items more) = refl
widest_put (suc i) b (many items more) = ap (λ n. max (parts_len items) (max (widest_list items) n)) (widest_put i b more)
widest_put zero b (child k s e fields more) = refl
widest_put (suc i) b (child k s e fields more) = ap (λ n. max (widest_list fields) n) (widest_put i b more)

widest_own : (k : Kind) (g : Given) (p : Parts) → widest_list (own_filled k g p) ≡ widest_list p
unfolding own_filled
widest_own Identifier g p = widest_called _ p
widest_own PrivateIdentifier g p = widest_called _ p
widest_own Property g p = widest_put 4 _ p
widest_own _ g p = refl

widest_filled : (g : Given) (p : Parts) → widest_list (filled g p) ≡ widest_list p
unfolding filled
widest_filled g done = refl
widest_filled g (atom a more) = widest_filled g more
widest_filled g (many items more) =
    ap₂ max (long_filled g items) (ap₂ max (widest_filled g items) (widest_filled (after items g) more))
widest_filled g (child k s e fields more) =
    ap₂ max (widest_own k g (filled (inside k g) fields) ∙ widest_filled (inside k g) fields) (widest_filled (after fields (inside k g)) more)

as_wide : (g : Given) (u : Tree) → widest_list (filled_tree g u).fields ≡ widest_list u.fields
as_wide g u = widest_own u.kind g (filled (inside u.kind g) u.fields) ∙ widest_filled (inside u.kind g) u.fields

-- ---- texts that are short

abbrev Short : List Text → Type 0
Short xs = AllByRecursion IsShort xs

short_drop : (n : ℕ) (xs : List Text) → Short xs → Short (drop n xs)
short_drop zero xs h = h
short_drop (suc n) [] h = tt
short_drop (suc n) (x ∷ xs) h = short_drop n xs h.1

short_first : (xs : List Text) → Short xs → IsShort (first_name xs)
short_first [] h = omega arith
short_first (x ∷ xs) h = h.0

short_inside : (b : Bool) (xs : List Text) → Short xs → Short (if b then drop 1 xs else xs)
short_inside true xs h = short_drop 1 xs h
short_inside false xs h = h

texts_called : (x : Text) (p : Parts) → IsShort x → longest_text p < 2 ^ 32 → longest_text (called x p) < 2 ^ 32
unfolding called
texts_called x (atom (text y) more) s h = omega (arith, s, h)
texts_called x _ s h = h

texts_put : (i : ℕ) (b : Bool) (p : Parts) → longest_text (flag_put i b p) ≡ longest_text p
unfolding flag_put
texts_put i b done = refl
texts_put zero b (atom (flag c) more) = refl
texts_put zero b (atom _ more) = refl
texts_put (suc i) b (atom a more) = ap (λ n. max (text_bytes a) n) (texts_put i b more)
texts_put zero b (many items more) = refl
texts_put (suc i) b (many items more) = ap (λ n. max (longest_text items) n) (texts_put i b more)
texts_put zero b (child k s e fields more) = refl
texts_put (suc i) b (child k s e fields more) = ap (λ n. max (longest_text fields) n) (texts_put i b more)

texts_own : (k : Kind) (g : Given) (p : Parts) → Short g.names → longest_text p < 2 ^ 32 → longest_text (own_filled k g p) < 2 ^ 32
unfolding own_filled
texts_own Identifier g p a h = texts_called (first_name g.names) p (short_first g.names a) h
texts_own PrivateIdentifier g p a h = texts_called (first_name g.names) p (short_first g.names a) h
texts_own Property g p a h = subst (λ (n : ℕ). n < 2 ^ 32) (sym (texts_put 4 _ p)) h
texts_own _ g p a h = h

texts_filled : (g : Given) (p : Parts) → Short g.names → longest_text p < 2 ^ 32 → longest_text (filled g p) < 2 ^ 32
unfolding filled
texts_filled g done a h = omega arith
texts_filled g (atom x more) a h = omega (arith, h, texts_filled g more a (omega (arith, h)))
texts_filled g (many items more) a h =
    let first : longest_text (filled g items) < 2 ^ 32 = texts_filled g items a (omega (arith, h)) in
    let rest : longest_text (filled (after items g) more) < 2 ^ 32 = texts_filled (after items g) more (short_drop (count items) g.names a) (omega (arith, h)) in
    omega (arith, first, rest)
texts_filled g (child k s e fields more) a h =
    let within = short_inside (has_name k) g.names a in
    let below : longest_text (filled (inside k g) fields) < 2 ^ 32 = texts_filled (inside k g) fields within (omega (arith, h)) in
    let own : longest_text (own_filled k g (filled (inside k g) fields)) < 2 ^ 32 = texts_own k g (filled (inside k g) fields) a below in
    let rest : longest_text (filled (after fields (inside k g)) more) < 2 ^ 32 = texts_filled (after fields (inside k g)) more (short_drop (count fields) _ within) (omega (arith, h)) in
    omega (arith, own, rest)

texts_short : (g : Given) (u : Tree) → Short g.names → longest_text u.fields < 2 ^ 32 → longest_text (filled_tree g u).fields < 2 ^ 32
texts_short g u a h =
    texts_own u.kind g (filled (inside u.kind g) u.fields) a (texts_filled (inside u.kind g) u.fields (short_inside (has_name u.kind) g.names a) h)

-- ---- a program

pub program_placed : (t : Tree) → IsProgram t → is_placed t ≡ true
program_placed t p = (shape_read (value_of t) t p.0).1

pub filled_program : (g : Given) (u : Tree) → IsProgram u → AllByRecursion IsName g.names → AllByRecursion IsShort g.names → count (alone u) ≤ length g.names
    → is_placed (filled_tree g u) ≡ true → IsProgram (filled_tree g u)
unfolding filled
filled_program g u p a b l placed =
    let w = filled_tree g u in
    let formed = (program_formed u p).0 in
    let alike : blind (alone w) ≡ blind (alone u) = filled_alike g (alone u) formed in
    let new = tree_fits_alike w u alike formed (filled_named g (alone u) formed a l) (tree_fits (value_of u) u p.0) in (
      tree_of-placed (value_of w) w (tree_back w new).0 placed,
      subst (λ k. k < 2 ^ 30) (sym (counts g u)) p.1,
      subst (λ k. k < 2 ^ 30) (sym (as_wide g u)) p.2,
      texts_short g u b p.3,
    )
