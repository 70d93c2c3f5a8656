-- A program renamed is a program.
use Rattle.std.proofs.Common.{◌≡◌, ℕ, true, zero, suc, ◌+◌, ◌<◌, ◌^◌, max, List, [], ◌∷◌, Option, Some, None, String, IsTrue, drop, length, map, slice_get, string_bytes, refl, sym, ap, ap₂, subst, ◌∙◌, arith}
use Rattle.std.proofs.lemmas.Str.{IsUtf8-string_bytes}
use Rattle.std.specs.List.{AllByRecursion}
use Rattle.tree_core.proofs.FitsBack.{tree_back}
use Rattle.syntax_lex.specs.Identifier.{is_identifier_name}
use Rattle.tree_core.proofs.ReadsBack.{shape_read, tree_fits}
use Rattle.tree_core.proofs.ReadTrees.{tree_of-placed}
use Rattle.tree_core.specs.LongestText.{longest_text}
use Rattle.tree_core.specs.NodeCount.{node_count, nodes_in}
use Rattle.tree_core.specs.Program.{IsProgram}
use Rattle.tree_core.specs.Values.{value_of}
use Rattle.tree_core.specs.Widest.{widest_list}
use Rattle.tree_nodes.specs.Look.{parts_len}
use Rattle.tree_nodes.specs.Tree.{Parts, Text, Tree, alone, atom, child, done, flag, many, text}
use Rattle.tree_nodes.specs.declared.kind.Kind.{Kind}
use Rattle.tree_nodes.specs.declared.kind.Kind.TheVariants.{Identifier, PrivateIdentifier, Property}
use Rattle.tree_places.specs.Places.{hide, names, sites, unmarked, unnamed}
use Rattle.tree_places.specs.Renaming.{IsRenamed, blind}
use Rattle.tree_places.specs.Chosen.{chosen, given_name, or_own, spare_plain}
use Rattle.tree_rename.specs.Formed.{AreFormed}
use Rattle.tree_rename.specs.Renamed.{renamed}
use Rattle.tree_rename.specs.Laws.{IsName, IsShort, RenamedProgramsArePrograms}
use Rattle.tree_rename.proofs.FitsAlike.{tree_fits_alike}
use Rattle.tree_rename.proofs.FormedFits.{tree_formed}
use Rattle.tree_rename.proofs.IdentifierNames.{Named, all_named, named_all}
use Rattle.tree_rename.proofs.RenamedNames.{renamed_names}
use Rattle.tree_rename.proofs.RenamedTexts.{names_short, renamed_texts}
use Rattle.tree_rename.proofs.WalkRenames.{walk_renames}
use Rattle.tree_rename.proofs.StandsAlike.{tree_placed_alike}

-- ---- as many nodes

nodes_unnamed : (x : Parts) → nodes_in (unnamed x) ≡ nodes_in x
unfolding unnamed
nodes_unnamed (atom (text t) more) = refl
nodes_unnamed _ = refl

nodes_unmarked : (x : Parts) → nodes_in (unmarked x) ≡ nodes_in x
unfolding unmarked
nodes_unmarked (atom kind (child k s e key (child k' s' e' value (atom method (atom (flag mark) more))))) = refl
nodes_unmarked _ = refl

nodes_hide : (k : Kind) (x : Parts) → nodes_in (hide k x) ≡ nodes_in x
unfolding hide
nodes_hide Identifier x = nodes_unnamed x
nodes_hide PrivateIdentifier x = nodes_unnamed x
nodes_hide Property x = nodes_unmarked x
nodes_hide _ x = refl

nodes_blind : (x : Parts) → nodes_in (blind x) ≡ nodes_in x
unfolding blind
nodes_blind done = refl
nodes_blind (atom a more) = nodes_blind more
nodes_blind (many items more) = ap₂ (λ a b. a + b) (nodes_blind items) (nodes_blind more)
nodes_blind (child k s e fields more) = ap₂ (λ a b. suc (a + b)) (nodes_hide k (blind fields) ∙ nodes_blind fields) (nodes_blind more)

counts : (u t : Tree) → blind (alone u) ≡ blind (alone t) → node_count u ≡ node_count t
counts u t e =
    let same : nodes_in (alone u) ≡ nodes_in (alone t) = sym (nodes_blind (alone u)) ∙ ap nodes_in e ∙ nodes_blind (alone t) in
    omega (arith, same)

-- ---- lists as wide

long_blind : (x : Parts) → parts_len (blind x) ≡ parts_len x
unfolding blind
long_blind done = refl
long_blind (atom a more) = ap suc (long_blind more)
long_blind (many items more) = ap suc (long_blind more)
long_blind (child k s e fields more) = ap suc (long_blind more)

widest_unnamed : (x : Parts) → widest_list (unnamed x) ≡ widest_list x
unfolding unnamed
widest_unnamed (atom (text t) more) = refl
widest_unnamed _ = refl

widest_unmarked : (x : Parts) → widest_list (unmarked x) ≡ widest_list x
unfolding unmarked
widest_unmarked (atom kind (child k s e key (child k' s' e' value (atom method (atom (flag mark) more))))) = refl
widest_unmarked _ = refl

widest_hide : (k : Kind) (x : Parts) → widest_list (hide k x) ≡ widest_list x
unfolding hide
widest_hide Identifier x = widest_unnamed x
widest_hide PrivateIdentifier x = widest_unnamed x
widest_hide Property x = widest_unmarked x
widest_hide _ x = refl

widest_blind : (x : Parts) → widest_list (blind x) ≡ widest_list x
unfolding blind
widest_blind done = refl
widest_blind (atom a more) = widest_blind more
widest_blind (many items more) = ap₂ max (long_blind items) (ap₂ max (widest_blind items) (widest_blind more))
widest_blind (child k s e fields more) = ap₂ max (widest_hide k (blind fields) ∙ widest_blind fields) (widest_blind more)

as_wide : (u t : Tree) → blind (alone u) ≡ blind (alone t) → widest_list u.fields ≡ widest_list t.fields
as_wide u t e =
    let same : max (widest_list u.fields) 0 ≡ max (widest_list t.fields) 0 = sym (widest_blind (alone u)) ∙ ap widest_list e ∙ widest_blind (alone t) in
    omega (arith, same)

-- ---- a program

pub program_formed : (t : Tree) → IsProgram t → AreFormed (alone t) × Named (alone t)
program_formed t p = tree_formed t (tree_fits (value_of t) t p.0)

pub renamed_programs : RenamedProgramsArePrograms
renamed_programs t u p r n short =
    let fits = tree_fits (value_of t) t p.0 in
    let formed = (tree_formed t fits).0 in
    let named = named_all (alone u) n in
    let new = tree_fits_alike u t r.alike formed named fits in
    let placed = tree_placed_alike u t r.alike formed named r.marked (shape_read (value_of t) t p.0).1 in (
      tree_of-placed (value_of u) u (tree_back u new).0 placed,
      subst (λ k. k < 2 ^ 30) (sym (counts u t r.alike)) p.1,
      subst (λ k. k < 2 ^ 30) (sym (as_wide u t r.alike)) p.2,
      renamed_texts u t r.alike p.3 short,
    )

-- ---- names that are chosen among names with a property

module _ (P : Text → Type 0) where
  given_text : (given : List Text) (i : ℕ) (x : Text) → AllByRecursion P given → P x → P (or_own (slice_get given i) x)
  unfolding or_own
  given_text [] i x g h = h
  given_text (y ∷ ys) zero x g h = g.0
  given_text (y ∷ ys) (suc i) x g h = given_text ys i x g.1 h

  given_first : (given : List Text) (cs : List (Option ℕ)) (x : Text) → AllByRecursion P given → P x → P (or_own (given_name given cs) x)
  unfolding given_name or_own
  given_first given [] x g h = h
  given_first given (None ∷ cs) x g h = h
  given_first given (Some i ∷ cs) x g h = given_text given i x g h

  pub chosen_all : (given : List Text) (cs : List (Option ℕ)) (xs : List Text) → AllByRecursion P given → AllByRecursion P xs → AllByRecursion P (chosen given cs xs)
  unfolding chosen
  chosen_all given cs [] g h = tt
  chosen_all given cs (x ∷ xs) g h = (given_first given cs x g h.0, chosen_all given (drop 1 cs) xs g h.1)

pub texts_are_names : {Z : Type 0} (ss : List (String Z)) → AllByRecursion (λ s. IsTrue (is_identifier_name (string_bytes s))) ss
    → AllByRecursion IsName (map string_bytes ss)
texts_are_names [] h = tt
texts_are_names (s ∷ ss) h = ((IsUtf8-string_bytes s, h.0), texts_are_names ss h.1)

pub texts_are_short : {Z : Type 0} (ss : List (String Z)) → AllByRecursion (λ s. length (string_bytes s) < 2 ^ 32) ss
    → AllByRecursion IsShort (map string_bytes ss)
texts_are_short [] h = tt
texts_are_short (s ∷ ss) h = (h.0, texts_are_short ss h.1)

-- the fact: a program with names that are chosen is a program
pub chosen_program : (given : List Text) (cs : List (Option ℕ)) (t u : Tree) → IsProgram t → AllByRecursion IsName given → AllByRecursion IsShort given
    → IsRenamed (alone t) (alone u) → names (alone u) ≡ chosen given cs (names (alone t)) → IsProgram u
chosen_program given cs t u p g s r e =
    let old = program_formed t p in
    let low : longest_text t.fields < 2 ^ 32 = p.3 in
    renamed_programs t u p r (subst (AllByRecursion IsName) (sym e) (chosen_all IsName given cs (names (alone t)) g (all_named (alone t) old.1)))
    (subst (AllByRecursion IsShort) (sym e) (chosen_all IsShort given cs (names (alone t)) s (names_short (alone t) (omega (arith, low)))))

-- the same, of what the walk makes of a program
pub program_renamed : (given : List Text) (cs : List (Option ℕ)) (t u : Tree) → IsProgram t → spare_plain (sites (alone t)) cs ≡ true
    → AllByRecursion IsName given → AllByRecursion IsShort given → alone u ≡ renamed given cs (alone t)
    → IsRenamed (alone t) (alone u) × (names (alone u) ≡ chosen given cs (names (alone t))) × IsProgram u
program_renamed given cs t u p spare g s e =
    let formed = (program_formed t p).0 in
    let is : IsRenamed (alone t) (alone u) = subst (IsRenamed (alone t)) (sym e) (walk_renames given cs (alone t) formed spare) in
    let new : names (alone u) ≡ chosen given cs (names (alone t)) = ap names e ∙ renamed_names given cs (alone t) formed in
    (is, new, chosen_program given cs t u p g s is new)
