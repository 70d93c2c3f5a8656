-- The text of a program's value with its fix paths reads as the object of the two.
use Rattle.std.proofs.Common.{◌≡◌, ℕ, suc, ◌+◌, ◌≤◌, ◌<◌, ◌^◌, List, [], ◌∷◌, ◌++◌, map, Bool, true, false, if◌then◌else◌, refl, sym, ap, ap₂, subst, arith, codes}
use Rattle.std.specs.List.{AllByRecursion}
use Rattle.std.proofs.lemmas.Str.{IsUtf8-from_ascii}
use Rattle.json_text.specs.Json.{Json, list, object, member, no_members, Items, item}
use Rattle.json_text.specs.Grammar.{Reads}
use Rattle.json_text.specs.HasText.{HasText, ItemsHaveText}
use Rattle.json_text.proofs.Once.{reads_once}
use Rattle.json_text.proofs.Texts.{text_reads_alone}
use Rattle.json_text.proofs.Units.{AreCodeUnits-units_of}
use Rattle.oxc_estree.specs.Envelope.{envelope, envelope_value, fix_paths as paths_within}
use Rattle.oxc_estree.specs.Out.{Part, index, key, parts_items, path_value}
use Rattle.oxc_estree.proofs.EnvelopeReads.{reads_alone}
use Rattle.oxc_estree.proofs.Paths.{front-append}
use Rattle.tree_nodes.specs.Look.{parts_len}
use Rattle.tree_nodes.specs.Table.{Column, row}
use Rattle.tree_nodes.specs.Tree.{Parts, Tree, atom, child, done, many}
use Rattle.tree_nodes.proofs.Cases.{both}
use Rattle.tree_core.specs.Laws.{ProgramsAreSmall, WrappedProgramsRead}
use Rattle.tree_core.specs.Program.{IsProgram}
use Rattle.tree_core.specs.Readable.{are_readable, is_ascii, is_readable}
use Rattle.tree_core.specs.Values.{fields_paths, fix_paths, is_marked, items_paths, meaning_of, own_path, paths_value, value_of, wrapped_value}
use Rattle.tree_core.specs.Widest.{widest_list}
use Rattle.tree_core.proofs.AsciiTexts.{ascii_text}
use Rattle.tree_core.proofs.ReadableRows.{columns_readable}
use Rattle.tree_core.proofs.ReadsBack.{tree_has_text}

-- ---- paths that have a text: keys in ASCII, and positions of at most 64 digits

abbrev IsShortPart : Part → Type 0
IsShortPart (key k) = is_ascii k ≡ true
IsShortPart (index i) = i < 10 ^ 64

abbrev IsShortPath : List Part → Type 0
IsShortPath p = AllByRecursion IsShortPart p

abbrev AreShort : List (List Part) → Type 0
AreShort ps = AllByRecursion IsShortPath ps

short_onto : (q : Part) (ps qs : List (List Part)) → IsShortPart q → AreShort ps → AreShort qs → AreShort (map (λ p. q ∷ p) ps ++ qs)
short_onto q [] qs h a b = b
short_onto q (p ∷ ps) qs h a b = ((h, a.0), short_onto q ps qs h a.1 b)

short_append : (ps qs : List (List Part)) → AreShort ps → AreShort qs → AreShort (ps ++ qs)
short_append [] qs a b = b
short_append (p ∷ ps) qs a b = (a.0, short_append ps qs a.1 b)

own_short : (b : Bool) → AreShort (if b then [] ∷ [] else [])
own_short true = (tt, tt)
own_short false = tt

key_short : (c : Column) → is_readable c ≡ true → IsShortPart (key c.key)
key_short c e = (both _ (is_ascii c.key) e).1

mutual
  fields_short : (ps : Parts) (cs : List Column) → are_readable cs ≡ true → widest_list ps < 2 ^ 30 → AreShort (fields_paths ps cs)
  fields_short done cs r w = tt
  fields_short (atom a rest) [] r w = tt
  fields_short (atom a rest) (c ∷ cs) r w = fields_short rest cs (both (is_readable c) (are_readable cs) r).1 w
  fields_short (child k s e fs rest) [] r w = tt
  fields_short (child k s e fs rest) (c ∷ cs) r w =
      let two = both (is_readable c) (are_readable cs) r in
      short_onto (key c.key) (own_path k fs ++ fields_paths fs (row k).columns) (fields_paths rest cs) (key_short c two.0)
      (short_append (own_path k fs) (fields_paths fs (row k).columns) (own_short (is_marked k fs)) (fields_short fs (row k).columns (columns_readable k) (omega (arith, w))))
      (fields_short rest cs two.1 (omega (arith, w)))
  fields_short (many items rest) [] r w = tt
  fields_short (many items rest) (c ∷ cs) r w =
      let two = both (is_readable c) (are_readable cs) r in
      short_onto (key c.key) (items_paths items 0) (fields_paths rest cs) (key_short c two.0)
      (items_short items 0 (omega (arith, w)) (omega (arith, w))) (fields_short rest cs two.1 (omega (arith, w)))

  items_short : (ps : Parts) (i : ℕ) → i + parts_len ps ≤ 2 ^ 30 → widest_list ps < 2 ^ 30 → AreShort (items_paths ps i)
  items_short done i long w = tt
  items_short (atom a rest) i long w = items_short rest (suc i) (omega (arith, long)) w
  items_short (child k s e fs rest) i long w =
      short_onto (index i) (own_path k fs ++ fields_paths fs (row k).columns) (items_paths rest (suc i)) (omega (arith, long))
      (short_append (own_path k fs) (fields_paths fs (row k).columns) (own_short (is_marked k fs)) (fields_short fs (row k).columns (columns_readable k) (omega (arith, w))))
      (items_short rest (suc i) (omega (arith, long)) (omega (arith, w)))
  items_short (many items rest) i long w = items_short rest i (omega (arith, long)) (omega (arith, w))

tree_short : (t : Tree) → widest_list t.fields < 2 ^ 30 → AreShort (fix_paths t)
tree_short t w = short_append (own_path t.kind t.fields) (fields_paths t.fields (row t.kind).columns) (own_short (is_marked t.kind t.fields)) (fields_short t.fields (row t.kind).columns (columns_readable t.kind) w)

parts_text : (ps : List Part) → IsShortPath ps → ItemsHaveText (parts_items ps)
parts_text [] h = tt
parts_text (key k ∷ ps) h = (AreCodeUnits-units_of k (IsUtf8-from_ascii k (ascii_text k h.0)), parts_text ps h.1)
parts_text (index i ∷ ps) h = (h.0, parts_text ps h.1)

paths_text : (ps : List (List Part)) → AreShort ps → ItemsHaveText (paths_value ps)
paths_text [] h = tt
paths_text (p ∷ ps) h = (parts_text p h.0, paths_text ps h.1)

-- ---- the object of both

-- what is marked, less its last part
fronts : (ps : List (List Part)) → paths_within (map (λ p. p ++ key (codes "value") ∷ []) ps) ≡ paths_value ps
fronts [] = refl
fronts (p ∷ ps) = ap₂ (λ x (more : Items). item (path_value x) more) (front-append p (key (codes "value"))) (fronts ps)

same_value : (t : Tree) → envelope_value (meaning_of t) ≡ wrapped_value t
same_value t = ap (λ (ps : Items). object (member (codes "node") (value_of t) (member (codes "fixes") (list ps) no_members))) (fronts (fix_paths t))

wrapped_has_text : (t : Tree) → IsProgram t → HasText (wrapped_value t)
wrapped_has_text t p =
    let node : HasText (value_of t) = tree_has_text (value_of t) t p.0 in
    let fixes : ItemsHaveText (paths_value (fix_paths t)) = paths_text (fix_paths t) (tree_short t p.2) in
    ((omega arith, (omega arith, (omega arith, (omega arith, tt)))), node, ((omega arith, (omega arith, (omega arith, (omega arith, (omega arith, tt))))), fixes, tt))

pub wrapped_programs_read : WrappedProgramsRead
wrapped_programs_read l t p =
    let r = reads_alone text_reads_alone reads_once l (meaning_of t) (subst HasText (sym (same_value t)) (wrapped_has_text t p)) in
    subst (λ (v : Json). Reads (envelope l (meaning_of t)) v × ((w : Json) → Reads (envelope l (meaning_of t)) w → w ≡ v)) (same_value t) r

pub programs_are_small : ProgramsAreSmall
programs_are_small t p = let few = p.1 in omega (arith, few)
