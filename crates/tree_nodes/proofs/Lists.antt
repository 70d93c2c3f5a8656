-- Lists of fields and of nodes beside the runs that they stand for.
use Rattle.std.proofs.Common.{◌≡◌, ℕ, zero, suc, List, [], ◌∷◌, length, true, Option, Some, None, option_map, option_copied, IfSome, Bor, slice_get, refl, sym, ap, ◌∙◌, ◌<◌, ◌≤◌, arith}
use Rattle.tree_nodes.specs.Tree.{Tree, Parts, done, atom, child, many, before, empty, flag, word, text, units, whole}
use Rattle.tree_nodes.specs.Look.{parts_size, part_size, parts_len, part_at, item_at, item_size, are_items, past, onto}
use Rattle.tree_nodes.specs.Views.{part_of, parts_of, item_of, items_of}
use Rattle.tree_nodes.specs.declared.node.Field.{Field}
use Rattle.tree_nodes.specs.declared.node.Field.TheVariants.{Empty, Flag, Word, Text, Str, Whole, Child, List as Several}

pub parts_len-put : (f : Field) (ps : Parts) → parts_len (onto (part_of f) ps) ≡ suc (parts_len ps)
parts_len-put Empty ps = refl
parts_len-put (Flag b) ps = refl
parts_len-put (Word w) ps = refl
parts_len-put (Text t) ps = refl
parts_len-put (Str us) ps = refl
parts_len-put (Whole n) ps = refl
parts_len-put (Child b) ps = refl
parts_len-put (Several ts) ps = refl

pub parts_len-parts_of : (fs : List Field) → parts_len (parts_of fs) ≡ length fs
parts_len-parts_of [] = refl
parts_len-parts_of (f ∷ fs) = parts_len-put f (parts_of fs) ∙ ap suc (parts_len-parts_of fs)

part_at-put : (f : Field) (ps : Parts) → part_at (onto (part_of f) ps) zero ≡ Some (part_of f)
part_at-put Empty ps = refl
part_at-put (Flag b) ps = refl
part_at-put (Word w) ps = refl
part_at-put (Text t) ps = refl
part_at-put (Str us) ps = refl
part_at-put (Whole n) ps = refl
part_at-put (Child b) ps = refl
part_at-put (Several ts) ps = refl

part_at-past : (f : Field) (ps : Parts) (i : ℕ) → part_at (onto (part_of f) ps) (suc i) ≡ part_at ps i
part_at-past Empty ps i = refl
part_at-past (Flag b) ps i = refl
part_at-past (Word w) ps i = refl
part_at-past (Text t) ps i = refl
part_at-past (Str us) ps i = refl
part_at-past (Whole n) ps i = refl
part_at-past (Child b) ps i = refl
part_at-past (Several ts) ps i = refl

pub part_at-parts_of : (fs : List Field) (i : ℕ) → part_at (parts_of fs) i ≡ option_map part_of (slice_get fs i)
part_at-parts_of [] i = refl
part_at-parts_of (f ∷ fs) zero = part_at-put f (parts_of fs)
part_at-parts_of (f ∷ fs) (suc i) = part_at-past f (parts_of fs) i ∙ part_at-parts_of fs i

pub parts_len-items_of : (ts : List (Option Tree)) → parts_len (items_of ts) ≡ length ts
parts_len-items_of [] = refl
parts_len-items_of (None ∷ ts) = ap suc (parts_len-items_of ts)
parts_len-items_of (Some t ∷ ts) = ap suc (parts_len-items_of ts)

pub item_at-items_of : (ts : List (Option Tree)) (i : ℕ) → item_at (items_of ts) i ≡ slice_get ts i
item_at-items_of [] i = refl
item_at-items_of (None ∷ ts) zero = refl
item_at-items_of (Some t ∷ ts) zero = refl
item_at-items_of (None ∷ ts) (suc i) = item_at-items_of ts i
item_at-items_of (Some t ∷ ts) (suc i) = item_at-items_of ts i

pub map_of_ref : {T U : Type 0} (f : T → U) (r : Option (Bor T)) → option_map (λ x. f x.now) r ≡ option_map f (option_copied r)
map_of_ref f None = refl
map_of_ref f (Some x) = refl

part_at_falls : (ps : Parts) (i : ℕ) (p : Parts) → part_at ps i ≡ Some p → part_size p < parts_size ps
part_at_falls done i p e = absurd (cc)
part_at_falls (atom a rest) zero p e = let same : atom a done ≡ p = cc in rw (← same) (omega arith)
part_at_falls (atom a rest) (suc i) p e = omega (arith, part_at_falls rest i p e)
part_at_falls (child k s t fields rest) zero p e = let same : child k s t fields done ≡ p = cc in rw (← same) (omega arith)
part_at_falls (child k s t fields rest) (suc i) p e = omega (arith, part_at_falls rest i p e)
part_at_falls (many items rest) zero p e = let same : many items done ≡ p = cc in rw (← same) (omega arith)
part_at_falls (many items rest) (suc i) p e = omega (arith, part_at_falls rest i p e)

pub got_part_falls : (r : Option (Bor Field)) (ps : Parts) (i : ℕ) → option_map (λ f. part_of f.now) r ≡ part_at ps i → IfSome r (λ f. part_size (part_of f.now) < parts_size ps)
got_part_falls None ps i e = tt
got_part_falls (Some f) ps i e = part_at_falls ps i _ (sym e)

item_at_falls : (ps : Parts) (i : ℕ) (t : Option Tree) → item_at ps i ≡ Some t → item_size t < parts_size ps
item_at_falls done i t e = absurd (cc)
item_at_falls (atom a rest) zero t e = let same : None ≡ t = cc in rw (← same) (omega arith)
item_at_falls (atom a rest) (suc i) t e = omega (arith, item_at_falls rest i t e)
item_at_falls (child k s p fields rest) zero t e = let same : Some (record { kind = k; start = s; stop = p; fields = fields }) ≡ t = cc in rw (← same) (omega arith)
item_at_falls (child k s p fields rest) (suc i) t e = omega (arith, item_at_falls rest i t e)
item_at_falls (many items rest) zero t e = let same : None ≡ t = cc in rw (← same) (omega arith)
item_at_falls (many items rest) (suc i) t e = omega (arith, item_at_falls rest i t e)

pub got_item_falls : (r : Option (Bor (Option Tree))) (ps : Parts) (i : ℕ) → option_copied r ≡ item_at ps i → IfSome r (λ t. item_size t.now < parts_size ps)
got_item_falls None ps i e = tt
got_item_falls (Some t) ps i e = item_at_falls ps i _ (sym e)

pub are_items-items_of : (ts : List (Option Tree)) → are_items (items_of ts) ≡ true
are_items-items_of [] = refl
are_items-items_of (None ∷ ts) = are_items-items_of ts
are_items-items_of (Some t ∷ ts) = are_items-items_of ts

-- what is left from i on
pub past_next : (ps : Parts) (i : ℕ) (p : Parts) → part_at ps i ≡ Some p → past i ps ≡ onto p (past (suc i) ps)
past_next done i p e = absurd (cc)
past_next (atom a rest) zero p e = let same : atom a done ≡ p = cc in rw (← same) refl
past_next (atom a rest) (suc i) p e = past_next rest i p e
past_next (child k s t fields rest) zero p e = let same : child k s t fields done ≡ p = cc in rw (← same) refl
past_next (child k s t fields rest) (suc i) p e = past_next rest i p e
past_next (many items rest) zero p e = let same : many items done ≡ p = cc in rw (← same) refl
past_next (many items rest) (suc i) p e = past_next rest i p e

pub past_end : (ps : Parts) (i : ℕ) → part_at ps i ≡ None → past i ps ≡ done
past_end done zero e = refl
past_end done (suc i) e = refl
past_end (atom a rest) zero e = absurd (cc)
past_end (atom a rest) (suc i) e = past_end rest i e
past_end (child k s t fields rest) zero e = absurd (cc)
past_end (child k s t fields rest) (suc i) e = past_end rest i e
past_end (many items rest) zero e = absurd (cc)
past_end (many items rest) (suc i) e = past_end rest i e

pub past_hole : (ps : Parts) (i : ℕ) → are_items ps ≡ true → item_at ps i ≡ Some None → past i ps ≡ atom empty (past (suc i) ps)
past_hole done i h e = absurd (cc)
past_hole (atom empty rest) zero h e = refl
past_hole (atom empty rest) (suc i) h e = past_hole rest i h e
past_hole (atom (flag b) rest) i h e = absurd (cc)
past_hole (atom (word n) rest) i h e = absurd (cc)
past_hole (atom (text n) rest) i h e = absurd (cc)
past_hole (atom (units n) rest) i h e = absurd (cc)
past_hole (atom (whole n) rest) i h e = absurd (cc)
past_hole (child k s t fields rest) zero h e = absurd (cc)
past_hole (child k s t fields rest) (suc i) h e = past_hole rest i h e
past_hole (many items rest) i h e = absurd (cc)

pub past_node : (ps : Parts) (i : ℕ) (t : Tree) → item_at ps i ≡ Some (Some t) → past i ps ≡ before t (past (suc i) ps)
past_node done i t e = absurd (cc)
past_node (atom a rest) zero t e = absurd (cc)
past_node (atom a rest) (suc i) t e = past_node rest i t e
past_node (child k s p fields rest) zero t e = let same : record { kind = k; start = s; stop = p; fields = fields } ≡ t = cc in rw (← same) refl
past_node (child k s p fields rest) (suc i) t e = past_node rest i t e
past_node (many items rest) zero t e = absurd (cc)
past_node (many items rest) (suc i) t e = past_node rest i t e

pub past_items : (ps : Parts) (i : ℕ) → item_at ps i ≡ None → past i ps ≡ done
past_items done zero e = refl
past_items done (suc i) e = refl
past_items (atom a rest) zero e = absurd (cc)
past_items (atom a rest) (suc i) e = past_items rest i e
past_items (child k s t fields rest) zero e = absurd (cc)
past_items (child k s t fields rest) (suc i) e = past_items rest i e
past_items (many items rest) zero e = absurd (cc)
past_items (many items rest) (suc i) e = past_items rest i e

-- with a length in place of a missing part
pub past_len : (ps : Parts) (i : ℕ) → parts_len ps ≤ i → past i ps ≡ done
past_len done zero h = refl
past_len done (suc i) h = refl
past_len (atom a rest) zero h = absurd (omega arith)
past_len (atom a rest) (suc i) h = past_len rest i (omega arith)
past_len (child k s t fields rest) zero h = absurd (omega arith)
past_len (child k s t fields rest) (suc i) h = past_len rest i (omega arith)
past_len (many items rest) zero h = absurd (omega arith)
past_len (many items rest) (suc i) h = past_len rest i (omega arith)

pub past_item : (ps : Parts) (i : ℕ) (t : Option Tree) → are_items ps ≡ true → item_at ps i ≡ Some t → past i ps ≡ onto (item_of t) (past (suc i) ps)
past_item ps i None h e = past_hole ps i h e
past_item ps i (Some t) h e = past_node ps i t e
