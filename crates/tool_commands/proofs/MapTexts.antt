-- The text of a map, by those of its names and its marks.
use Rattle.std.proofs.Common.{◌≡◌, ◌≤◌, ◌+◌, ℕ, zero, suc, List, [], ◌∷◌, ◌++◌, Some, None, pos, codes, length, map, refl, slice_get, sym, take, ap, ap₂, ◌∙◌, arith, append_assoc}
use Rattle.json_text.specs.Json.{Items, item, list, string, whole}
use Rattle.json_text.specs.Layout.{compact}
use Rattle.json_text.specs.Text.{text_of}
use Rattle.json_text.specs.Units.{units_of}
use Rattle.name_map.specs.Undoing.{OldName, Undoing, old_name}
use Rattle.name_map.specs.Written.{map_value, numbers_value, old_names_value, old_name_value}
use Rattle.oxc_estree.specs.Open.{items_of, list_of, number}
use Rattle.oxc_estree.specs.Out.{plain}
use Rattle.tree_core.specs.Values.{value_of}
use Rattle.tree_nodes.specs.Tree.{Tree}
use Rattle.tool_commands.specs.Mapped.{mapped_text}
use Rattle.tool_commands.specs.declared.mapped_text.OldPair.{OldPair}

joined : (k l xs ys : List ℕ) → 123 ∷ ((k ++ (xs ++ (44 ∷ (l ++ (ys ++ []))))) ++ 125 ∷ []) ≡ 123 ∷ (k ++ (xs ++ (44 ∷ (l ++ (ys ++ 125 ∷ [])))))
joined k l xs ys = simp append_assoc

-- what the texts of names and marks make
pub map_written : (m : Undoing) (names marks : List ℕ) → names ≡ text_of compact (list (old_names_value m.names)) → marks ≡ text_of compact (list (numbers_value m.marks))
    → codes "{\"names\":" ++ (names ++ (codes ",\"marks\":" ++ (marks ++ codes "}"))) ≡ text_of compact (map_value m)
unfolding lib.Utf8.encode
map_written m names marks e f =
    ap₂ (λ (x y : List ℕ). codes "{\"names\":" ++ (x ++ (codes ",\"marks\":" ++ (y ++ codes "}")))) e f
    ∙ sym (joined (codes "\"names\":") (codes "\"marks\":") (text_of compact (list (old_names_value m.names))) (text_of compact (list (numbers_value m.marks))))

pub mapped_written : (u : Tree) (m : Undoing) (node names marks : List ℕ) → node ≡ text_of compact (value_of u)
    → names ≡ text_of compact (list (old_names_value m.names)) → marks ≡ text_of compact (list (numbers_value m.marks))
    → codes "{\"node\":\n" ++ (node ++ (codes "\n,\"map\":{\"names\":" ++ (names ++ (codes ",\"marks\":" ++ (marks ++ codes "}}"))))) ≡ mapped_text u m
mapped_written u m node names marks d e f =
    rw d (ap (λ (map : List ℕ). codes "{\"node\":\n" ++ (text_of compact (value_of u) ++ (codes "\n,\"map\":" ++ map)))
    (rejoined names marks ∙ ap (λ (x : List ℕ). x ++ codes "}") (map_written m names marks e f)))
  where
    rejoined : (xs ys : List ℕ) → codes "{\"names\":" ++ (xs ++ (codes ",\"marks\":" ++ (ys ++ codes "}}"))) ≡ (codes "{\"names\":" ++ (xs ++ (codes ",\"marks\":" ++ (ys ++ codes "}")))) ++ codes "}"
    rejoined xs ys = simp append_assoc

-- ---- lists, as values

pub numbers_listed : (ns : List ℕ) → items_of (map number ns) ≡ numbers_value ns
numbers_listed [] = refl
numbers_listed (n ∷ ns) = ap (item (whole (pos n))) (numbers_listed ns)

abbrev pub pairs_items : List OldPair → Items
pairs_items ps = items_of (map (λ (p : OldPair). list_of (number p.place ∷ plain (string (units_of p.name.now)) ∷ [])) ps)

pub pairs_listed : (ps : List OldPair) → pairs_items ps
    ≡ old_names_value (map (λ (p : OldPair). old_name p.place p.name.now) ps)
pairs_listed [] = refl
pairs_listed (p ∷ ps) = ap (item (old_name_value (old_name p.place p.name.now))) (pairs_listed ps)

-- ---- the pairs of a list of names

one_more : (i : ℕ) → suc i ≡ i + 1
one_more i = omega arith

map_push : {X Y : Type 0} (f : X → Y) (xs : List X) (x : X) → map f (xs ++ x ∷ []) ≡ map f xs ++ f x ∷ []
map_push f [] x = refl
map_push f (y ∷ ys) x = ap (λ zs. f y ∷ zs) (map_push f ys x)

taken_more : (os : List OldName) (i : ℕ) (o : OldName) → Some o ≡ slice_get os i → take (suc i) os ≡ take i os ++ o ∷ []
taken_more [] i o e = absurd (cc)
taken_more (p ∷ os) zero o e = let same : o ≡ p = cc in ap (λ (q : OldName). q ∷ []) (sym same)
taken_more (p ∷ os) (suc i) o e = ap (λ zs. p ∷ zs) (taken_more os i o e)

pub pair_put : (os : List OldName) (ps qs : List OldPair) (p : OldPair) (i : ℕ) → map (λ (q : OldPair). old_name q.place q.name.now) ps ≡ take i os
    → Some (old_name p.place p.name.now) ≡ slice_get os i → qs ≡ ps ++ p ∷ [] → map (λ (q : OldPair). old_name q.place q.name.now) qs ≡ take (i + 1) os
pair_put os ps qs p i so_far e put =
    ap (map (λ (q : OldPair). old_name q.place q.name.now)) put
    ∙ map_push (λ (q : OldPair). old_name q.place q.name.now) ps p
    ∙ ap (λ (zs : List OldName). zs ++ old_name p.place p.name.now ∷ []) so_far
    ∙ sym (taken_more os i (old_name p.place p.name.now) e)
    ∙ ap (λ j. take j os) (one_more i)

pub none_past : (os : List OldName) (i : ℕ) → None ≡ slice_get os i → length os ≤ i
none_past [] i e = omega arith
none_past (p ∷ os) zero e = absurd (cc)
none_past (p ∷ os) (suc i) e = let l = none_past os i e in omega (arith, l)
