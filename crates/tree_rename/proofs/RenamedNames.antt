-- The names of a renamed run are those chosen.
use Rattle.std.proofs.Common.{◌≡◌, ℕ, suc, ◌+◌, Bool, true, false, List, [], ◌∷◌, ◌++◌, length, Option, drop, if◌then◌else◌, refl, sym, ap, ap₂, ◌∙◌, arith}
use Rattle.std.proofs.lemmas.List.{drop-drop, length-append}
use Rattle.tree_nodes.specs.Table.{row}
use Rattle.tree_nodes.specs.Tree.{Parts, Text, atom, child, done, many, text, text_of}
use Rattle.tree_nodes.specs.declared.kind.Kind.{Kind}
use Rattle.tree_nodes.specs.declared.kind.Kind.TheVariants.{Identifier, PrivateIdentifier}
use Rattle.tree_places.specs.Places.{is_place, names}
use Rattle.tree_places.specs.Chosen.{chosen, given_name, or_own}
use Rattle.tree_rename.specs.Formed.{AreFormed, HasText, IsFormed}
use Rattle.tree_rename.specs.Renamed.{after, count, finished, has_name, inner, named, renamed}
use Rattle.tree_rename.proofs.OwnFirst.{length_own, one_more, with_own}
use Rattle.tree_rename.proofs.RenamedJoined.{inner_drop}
use Rattle.tree_rename.proofs.FinishedKeepsBelow.{names_same}

pub place_kind : (k : Kind) → is_place (row k).opens ≡ has_name k
unfolding has_name is_place
place_kind Identifier = refl
place_kind PrivateIdentifier = refl
place_kind _ = refl

-- ---- as many names as places

count_own : (k : Kind) (fields : Parts) → count fields ≡ length (names fields)
    → one_more (has_name k) (count fields) ≡ length (with_own text_of names (has_name k) fields)
count_own k fields e = sym (length_own text_of names (has_name k) fields (count fields) (sym e))

pub count_names : (p : Parts) → count p ≡ length (names p)
unfolding count names
count_names done = refl
count_names (atom a more) = count_names more
count_names (many items more) = ap₂ (λ x y. x + y) (count_names items) (count_names more) ∙ sym (length-append (names items) (names more))
count_names (child k s e fields more) =
    ap₂ (λ x y. x + y) (count_own k fields (count_names fields)) (count_names more)
    ∙ sym (length-append (with_own text_of names (has_name k) fields) (names more))
    ∙ ap (λ b. length (with_own text_of names b fields ++ names more)) (sym (place_kind k))

-- ---- choices along two lists

drop_next : (n : ℕ) (cs : List (Option ℕ)) → drop n (drop 1 cs) ≡ drop (suc n) cs
drop_next n cs = drop-drop n 1 cs ∙ (let same : 1 + n ≡ suc n = omega arith in ap (λ m. drop m cs) same)

pub chosen_append : (given : List Text) (cs : List (Option ℕ)) (xs ys : List Text)
    → chosen given cs (xs ++ ys) ≡ chosen given cs xs ++ chosen given (drop (length xs) cs) ys
unfolding chosen
chosen_append given cs [] ys = refl
chosen_append given cs (x ∷ xs) ys =
    ap (λ zs. or_own (given_name given cs) x ∷ zs) (chosen_append given (drop 1 cs) xs ys
    ∙ ap (λ ds. chosen given (drop 1 cs) xs ++ chosen given ds ys) (drop_next (length xs) cs))

-- ---- the names of a renamed run

text_named : (name : Option Text) (fields : Parts) → HasText fields → text_of (named name fields) ≡ or_own name (text_of fields)
unfolding named
text_named name (atom (text x) done) h = refl
text_named name _ h = absurd h

text_renamed : (given : List Text) (cs : List (Option ℕ)) (fields : Parts) → HasText fields
    → (text_of (renamed given cs fields) ≡ text_of fields) × HasText (renamed given cs fields)
unfolding renamed
text_renamed given cs (atom (text x) done) h = (refl, tt)
text_renamed given cs _ h = absurd h

-- the name of a place
place_named : (given : List Text) (cs : List (Option ℕ)) (fields : Parts) → HasText fields
    → text_of (named (given_name given cs) (renamed given (drop 1 cs) fields)) ≡ or_own (given_name given cs) (text_of fields)
place_named given cs fields h =
    let below = text_renamed given (drop 1 cs) fields h in
    text_named (given_name given cs) (renamed given (drop 1 cs) fields) below.1 ∙ ap (or_own (given_name given cs)) below.0

text_finished : (given : List Text) (cs : List (Option ℕ)) (k : Kind) (fields : Parts) → IsFormed k fields → has_name k ≡ true
    → text_of (finished k given cs (renamed given (drop 1 cs) fields)) ≡ or_own (given_name given cs) (text_of fields)
unfolding finished has_name
text_finished given cs Identifier fields h e = place_named given cs fields h
text_finished given cs PrivateIdentifier fields h e = place_named given cs fields h
text_finished given cs _ fields h e = absurd (cc)

-- the names in a node, once those below are the chosen ones
own_chosen : (given : List Text) (cs : List (Option ℕ)) (k : Kind) (fields : Parts) → IsFormed k fields
    → names (renamed given (inner k cs) fields) ≡ chosen given (inner k cs) (names fields)
    → with_own text_of names (has_name k) (finished k given cs (renamed given (inner k cs) fields)) ≡ chosen given cs (with_own text_of names (has_name k) fields)
unfolding chosen inner
own_chosen given cs k fields h e = by_test (has_name k) refl e
  where
    by_test : (b : Bool) → has_name k ≡ b
        → names (renamed given (if b then drop 1 cs else cs) fields) ≡ chosen given (if b then drop 1 cs else cs) (names fields)
        → with_own text_of names b (finished k given cs (renamed given (if b then drop 1 cs else cs) fields)) ≡ chosen given cs (with_own text_of names b fields)
    by_test true f i = ap₂ (λ x xs. x ∷ xs) (text_finished given cs k fields h f) (names_same k given cs _ ∙ i)
    by_test false f i = names_same k given cs _ ∙ i

after_own : (k : Kind) (fields : Parts) (cs : List (Option ℕ)) → after k fields cs ≡ drop (length (with_own text_of names (has_name k) fields)) cs
unfolding after
after_own k fields cs = inner_drop k (count fields) cs ∙ ap (λ n. drop n cs) (count_own k fields (count_names fields))

pub renamed_names : (given : List Text) (cs : List (Option ℕ)) (p : Parts) → AreFormed p
    → names (renamed given cs p) ≡ chosen given cs (names p)
unfolding chosen names renamed
renamed_names given cs done h = refl
renamed_names given cs (atom a more) h = renamed_names given cs more h
renamed_names given cs (many items more) h =
    ap₂ (λ x y. x ++ y) (renamed_names given cs items h.0)
    (renamed_names given (drop (count items) cs) more h.1 ∙ ap (λ n. chosen given (drop n cs) (names more)) (count_names items))
    ∙ sym (chosen_append given cs (names items) (names more))
renamed_names given cs (child k s e fields more) h =
    let own = finished k given cs (renamed given (inner k cs) fields) in
    let rest = renamed given (after k fields cs) more in
    ap (λ b. with_own text_of names b own ++ names rest) (place_kind k)
    ∙ ap₂ (λ x y. x ++ y) (own_chosen given cs k fields h.0 (renamed_names given (inner k cs) fields h.1))
    (renamed_names given (after k fields cs) more h.2 ∙ ap (λ ds. chosen given ds (names more)) (after_own k fields cs))
    ∙ sym (chosen_append given cs (with_own text_of names (has_name k) fields) (names more))
    ∙ ap (λ b. chosen given cs (with_own text_of names b fields ++ names more)) (sym (place_kind k))
