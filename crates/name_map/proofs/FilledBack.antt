-- A run with its own names and marks is itself; so a run that looks like another is the other, with the other's.
use Rattle.std.proofs.Common.{◌≡◌, ℕ, zero, suc, ◌+◌, Bool, true, false, List, [], ◌∷◌, ◌++◌, length, drop, if◌then◌else◌, refl, sym, ap, ap₂, ◌∙◌}
use Rattle.std.proofs.lemmas.List.{append_assoc, append-nil, drop_at, length-append}
use Rattle.name_map.proofs.FilledAlike.{filled_blind}
use Rattle.name_map.specs.Filled.{Given, after, called, filled, first_mark, first_name, flag_put, given, inside, own_filled, properties}
use Rattle.tree_nodes.specs.Table.{row}
use Rattle.tree_nodes.specs.Tree.{Parts, Text, atom, child, done, flag, flag_of, many, part, text, text_of}
use Rattle.tree_nodes.specs.declared.kind.Kind.{Kind}
use Rattle.tree_nodes.specs.declared.kind.Kind.TheVariants.{Identifier, PrivateIdentifier, Property}
use Rattle.tree_places.specs.Places.{is_place, names}
use Rattle.tree_places.specs.Renaming.{blind, is_property, marks}
use Rattle.tree_rename.proofs.OwnFirst.{length_own, with_own}
use Rattle.tree_rename.proofs.RenamedMarks.{mark_of}
use Rattle.tree_rename.proofs.RenamedNames.{count_names, place_kind}
use Rattle.tree_rename.specs.Renamed.{count, has_name}

-- ---- as many marks as Properties

pub length_marks : (x : Parts) → length (marks x) ≡ properties x
unfolding properties marks
length_marks done = refl
length_marks (atom a more) = length_marks more
length_marks (many items more) = length-append (marks items) (marks more) ∙ ap₂ (λ a b. a + b) (length_marks items) (length_marks more)
length_marks (child k s e fields more) =
    length-append (with_own mark_of marks (is_property k) fields) (marks more)
    ∙ ap₂ (λ a b. a + b) (length_own mark_of marks (is_property k) fields (properties fields) (length_marks fields)) (length_marks more)

-- ---- its own names and marks

abbrev own : Parts → List Text → List Bool → Given
own p xs bs = given (names p ++ xs) (marks p ++ bs)

after_own : (p : Parts) (xs : List Text) (bs : List Bool) → after p (own p xs bs) ≡ given xs bs
after_own p xs bs =
    ap₂ given
    (drop_at (names p) xs (count p) (sym (count_names p)))
    (drop_at (marks p) bs (properties p) (length_marks p))

dropped : {A : Type 0} (b : Bool) (first : Parts → A) (below : Parts → List A) (fields : Parts) (xs : List A)
    → (if b then drop 1 (with_own first below b fields ++ xs) else with_own first below b fields ++ xs) ≡ below fields ++ xs
dropped true first below fields xs = refl
dropped false first below fields xs = refl

inside_own : (k : Kind) (fields : Parts) (xs : List Text) (bs : List Bool)
    → inside k (given (with_own text_of names (has_name k) fields ++ xs) (with_own mark_of marks (is_property k) fields ++ bs)) ≡ own fields xs bs
inside_own k fields xs bs = ap₂ given (dropped (has_name k) text_of names fields xs) (dropped (is_property k) mark_of marks fields bs)

called_own : (p : Parts) → called (text_of p) p ≡ p
unfolding called
called_own (atom (text x) more) = refl
called_own _ = refl

put_own : (i : ℕ) (p : Parts) → flag_put i (flag_of (part p i)) p ≡ p
unfolding flag_put
put_own i done = refl
put_own zero (atom (flag b) more) = refl
put_own zero (atom _ more) = refl
put_own (suc i) (atom a more) = ap (atom a) (put_own i more)
put_own zero (many items more) = refl
put_own (suc i) (many items more) = ap (many items) (put_own i more)
put_own zero (child k s e fields more) = refl
put_own (suc i) (child k s e fields more) = ap (child k s e fields) (put_own i more)

own_back : (k : Kind) (fields : Parts) (xs : List Text) (bs : List Bool)
    → own_filled k (given (with_own text_of names (has_name k) fields ++ xs) (with_own mark_of marks (is_property k) fields ++ bs)) fields ≡ fields
unfolding has_name is_property own_filled
own_back Identifier fields xs bs = called_own fields
own_back PrivateIdentifier fields xs bs = called_own fields
own_back Property fields xs bs = put_own 4 fields
own_back _ fields xs bs = refl

-- the names and marks of a node, and what follows them
node_given : (k : Kind) (s e : ℕ) (fields more : Parts) (xs : List Text) (bs : List Bool)
    → own (child k s e fields more) xs bs
    ≡ given (with_own text_of names (has_name k) fields ++ (names more ++ xs)) (with_own mark_of marks (is_property k) fields ++ (marks more ++ bs))
unfolding marks names
node_given k s e fields more xs bs =
    ap₂ given
    (ap (λ b. (with_own text_of names b fields ++ names more) ++ xs) (place_kind k) ∙ append_assoc (with_own text_of names (has_name k) fields) (names more) xs)
    (append_assoc (with_own mark_of marks (is_property k) fields) (marks more) bs)

list_given : (items more : Parts) (xs : List Text) (bs : List Bool)
    → own (many items more) xs bs ≡ own items (names more ++ xs) (marks more ++ bs)
unfolding marks names
list_given items more xs bs = ap₂ given (append_assoc (names items) (names more) xs) (append_assoc (marks items) (marks more) bs)

back : (p : Parts) (xs : List Text) (bs : List Bool) → filled (own p xs bs) p ≡ p
unfolding filled marks names
back done xs bs = refl
back (atom a more) xs bs = ap (atom a) (back more xs bs)
back (many items more) xs bs =
    ap (λ g. filled g (many items more)) (list_given items more xs bs)
    ∙ ap₂ many (back items (names more ++ xs) (marks more ++ bs))
    (ap (λ g. filled g more) (after_own items (names more ++ xs) (marks more ++ bs)) ∙ back more xs bs)
back (child k s e fields more) xs bs =
    let g = given (with_own text_of names (has_name k) fields ++ (names more ++ xs)) (with_own mark_of marks (is_property k) fields ++ (marks more ++ bs)) in
    let below = inside_own k fields (names more ++ xs) (marks more ++ bs) in
    ap (λ h. filled h (child k s e fields more)) (node_given k s e fields more xs bs)
    ∙ ap₂ (child k s e)
    (ap (own_filled k g) (ap (λ h. filled h fields) below ∙ back fields (names more ++ xs) (marks more ++ bs)) ∙ own_back k fields (names more ++ xs) (marks more ++ bs))
    (ap (λ h. filled (after fields h) more) below ∙ ap (λ h. filled h more) (after_own fields (names more ++ xs) (marks more ++ bs)) ∙ back more xs bs)

-- the fact: a run with its own names and marks is itself
pub filled_own : (p : Parts) → filled (given (names p) (marks p)) p ≡ p
filled_own p = ap₂ (λ xs bs. filled (given xs bs) p) (sym (append-nil (names p))) (sym (append-nil (marks p))) ∙ back p [] []

-- and one that looks like another is the other, with its names and marks
pub filled_back : (u t : Parts) → blind u ≡ blind t → filled (given (names t) (marks t)) u ≡ t
filled_back u t e =
    let g = given (names t) (marks t) in
    sym (filled_blind g u) ∙ ap (filled g) e ∙ filled_blind g t ∙ filled_own t
