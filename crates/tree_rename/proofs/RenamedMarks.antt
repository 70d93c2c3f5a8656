-- A shorthand mark is on in a renamed run where it was on and the names of key and value agree.
use Rattle.std.proofs.Common.{◌≡◌, ℕ, Bool, true, false, ◌&&◌, List, [], ◌∷◌, ◌++◌, length, Option, bytes_eq, drop, if◌then◌else◌, refl, sym, ap, ap₂, ◌∙◌, ◌+◌}
use Rattle.std.proofs.lemmas.List.{length-append}
use Rattle.tree_nodes.specs.Standing.{own_name}
use Rattle.tree_nodes.specs.Tree.{Parts, Text, atom, child, done, flag, flag_of, many, part}
use Rattle.tree_nodes.specs.declared.kind.Kind.{Kind}
use Rattle.tree_nodes.specs.declared.kind.Kind.TheVariants.{Property}
use Rattle.tree_places.specs.Renaming.{agreements, both, is_property, marks}
use Rattle.tree_rename.specs.Formed.{AreFormed, HasPair, IsFormed}
use Rattle.tree_rename.specs.Renamed.{after, count, finished, inner, off_at, renamed, settled}
use Rattle.tree_rename.proofs.RenamedAlike.{renamed_pair}
use Rattle.tree_rename.proofs.OwnFirst.{length_own, with_own}
use Rattle.tree_rename.proofs.FinishedKeepsBelow.{agreements_same, marks_same}

-- the shorthand mark of a Property with these fields, and whether the names of its key and value agree
abbrev pub mark_of : Parts → Bool
mark_of fields = flag_of (part fields 4)

abbrev pub agrees : Parts → Bool
agrees fields = bytes_eq (own_name (part fields 1)) (own_name (part fields 2))

-- ---- as many marks as agreements

length_own_both : (b : Bool) (old new : Parts) → length (marks old) ≡ length (agreements new)
    → length (with_own mark_of marks b old) ≡ length (with_own agrees agreements b new)
length_own_both b old new e = length_own mark_of marks b old (length (agreements new)) e ∙ sym (length_own agrees agreements b new _ refl)

same_length : (given : List Text) (cs : List (Option ℕ)) (p : Parts) → length (marks p) ≡ length (agreements (renamed given cs p))
unfolding marks agreements renamed
same_length given cs done = refl
same_length given cs (atom a more) = same_length given cs more
same_length given cs (many items more) =
    length-append (marks items) (marks more)
    ∙ ap₂ (λ x y. x + y) (same_length given cs items) (same_length given (drop (count items) cs) more)
    ∙ sym (length-append (agreements (renamed given cs items)) (agreements (renamed given (drop (count items) cs) more)))
same_length given cs (child k s e fields more) =
    let below = renamed given (inner k cs) fields in
    let own = finished k given cs below in
    let rest = renamed given (after k fields cs) more in
    length-append (with_own mark_of marks (is_property k) fields) (marks more)
    ∙ ap₂ (λ x y. x + y)
    (length_own_both (is_property k) fields own (same_length given (inner k cs) fields ∙ ap length (sym (agreements_same k given cs below))))
    (same_length given (after k fields cs) more)
    ∙ sym (length-append (with_own agrees agreements (is_property k) own) (agreements rest))

pub both_append : (a b c d : List Bool) → length a ≡ length c → both (a ++ b) (c ++ d) ≡ both a c ++ both b d
unfolding both
both_append [] b [] d e = refl
both_append [] b (y ∷ c) d e = absurd (cc)
both_append (x ∷ a) b [] d e = absurd (cc)
both_append (x ∷ a) b (y ∷ c) d e = ap (λ zs. (x && y) ∷ zs) (both_append a b c d (cc))

-- ---- a Property

flag_off : (b : Bool) → false ≡ (b && false)
flag_off true = refl
flag_off false = refl

flag_on : (b : Bool) → b ≡ (b && true)
flag_on true = refl
flag_on false = refl

off_agrees : (fields : Parts) → HasPair fields → (flag_of (part (off_at 4 fields) 4) ≡ false) × (agrees (off_at 4 fields) ≡ agrees fields)
unfolding off_at
off_agrees (atom kind (child k s e key (child k' s' e' value (atom method (atom (flag mark) (atom computed done)))))) h = (refl, refl)
off_agrees _ h = absurd h

-- the mark that is settled
settled_mark : (fields : Parts) → HasPair fields → flag_of (part (settled fields) 4) ≡ (flag_of (part fields 4) && agrees (settled fields))
unfolding settled
settled_mark fields h = by_test (agrees fields) refl
  where
    by_test : (b : Bool) → agrees fields ≡ b
        → flag_of (part (if b then fields else off_at 4 fields) 4) ≡ (flag_of (part fields 4) && agrees (if b then fields else off_at 4 fields))
    by_test true e = flag_on (flag_of (part fields 4)) ∙ ap (λ c. flag_of (part fields 4) && c) (sym e)
    by_test false e =
        (off_agrees fields h).0 ∙ flag_off (flag_of (part fields 4))
        ∙ ap (λ c. flag_of (part fields 4) && c) (sym ((off_agrees fields h).1 ∙ e))

flag_renamed : (given : List Text) (cs : List (Option ℕ)) (fields : Parts) → HasPair fields
    → flag_of (part (renamed given cs fields) 4) ≡ flag_of (part fields 4)
unfolding renamed
flag_renamed given cs (atom kind (child k s e key (child k' s' e' value (atom method (atom (flag mark) (atom computed done)))))) h = refl
flag_renamed given cs _ h = absurd h

-- ---- a node

below_both : (k : Kind) (given : List Text) (cs : List (Option ℕ)) (fields below : Parts)
    → marks below ≡ both (marks fields) (agreements below)
    → marks (finished k given cs below) ≡ both (marks fields) (agreements (finished k given cs below))
below_both k given cs fields below e =
    marks_same k given cs below ∙ e ∙ ap (both (marks fields)) (sym (agreements_same k given cs below))

-- the fields of a node, by whether it is a Property
own_both : (k : Kind) (given : List Text) (cs ds : List (Option ℕ)) (fields : Parts) → IsFormed k fields
    → marks (renamed given ds fields) ≡ both (marks fields) (agreements (renamed given ds fields))
    → with_own mark_of marks (is_property k) (finished k given cs (renamed given ds fields))
    ≡ both (with_own mark_of marks (is_property k) fields) (with_own agrees agreements (is_property k) (finished k given cs (renamed given ds fields)))
unfolding both finished is_property
own_both Property given cs ds fields h e =
    let below = renamed given ds fields in
    ap₂ (λ x xs. x ∷ xs)
    (settled_mark below (renamed_pair given ds fields h) ∙ ap (λ b. b && agrees (settled below)) (flag_renamed given ds fields h))
    (below_both Property given cs fields below e)
own_both k given cs ds fields h e = below_both k given cs fields (renamed given ds fields) e

pub renamed_marks : (given : List Text) (cs : List (Option ℕ)) (p : Parts) → AreFormed p
    → marks (renamed given cs p) ≡ both (marks p) (agreements (renamed given cs p))
unfolding marks agreements both renamed
renamed_marks given cs done h = refl
renamed_marks given cs (atom a more) h = renamed_marks given cs more h
renamed_marks given cs (many items more) h =
    ap₂ (λ x y. x ++ y) (renamed_marks given cs items h.0) (renamed_marks given (drop (count items) cs) more h.1)
    ∙ sym (both_append (marks items) (marks more) (agreements (renamed given cs items)) (agreements (renamed given (drop (count items) cs) more)) (same_length given cs items))
renamed_marks given cs (child k s e fields more) h =
    let below = renamed given (inner k cs) fields in
    let own = finished k given cs below in
    let rest = renamed given (after k fields cs) more in
    ap₂ (λ x y. x ++ y) (own_both k given cs (inner k cs) fields h.0 (renamed_marks given (inner k cs) fields h.1)) (renamed_marks given (after k fields cs) more h.2)
    ∙ sym (both_append (with_own mark_of marks (is_property k) fields) (marks more) (with_own agrees agreements (is_property k) own) (agreements rest)
    (length_own_both (is_property k) fields own (same_length given (inner k cs) fields ∙ ap length (sym (agreements_same k given cs below)))))
