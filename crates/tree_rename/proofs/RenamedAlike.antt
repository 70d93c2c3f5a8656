-- A renamed run differs in names and shorthand marks alone.
use Rattle.std.proofs.Common.{◌≡◌, ℕ, Bool, true, false, List, Option, bytes_eq, drop, if◌then◌else◌, refl, ap, ap₂, ◌∙◌}
use Rattle.tree_nodes.specs.Standing.{own_name}
use Rattle.tree_nodes.specs.Tree.{Parts, Text, atom, child, done, flag, many, part, text}
use Rattle.tree_nodes.specs.declared.kind.Kind.{Kind}
use Rattle.tree_nodes.specs.declared.kind.Kind.TheVariants.{Identifier, PrivateIdentifier, Property}
use Rattle.tree_places.specs.Places.{hide, unmarked, unnamed}
use Rattle.tree_places.specs.Renaming.{blind}
use Rattle.tree_rename.specs.Formed.{AreFormed, HasPair, HasText, IsFormed}
use Rattle.tree_rename.specs.Renamed.{after, count, finished, inner, named, off_at, renamed, settled}

-- the fields of a node keep their form
pub renamed_text : (given : List Text) (cs : List (Option ℕ)) (fields : Parts) → HasText fields → HasText (renamed given cs fields)
unfolding renamed
renamed_text given cs (atom (text x) done) h = tt
renamed_text given cs _ h = absurd h

pub renamed_pair : (given : List Text) (cs : List (Option ℕ)) (fields : Parts) → HasPair fields → HasPair (renamed given cs fields)
unfolding renamed
renamed_pair given cs (atom kind (child k s e key (child k' s' e' value (atom method (atom (flag mark) (atom computed done)))))) h = tt
renamed_pair given cs _ h = absurd h

pub renamed_formed : (given : List Text) (cs : List (Option ℕ)) (k : Kind) (fields : Parts) → IsFormed k fields
    → IsFormed k (renamed given cs fields)
renamed_formed given cs Identifier fields h = renamed_text given cs fields h
renamed_formed given cs PrivateIdentifier fields h = renamed_text given cs fields h
renamed_formed given cs Property fields h = renamed_pair given cs fields h
renamed_formed given cs _ fields h = tt

named_blind : (name : Option Text) (fields : Parts) → unnamed (blind (named name fields)) ≡ unnamed (blind fields)
unfolding blind named unnamed
named_blind name (atom (text x) more) = refl
named_blind name _ = refl

off_blind : (fields : Parts) → HasPair fields → unmarked (blind (off_at 4 fields)) ≡ unmarked (blind fields)
unfolding blind off_at unmarked
off_blind (atom kind (child k s e key (child k' s' e' value (atom method (atom (flag mark) (atom computed done)))))) h = refl
off_blind _ h = absurd h

settled_blind : (fields : Parts) → HasPair fields → unmarked (blind (settled fields)) ≡ unmarked (blind fields)
unfolding settled
settled_blind fields h = by_test (bytes_eq (own_name (part fields 1)) (own_name (part fields 2)))
  where
    by_test : (b : Bool) → unmarked (blind (if b then fields else off_at 4 fields)) ≡ unmarked (blind fields)
    by_test true = refl
    by_test false = off_blind fields h

finished_blind : (k : Kind) (given : List Text) (cs : List (Option ℕ)) (fields : Parts) → IsFormed k fields
    → hide k (blind (finished k given cs fields)) ≡ hide k (blind fields)
unfolding finished hide
finished_blind Identifier given cs fields h = named_blind _ fields
finished_blind PrivateIdentifier given cs fields h = named_blind _ fields
finished_blind Property given cs fields h = settled_blind fields h
finished_blind _ given cs fields h = refl

pub renamed_alike : (given : List Text) (cs : List (Option ℕ)) (p : Parts) → AreFormed p → blind (renamed given cs p) ≡ blind p
unfolding blind renamed
renamed_alike given cs done h = refl
renamed_alike given cs (atom a more) h = ap (atom a) (renamed_alike given cs more h)
renamed_alike given cs (many items more) h =
    ap₂ many (renamed_alike given cs items h.0) (renamed_alike given (drop (count items) cs) more h.1)
renamed_alike given cs (child k s e fields more) h =
    let below = renamed given (inner k cs) fields in
    ap₂ (child k s e)
    (finished_blind k given cs below (renamed_formed given (inner k cs) k fields h.0) ∙ ap (hide k) (renamed_alike given (inner k cs) fields h.1))
    (renamed_alike given (after k fields cs) more h.2)
