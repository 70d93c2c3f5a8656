-- What giving a name and taking a mark off leave as it is: what lies below.
use Rattle.std.proofs.Common.{◌≡◌, ℕ, zero, suc, Bool, true, false, List, Option, ◌∷◌, ◌++◌, bytes_eq, if◌then◌else◌, refl, ap}
use Rattle.tree_nodes.specs.Standing.{own_name}
use Rattle.tree_nodes.specs.Tree.{Parts, Text, atom, child, done, flag, flag_of, many, part, text, text_of}
use Rattle.tree_nodes.specs.Table.{row}
use Rattle.tree_nodes.specs.declared.kind.Kind.{Kind}
use Rattle.tree_nodes.specs.declared.kind.Kind.TheVariants.{Identifier, PrivateIdentifier, Property}
use Rattle.tree_places.specs.Places.{is_place, names}
use Rattle.tree_places.specs.Renaming.{agreements, is_property, marks}
use Rattle.tree_rename.specs.Renamed.{finished, named, off_at, settled}

module _ {A : Type 0} (read : Parts → A) (off : (i : ℕ) (p : Parts) → read (off_at i p) ≡ read p) (give : (name : Option Text) (p : Parts) → read (named name p) ≡ read p) where
  settled_same : (fields : Parts) → read (settled fields) ≡ read fields
  unfolding settled
  settled_same fields = by_test (bytes_eq (own_name (part fields 1)) (own_name (part fields 2)))
    where
      by_test : (b : Bool) → read (if b then fields else off_at 4 fields) ≡ read fields
      by_test true = refl
      by_test false = off 4 fields

  pub finished_same : (k : Kind) (given : List Text) (cs : List (Option ℕ)) (fields : Parts) → read (finished k given cs fields) ≡ read fields
  unfolding finished
  finished_same Identifier given cs fields = give _ fields
  finished_same PrivateIdentifier given cs fields = give _ fields
  finished_same Property given cs fields = settled_same fields
  finished_same _ given cs fields = refl

names_off : (i : ℕ) (p : Parts) → names (off_at i p) ≡ names p
unfolding names off_at
names_off i done = refl
names_off zero (atom (flag b) more) = refl
names_off zero (atom a more) = refl
names_off (suc i) (atom a more) = names_off i more
names_off zero (many items more) = refl
names_off (suc i) (many items more) = ap (λ x. names items ++ x) (names_off i more)
names_off zero (child k s e fields more) = refl
names_off (suc i) (child k s e fields more) = ap (λ x. (if is_place (row k).opens then text_of fields ∷ names fields else names fields) ++ x) (names_off i more)

names_named : (name : Option Text) (p : Parts) → names (named name p) ≡ names p
unfolding names named
names_named name (atom (text x) more) = refl
names_named name _ = refl

pub names_same : (k : Kind) (given : List Text) (cs : List (Option ℕ)) (fields : Parts) → names (finished k given cs fields) ≡ names fields
names_same k given cs fields = finished_same names names_off names_named k given cs fields

marks_off : (i : ℕ) (p : Parts) → marks (off_at i p) ≡ marks p
unfolding marks off_at
marks_off i done = refl
marks_off zero (atom (flag b) more) = refl
marks_off zero (atom a more) = refl
marks_off (suc i) (atom a more) = marks_off i more
marks_off zero (many items more) = refl
marks_off (suc i) (many items more) = ap (λ x. marks items ++ x) (marks_off i more)
marks_off zero (child k s e fields more) = refl
marks_off (suc i) (child k s e fields more) = ap (λ x. (if is_property k then flag_of (part fields 4) ∷ marks fields else marks fields) ++ x) (marks_off i more)

marks_named : (name : Option Text) (p : Parts) → marks (named name p) ≡ marks p
unfolding marks named
marks_named name (atom (text x) more) = refl
marks_named name _ = refl

pub marks_same : (k : Kind) (given : List Text) (cs : List (Option ℕ)) (fields : Parts) → marks (finished k given cs fields) ≡ marks fields
marks_same k given cs fields = finished_same marks marks_off marks_named k given cs fields

agreements_off : (i : ℕ) (p : Parts) → agreements (off_at i p) ≡ agreements p
unfolding agreements off_at
agreements_off i done = refl
agreements_off zero (atom (flag b) more) = refl
agreements_off zero (atom a more) = refl
agreements_off (suc i) (atom a more) = agreements_off i more
agreements_off zero (many items more) = refl
agreements_off (suc i) (many items more) = ap (λ x. agreements items ++ x) (agreements_off i more)
agreements_off zero (child k s e fields more) = refl
agreements_off (suc i) (child k s e fields more) =
    ap (λ x. (if is_property k then bytes_eq (own_name (part fields 1)) (own_name (part fields 2)) ∷ agreements fields else agreements fields) ++ x) (agreements_off i more)

agreements_named : (name : Option Text) (p : Parts) → agreements (named name p) ≡ agreements p
unfolding agreements named
agreements_named name (atom (text x) more) = refl
agreements_named name _ = refl

pub agreements_same : (k : Kind) (given : List Text) (cs : List (Option ℕ)) (fields : Parts) → agreements (finished k given cs fields) ≡ agreements fields
agreements_same k given cs fields = finished_same agreements agreements_off agreements_named k given cs fields
