-- How the logic stores a tree: each code gives its value back.
use Rattle.std.specs.Prelude.{◌≡◌, ℕ, true, false, ◌==◌, if◌then◌else◌, List, [], ◌∷◌}
use Rattle.std.proofs.Common.{refl, sym, ap, ap₂, ◌∙◌}
use Rattle.std.specs.Coded.{Coded}
use base.Stored.{Gv, gnil, gnum, gcons, num}
use Rattle.tree_nodes.specs.declared.kind.Kind.TheVariants.{Program}
use Rattle.tree_nodes.specs.Kinds.{kind_number, kind_at, kind_at-kind_number}
use Rattle.tree_nodes.specs.Tree.{Tree, alone, Atom, empty, flag, word, text, units, whole, Parts, done, atom, child, many}

abbrev pub list_code : List ℕ → Gv
list_code [] = gnil
list_code (x ∷ xs) = gcons (gnum x) (list_code xs)

abbrev pub list_from : Gv → List ℕ
list_from gnil = []
list_from (gnum n) = []
list_from (gcons x xs) = num x ∷ list_from xs

pub list_back : (t : List ℕ) → list_from (list_code t) ≡ t
list_back [] = refl
list_back (x ∷ xs) = ap (λ ys. x ∷ ys) (list_back xs)

abbrev pub atom_code : Atom → Gv
atom_code empty = gcons (gnum 0) gnil
atom_code (flag b) = gcons (gnum 1) (gnum (if b then 1 else 0))
atom_code (word w) = gcons (gnum 2) (gnum w)
atom_code (text t) = gcons (gnum 3) (list_code t)
atom_code (units t) = gcons (gnum 4) (list_code t)
atom_code (whole n) = gcons (gnum 5) (gnum n)

abbrev pub atom_from : Gv → Atom
atom_from gnil = empty
atom_from (gnum n) = empty
atom_from (gcons tag body) =
    if num tag == 0 then empty else
    (if num tag == 1 then flag (num body == 1) else
    (if num tag == 2 then word (num body) else
    (if num tag == 3 then text (list_from body) else
    (if num tag == 4 then units (list_from body) else
    whole (num body)))))

pub atom_back : (a : Atom) → atom_from (atom_code a) ≡ a
atom_back empty = refl
atom_back (flag false) = refl
atom_back (flag true) = refl
atom_back (word w) = refl
atom_back (text t) = ap text (list_back t)
atom_back (units t) = ap units (list_back t)
atom_back (whole n) = refl

-- the two numbers of a pair
abbrev pub first_of : Gv → ℕ
first_of gnil = 0
first_of (gnum n) = 0
first_of (gcons x y) = num x

abbrev pub second_of : Gv → ℕ
second_of gnil = 0
second_of (gnum n) = 0
second_of (gcons x y) = num y

-- what stands at the head tells the case: nil before an atom, a number before a list, a node's kind and span before its fields
abbrev pub parts_code : Parts → Gv
parts_code done = gnil
parts_code (atom a rest) = gcons (gcons gnil (atom_code a)) (parts_code rest)
parts_code (many items rest) = gcons (gcons (gnum 0) (parts_code items)) (parts_code rest)
parts_code (child k s e fields rest) = gcons (gcons (gcons (gnum (kind_number k)) (gcons (gnum s) (gnum e))) (parts_code fields)) (parts_code rest)

abbrev pub parts_from : Gv → Parts
parts_from gnil = done
parts_from (gnum n) = done
parts_from (gcons gnil rest) = done
parts_from (gcons (gnum n) rest) = done
parts_from (gcons (gcons gnil a) rest) = atom (atom_from a) (parts_from rest)
parts_from (gcons (gcons (gnum n) items) rest) = many (parts_from items) (parts_from rest)
parts_from (gcons (gcons (gcons k span) fields) rest) = child (kind_at (num k)) (first_of span) (second_of span) (parts_from fields) (parts_from rest)

pub parts_back : (ps : Parts) → parts_from (parts_code ps) ≡ ps
parts_back done = refl
parts_back (atom a rest) = ap₂ atom (atom_back a) (parts_back rest)
parts_back (many items rest) = ap₂ many (parts_back items) (parts_back rest)
parts_back (child k s e fields rest) =
    ap (λ x. child x s e (parts_from (parts_code fields)) (parts_from (parts_code rest))) (kind_at-kind_number k)
    ∙ ap₂ (λ x y. child k s e x y) (parts_back fields) (parts_back rest)

abbrev pub coded_parts : Coded Parts
coded_parts = record { code = parts_code; inj = λ x y p. sym (parts_back x) ∙ ap parts_from p ∙ parts_back y }

-- a tree is stored as the run of it alone
abbrev first_tree : Parts → Tree
first_tree done = record { kind = Program; start = 0; stop = 0; fields = done }
first_tree (atom a rest) = record { kind = Program; start = 0; stop = 0; fields = done }
first_tree (many items rest) = record { kind = Program; start = 0; stop = 0; fields = done }
first_tree (child k s e fields rest) = record { kind = k; start = s; stop = e; fields = fields }

abbrev pub coded_tree : Coded Tree
coded_tree = record { code = λ t. parts_code (alone t); inj = λ x y p. ap first_tree (sym (parts_back (alone x)) ∙ ap parts_from p ∙ parts_back (alone y)) }
