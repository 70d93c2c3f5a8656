-- The names of a filled run are identifier names, if those that are given are.
use Rattle.std.proofs.Common.{◌≡◌, ℕ, zero, suc, ◌+◌, ◌≤◌, ◌-◌, Bool, true, false, List, [], ◌∷◌, length, drop, if◌then◌else◌, refl, sym, ap, ◌∙◌, arith}
use Rattle.std.proofs.lemmas.List.{length-drop}
use Rattle.std.specs.List.{AllByRecursion}
use Rattle.name_map.specs.Filled.{Given, after, called, filled, first_mark, first_name, flag_put, given, inside, own_filled, properties}
use Rattle.tree_nodes.specs.Tree.{Parts, Text, atom, child, done, flag, many, text}
use Rattle.tree_nodes.specs.declared.kind.Kind.{Kind}
use Rattle.tree_nodes.specs.declared.kind.Kind.TheVariants.{Identifier, PrivateIdentifier, Property}
use Rattle.tree_rename.proofs.IdentifierNames.{Named, NamedHere}
use Rattle.tree_rename.specs.Formed.{AreFormed, HasText, IsFormed}
use Rattle.tree_rename.specs.Laws.{IsName}
use Rattle.tree_rename.specs.Renamed.{count, has_name}

abbrev Names : List Text → Type 0
Names xs = AllByRecursion IsName xs

names_drop : (n : ℕ) (xs : List Text) → Names xs → Names (drop n xs)
names_drop zero xs h = h
names_drop (suc n) [] h = tt
names_drop (suc n) (x ∷ xs) h = names_drop n xs h.1

names_first : (xs : List Text) → Names xs → 1 ≤ length xs → IsName (first_name xs)
names_first [] h l = absurd (omega (arith, l))
names_first (x ∷ xs) h l = h.0

called_here : (x : Text) (g : Given) (fields : Parts) → HasText fields → IsName x → NamedHere Identifier (called x (filled g fields))
unfolding called filled
called_here x g (atom (text y) done) h n = n
called_here x g _ h n = absurd h

called_named : (x : Text) (p : Parts) → Named p → Named (called x p)
unfolding called
called_named x (atom (text y) more) h = h
called_named x done h = h
called_named x (atom _ more) h = h
called_named x (many items more) h = h
called_named x (child k s e fields more) h = h

put_named : (i : ℕ) (b : Bool) (p : Parts) → Named p → Named (flag_put i b p)
unfolding flag_put
put_named i b done h = tt
put_named zero b (atom (flag c) more) h = h
put_named zero b (atom _ more) h = h
put_named (suc i) b (atom a more) h = put_named i b more h
put_named zero b (many items more) h = h
put_named (suc i) b (many items more) h = (h.0, put_named i b more h.1)
put_named zero b (child k s e fields more) h = h
put_named (suc i) b (child k s e fields more) h = (h.0, h.1, put_named i b more h.2)

own_named : (k : Kind) (g : Given) (p : Parts) → Named p → Named (own_filled k g p)
unfolding own_filled
own_named Identifier g p h = called_named _ p h
own_named PrivateIdentifier g p h = called_named _ p h
own_named Property g p h = put_named 4 _ p h
own_named _ g p h = h

-- the name of a place is one that is given
own_here : (k : Kind) (g : Given) (fields : Parts) (n : ℕ) → IsFormed k fields → Names g.names
    → (if has_name k then suc (count fields) else count fields) + n ≤ length g.names
    → NamedHere k (own_filled k g (filled (inside k g) fields))
unfolding has_name own_filled
own_here Identifier g fields n h a l = called_here (first_name g.names) _ fields h (names_first g.names a (omega (arith, l)))
own_here PrivateIdentifier g fields n h a l = called_here (first_name g.names) _ fields h (names_first g.names a (omega (arith, l)))
own_here _ g fields n h a l = tt

inside_names : (b : Bool) (xs : List Text) → Names xs → Names (if b then drop 1 xs else xs)
inside_names true xs h = names_drop 1 xs h
inside_names false xs h = h

inside_enough : (b : Bool) (c n : ℕ) (xs : List Text) → (if b then suc c else c) + n ≤ length xs → c + n ≤ length (if b then drop 1 xs else xs)
inside_enough true c n xs l = let d = length-drop 1 xs in omega (arith, l, d)
inside_enough false c n xs l = l

less : (a b c : ℕ) → a + b ≤ c → a ≤ c
less a b c l = omega (arith, l)

left_enough : (a b : ℕ) (xs : List Text) → a + b ≤ length xs → b ≤ length (drop a xs)
left_enough a b xs l = let d = length-drop a xs in omega (arith, l, d)

pub filled_named : (g : Given) (p : Parts) → AreFormed p → Names g.names → count p ≤ length g.names → Named (filled g p)
unfolding count filled
filled_named g done h a l = tt
filled_named g (atom x more) h a l = filled_named g more h a l
filled_named g (many items more) h a l = (
  filled_named g items h.0 a (less (count items) (count more) (length g.names) l),
  filled_named (after items g) more h.1 (names_drop (count items) g.names a) (left_enough (count items) (count more) g.names l),
)
filled_named g (child k s e fields more) h a l =
    let within = inside_enough (has_name k) (count fields) (count more) g.names l in
    let names_within = inside_names (has_name k) g.names a in (
      own_here k g fields (count more) h.0 a l,
      own_named k g _ (filled_named (inside k g) fields h.1 names_within (less (count fields) (count more) _ within)),
      filled_named (after fields (inside k g)) more h.2 (names_drop (count fields) _ names_within) (left_enough (count fields) (count more) _ within),
    )
