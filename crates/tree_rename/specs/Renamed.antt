-- The tree that the walk makes.
use Rattle.std.specs.Prelude.{ℕ, zero, suc, ◌+◌, Bool, true, false, List, Option, drop, bytes_eq, if◌then◌else◌}
use Rattle.tree_nodes.specs.Standing.{own_name}
use Rattle.tree_nodes.specs.Tree.{Parts, Text, atom, child, done, flag, many, part, text}
use Rattle.tree_nodes.specs.declared.kind.Kind.{Kind}
use Rattle.tree_nodes.specs.declared.kind.Kind.TheVariants.{Identifier, PrivateIdentifier, Property}
use Rattle.tree_places.specs.Chosen.{given_name, or_own}

-- a kind whose nodes are places
unfoldable pub has_name : Kind → Bool
has_name Identifier = true
has_name PrivateIdentifier = true
has_name _ = false

-- how many places a run has
unfoldable pub count : Parts → ℕ
count done = 0
count (atom a more) = count more
count (many items more) = count items + count more
count (child k s e fields more) = (if has_name k then suc (count fields) else count fields) + count more

-- the fields of a place, with the name that is given to it
unfoldable pub named : Option Text → Parts → Parts
named name (atom (text x) more) = atom (text (or_own name x)) more
named name fields = fields

-- a run with the mark off that its i-th part is
unfoldable pub off_at : ℕ → Parts → Parts
off_at i done = done
off_at zero (atom (flag b) more) = atom (flag false) more
off_at zero (atom a more) = atom a more
off_at (suc i) (atom a more) = atom a (off_at i more)
off_at zero (child k s e fields more) = child k s e fields more
off_at (suc i) (child k s e fields more) = child k s e fields (off_at i more)
off_at zero (many items more) = many items more
off_at (suc i) (many items more) = many items (off_at i more)

-- the fields of a Property, with its shorthand mark off where its key and its value differ in name
unfoldable pub settled : Parts → Parts
settled fields = if bytes_eq (own_name (part fields 1)) (own_name (part fields 2)) then fields else off_at 4 fields

-- the fields of a node once those below are renamed
unfoldable pub finished : Kind → List Text → List (Option ℕ) → Parts → Parts
finished Identifier given cs fields = named (given_name given cs) fields
finished PrivateIdentifier given cs fields = named (given_name given cs) fields
finished Property given cs fields = settled fields
finished _ given cs fields = fields

-- the choices for what lies inside a node
unfoldable pub inner : Kind → List (Option ℕ) → List (Option ℕ)
inner k cs = if has_name k then drop 1 cs else cs

-- the choices that a node leaves to what comes after it
unfoldable pub after : Kind → Parts → List (Option ℕ) → List (Option ℕ)
after k fields cs = drop (count fields) (inner k cs)

-- a run, renamed
unfoldable pub renamed : List Text → List (Option ℕ) → Parts → Parts
renamed given cs done = done
renamed given cs (atom a more) = atom a (renamed given cs more)
renamed given cs (many items more) = many (renamed given cs items) (renamed given (drop (count items) cs) more)
renamed given cs (child k s e fields more) = child k s e (finished k given cs (renamed given (inner k cs) fields)) (renamed given (after k fields cs) more)
