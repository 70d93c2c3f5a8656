-- Looking into a run of parts: its length, its parts, and how large they are.
use Rattle.std.specs.Prelude.{ℕ, zero, suc, ◌+◌, Bool, true, false, Option, Some, None}
use Rattle.tree_nodes.specs.Tree.{Tree, empty, Parts, done, atom, child, many}

abbrev pub parts_size : Parts → ℕ
parts_size done = 0
parts_size (atom a rest) = parts_size rest + 1
parts_size (child k s e fields rest) = parts_size fields + 2 + parts_size rest + 1
parts_size (many items rest) = parts_size items + 1 + parts_size rest + 1

abbrev pub tree_size : Tree → ℕ
tree_size t = parts_size t.fields + 1

-- of a first part alone
abbrev pub part_size : Parts → ℕ
part_size done = 0
part_size (atom a rest) = 0
part_size (child k s e fields rest) = parts_size fields + 2
part_size (many items rest) = parts_size items + 1

abbrev pub item_size : Option Tree → ℕ
item_size None = 0
item_size (Some t) = tree_size t

abbrev pub parts_len : Parts → ℕ
parts_len done = 0
parts_len (atom a rest) = suc (parts_len rest)
parts_len (child k s e fields rest) = suc (parts_len rest)
parts_len (many items rest) = suc (parts_len rest)

-- the i-th part, as a run of it alone
abbrev pub part_at : Parts → ℕ → Option Parts
part_at done i = None
part_at (atom a rest) zero = Some (atom a done)
part_at (atom a rest) (suc i) = part_at rest i
part_at (child k s e fields rest) zero = Some (child k s e fields done)
part_at (child k s e fields rest) (suc i) = part_at rest i
part_at (many items rest) zero = Some (many items done)
part_at (many items rest) (suc i) = part_at rest i

-- the i-th item of a list of optional nodes: a part that is no node is a hole
abbrev pub item_at : Parts → ℕ → Option (Option Tree)
item_at done i = None
item_at (atom a rest) zero = Some None
item_at (atom a rest) (suc i) = item_at rest i
item_at (child k s e fields rest) zero = Some (Some (record { kind = k; start = s; stop = e; fields = fields }))
item_at (child k s e fields rest) (suc i) = item_at rest i
item_at (many items rest) zero = Some None
item_at (many items rest) (suc i) = item_at rest i

-- what is left past the first i
abbrev pub past : ℕ → Parts → Parts
past zero ps = ps
past (suc i) done = done
past (suc i) (atom a rest) = past i rest
past (suc i) (child k s e fields rest) = past i rest
past (suc i) (many items rest) = past i rest

-- one run before another
abbrev pub onto : Parts → Parts → Parts
onto done more = more
onto (atom a rest) more = atom a (onto rest more)
onto (child k s e fields rest) more = child k s e fields (onto rest more)
onto (many items rest) more = many items (onto rest more)

-- a run that a list of optional nodes stands for: nodes and holes alone
abbrev pub are_items : Parts → Bool
are_items done = true
are_items (atom empty rest) = are_items rest
are_items (atom a rest) = false
are_items (child k s e fields rest) = are_items rest
are_items (many items rest) = false
