-- One run before another.
use Rattle.std.proofs.Common.{◌≡◌, refl, ap}
use Rattle.tree_nodes.specs.Look.{onto}
use Rattle.tree_nodes.specs.Tree.{Parts, atom, child, done, many}

pub onto_assoc : (p q r : Parts) → onto (onto p q) r ≡ onto p (onto q r)
onto_assoc done q r = refl
onto_assoc (atom a more) q r = ap (atom a) (onto_assoc more q r)
onto_assoc (child k s e fields more) q r = ap (child k s e fields) (onto_assoc more q r)
onto_assoc (many items more) q r = ap (many items) (onto_assoc more q r)

pub onto_done : (p : Parts) → onto p done ≡ p
onto_done done = refl
onto_done (atom a more) = ap (atom a) (onto_done more)
onto_done (child k s e fields more) = ap (child k s e fields) (onto_done more)
onto_done (many items more) = ap (many items) (onto_done more)
