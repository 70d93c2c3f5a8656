-- The bodies of modules one after another.
use Rattle.std.specs.Prelude.{ℕ, ◌+◌, List, [], ◌∷◌}
use Rattle.tree_nodes.specs.Look.{onto, parts_len}
use Rattle.tree_nodes.specs.Tree.{Parts, Tree, atom, done, empty, many, part, word}
use Rattle.tree_nodes.specs.declared.kind.Kind.TheVariants.{Program}
use Rattle.tree_places.specs.Places.{list_items}

-- the statements of a program
unfoldable pub body : Tree → Parts
body t = list_items (part t.fields 0)

unfoldable pub bodies : List Tree → Parts
bodies [] = done
bodies (t ∷ ts) = onto (body t) (bodies ts)

-- the module with these statements, which has no place in a source text
unfoldable pub module_of : Parts → Tree
module_of items = record { kind = Program; start = 0; stop = 0; fields = many items (atom (word 1) (atom empty done)) }

unfoldable pub joined : List Tree → Tree
joined ts = module_of (bodies ts)

-- where each body begins, if n statements come before
unfoldable pub starts_from : ℕ → List Tree → List ℕ
starts_from n [] = []
starts_from n (t ∷ ts) = n ∷ starts_from (n + parts_len (body t)) ts
