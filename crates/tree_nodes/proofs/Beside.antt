-- A part found by `get`, beside the part that the definitions look at.
use Rattle.std.proofs.Common.{◌≡◌, ℕ, zero, suc, Option, Some, None, refl, sym, ap, ◌∙◌}
use Rattle.tree_nodes.specs.Tree.{Parts, done, atom, child, many, part}
use Rattle.tree_nodes.specs.Look.{part_at}

abbrev or_done : Option Parts → Parts
or_done None = done
or_done (Some p) = p

part-part_at : (ps : Parts) (i : ℕ) → part ps i ≡ or_done (part_at ps i)
part-part_at done i = refl
part-part_at (atom a rest) zero = refl
part-part_at (atom a rest) (suc i) = part-part_at rest i
part-part_at (child k s e fields rest) zero = refl
part-part_at (child k s e fields rest) (suc i) = part-part_at rest i
part-part_at (many items rest) zero = refl
part-part_at (many items rest) (suc i) = part-part_at rest i

pub part_found : (ps : Parts) (i : ℕ) (p : Parts) → Some p ≡ part_at ps i → p ≡ part ps i
part_found ps i p e = ap or_done e ∙ sym (part-part_at ps i)

pub part_missing : (ps : Parts) (i : ℕ) → None ≡ part_at ps i → done ≡ part ps i
part_missing ps i e = ap or_done e ∙ sym (part-part_at ps i)
