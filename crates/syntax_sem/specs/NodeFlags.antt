-- What is known of a node, as flags.
use Rattle.std.specs.Prelude.{ℕ, List, [], ◌∷◌, codes}
use Rattle.syntax_sem.specs.Bits.{bit}
use Rattle.syntax_sem.specs.declared.node.NodeFlags.{NodeFlags}

abbrev pub bits_of : NodeFlags → ℕ
bits_of flags = flags.0

abbrev pub jsdoc : ℕ
jsdoc = bit 0

abbrev pub named : List (List ℕ × ℕ)
named = (codes "JSDOC", jsdoc) ∷ []
