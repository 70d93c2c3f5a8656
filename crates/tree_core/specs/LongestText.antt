-- How many bytes the longest text of a run takes: a text in UTF-8, code units in WTF-8.
use Rattle.std.specs.Prelude.{ℕ, length, max}
use Rattle.oxc_str.specs.Wtf8.{wtf8}
use Rattle.tree_nodes.specs.Tree.{Atom, Parts, atom, child, done, many, text, units}

abbrev pub text_bytes : Atom → ℕ
text_bytes (text t) = length t
text_bytes (units us) = length (wtf8 us)
text_bytes _ = 0

abbrev pub longest_text : Parts → ℕ
longest_text done = 0
longest_text (atom a more) = max (text_bytes a) (longest_text more)
longest_text (child k s e fields more) = max (longest_text fields) (longest_text more)
longest_text (many items more) = max (longest_text items) (longest_text more)
