-- A tree as plain data: a node with its fields, which are a run of parts. A list of optional nodes is a run too.
use Rattle.std.specs.Prelude.{ℕ, zero, suc, Bool, true, false, List, []}
use Rattle.tree_nodes.specs.declared.kind.Kind.{Kind}

-- a text, as its bytes
abbrev pub Text : Type 0
Text = List ℕ

-- a field that is no node: null (in a list, a hole), a truth value, the k-th word of its row, a text, code units, a whole number
pub data Atom : Type 0 where
  empty : Atom
  flag : Bool → Atom
  word : ℕ → Atom
  text : Text → Atom
  units : List ℕ → Atom
  whole : ℕ → Atom

-- nothing more; a field that is no node, and the rest; a node with its fields, and the rest; a list, and the rest
pub data Parts : Type 0 where
  done : Parts
  atom : Atom → Parts → Parts
  child : (kind : Kind) (start stop : ℕ) (fields : Parts) → Parts → Parts
  many : (items : Parts) → Parts → Parts

pub record Tree : Type 0 where
  pub kind : Kind
  pub start : ℕ
  pub stop : ℕ
  pub fields : Parts

-- a tree before a run, and alone
abbrev pub before : Tree → Parts → Parts
before t more = child t.kind t.start t.stop t.fields more

abbrev pub alone : Tree → Parts
alone t = before t done

-- the first part alone, and the i-th, where there is one
abbrev pub part : Parts → ℕ → Parts
part done i = done
part (atom a rest) zero = atom a done
part (atom a rest) (suc i) = part rest i
part (child k s e fields rest) zero = child k s e fields done
part (child k s e fields rest) (suc i) = part rest i
part (many items rest) zero = many items done
part (many items rest) (suc i) = part rest i

-- what the first part says
abbrev pub flag_of : Parts → Bool
flag_of (atom (flag b) rest) = b
flag_of _ = false

abbrev pub word_of : Parts → ℕ
word_of (atom (word n) rest) = n
word_of _ = 0

abbrev pub text_of : Parts → Text
text_of (atom (text t) rest) = t
text_of _ = []

abbrev pub is_empty : Parts → Bool
is_empty (atom empty rest) = true
is_empty _ = false
