-- Trees whose places have a name, and whose Properties have a key and a value.
use Rattle.std.specs.Prelude.{⊤}
use Rattle.tree_nodes.specs.Tree.{Parts, atom, child, done, flag, many, text}
use Rattle.tree_nodes.specs.declared.kind.Kind.{Kind}
use Rattle.tree_nodes.specs.declared.kind.Kind.TheVariants.{Identifier, PrivateIdentifier, Property}

-- a name alone
abbrev pub HasText : Parts → Type 0
HasText (atom (text x) done) = ⊤
HasText _ = ⊥

-- a word, key and value, and three fields more, of which the second is the shorthand mark
abbrev pub HasPair : Parts → Type 0
HasPair (atom kind (child k s e key (child k' s' e' value (atom method (atom (flag mark) (atom computed done)))))) = ⊤
HasPair _ = ⊥

abbrev pub IsFormed : Kind → Parts → Type 0
IsFormed Identifier fields = HasText fields
IsFormed PrivateIdentifier fields = HasText fields
IsFormed Property fields = HasPair fields
IsFormed _ fields = ⊤

abbrev pub AreFormed : Parts → Type 0
AreFormed done = ⊤
AreFormed (atom a more) = AreFormed more
AreFormed (many items more) = AreFormed items × AreFormed more
AreFormed (child k s e fields more) = IsFormed k fields × AreFormed fields × AreFormed more
