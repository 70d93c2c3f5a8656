-- What reading and printing are to each other.
use Rattle.std.specs.Prelude.{◌≡◌, ◌<◌, ◌^◌, Some}
use Rattle.json_text.specs.Json.{Json}
use Rattle.json_text.specs.Grammar.{Reads}
use Rattle.json_text.specs.HasText.{HasText}
use Rattle.json_text.specs.Layout.{Layout}
use Rattle.json_text.specs.Text.{text_of}
use Rattle.oxc_estree.specs.Envelope.{envelope}
use Rattle.tree_core.specs.Program.{IsProgram}
use Rattle.tree_core.specs.Reading.{tree_of}
use Rattle.tree_nodes.specs.NodeCount.{nodes_in}
use Rattle.tree_nodes.specs.Tree.{Tree, alone}
use Rattle.tree_core.specs.Values.{meaning_of, value_of, wrapped_value}

-- a tree that some value is, is read from its own value
abbrev pub ReadingUndoesPrinting : Type 0
ReadingUndoesPrinting = (v : Json) (t : Tree) → tree_of v ≡ Some t → tree_of (value_of t) ≡ Some t

-- the text of its value reads as that value, and as no other
abbrev pub PrintedTextReads : Type 0
PrintedTextReads = (l : Layout) (v : Json) (t : Tree) → tree_of v ≡ Some t
    → Reads (text_of l (value_of t)) (value_of t) × ((w : Json) → Reads (text_of l (value_of t)) w → w ≡ value_of t)

-- the value of a tree that some value is has a text
abbrev pub TreesHaveText : Type 0
TreesHaveText = (v : Json) (t : Tree) → tree_of v ≡ Some t → HasText (value_of t)

-- a program's value beside its fix paths, as one text, reads as the object of these two, and as no other value
abbrev pub WrappedProgramsRead : Type 0
WrappedProgramsRead = (l : Layout) (t : Tree) → IsProgram t
    → Reads (envelope l (meaning_of t)) (wrapped_value t) × ((w : Json) → Reads (envelope l (meaning_of t)) w → w ≡ wrapped_value t)

-- a program has fewer than 2^30 nodes
abbrev pub ProgramsAreSmall : Type 0
ProgramsAreSmall = (t : Tree) → IsProgram t → nodes_in (alone t) < 2 ^ 30
