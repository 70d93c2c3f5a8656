-- The law that a program renamed is a program.
use Rattle.std.specs.Prelude.{◌≡◌, ◌<◌, ◌^◌, length, true, IsUtf8}
use Rattle.std.specs.List.{AllByRecursion}
use Rattle.syntax_lex.specs.Identifier.{is_identifier_name}
use Rattle.tree_core.specs.Program.{IsProgram}
use Rattle.tree_nodes.specs.Tree.{Text, Tree, alone}
use Rattle.tree_places.specs.Places.{names}
use Rattle.tree_places.specs.Renaming.{IsRenamed}

-- a text, in UTF-8, that is an identifier name
abbrev pub IsName : Text → Type 0
IsName x = IsUtf8 x × (is_identifier_name x ≡ true)

-- a text of at most 4,294,967,295 bytes
abbrev pub IsShort : Text → Type 0
IsShort x = length x < 2 ^ 32

-- a program renamed is a program, if its names are identifier names, and short
abbrev pub RenamedProgramsArePrograms : Type 0
RenamedProgramsArePrograms = (t u : Tree) → IsProgram t → IsRenamed (alone t) (alone u) → AllByRecursion IsName (names (alone u))
    → AllByRecursion IsShort (names (alone u)) → IsProgram u
