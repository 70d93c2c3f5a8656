-- The laws on programs: what a tree that is read meets of the laws on names. A tree stands as the run of it alone.
use Rattle.std.specs.Prelude.{◌≡◌, ◌≤◌, ◌⊎◌, length, IsTrue, IsFalse}
use Rattle.name_rules.specs.Groups.{greatest_width, members}
use Rattle.name_rules.specs.Mangled.{IsRival, changes, names_where}
use Rattle.name_rules.specs.Options.{Options}
use Rattle.tree_core.specs.Program.{IsProgram}
use Rattle.tree_nodes.specs.Tree.{Parts, Tree, alone}
use Rattle.tree_places.specs.Laws.{IsRooted}
use Rattle.tree_places.specs.Places.{Place, places, sites}
use Rattle.scope_rules.specs.Bindings.{same_name}
use Rattle.scope_rules.specs.Faults.{has_crossing}
use Rattle.scope_rules.specs.FunctionNames.{names_functions_once}
use Rattle.scope_rules.specs.Homes.{home}
use Rattle.scope_rules.specs.PrivateNames.{distinct}
use Rattle.scope_rules.specs.Renamings.{IsBindingOf, is_live_in}
use Rattle.scope_rules.specs.Separation.{IsShadowedBy, function_names_apart}

-- each function expression of a program has one Identifier as its name, or none
abbrev pub ProgramsNameFunctionsOnce : Type 0
ProgramsNameFunctionsOnce = (t : Tree) → IsProgram t → IsTrue (names_functions_once (alone t))

-- so no two function-names of a program have one home
abbrev pub ProgramsKeepFunctionNamesApart : Type 0
ProgramsKeepFunctionNamesApart = (t : Tree) → IsProgram t → IsTrue (function_names_apart (sites (alone t)))

-- each place of a program lies in a var scope
abbrev pub ProgramsAreRooted : Type 0
ProgramsAreRooted = (t : Tree) → IsProgram t → IsRooted (alone t)

-- in a program without a crossing, where a binding is live in the home of another and the two have one name, one is a function-name and the other its shadower
abbrev pub NamesOfProgramsSeparate : Type 0
NamesOfProgramsSeparate = (t : Tree) → IsProgram t → IsFalse (has_crossing same_name (places (alone t)))
    → (b c : Place) → IsBindingOf same_name (places (alone t)) b → IsBindingOf same_name (places (alone t)) c → IsTrue (is_live_in same_name (places (alone t)) b (home c.site)) → b.name ≡ c.name
    → (b ≡ c) ⊎ (IsShadowedBy (places (alone t)) b c ⊎ IsShadowedBy (places (alone t)) c b)

-- in each rival w of a program, the bindings that aren't kept in the program have at least as many different names as groups of it are ever live at once
abbrev pub NoRivalOfAProgramUsesFewer : Type 0
NoRivalOfAProgramUsesFewer = (t : Tree) (o : Options) (w : Parts) → IsProgram t → IsRival (alone t) o w
    → greatest_width o (alone t) ≤ length (distinct (names_where changes (members o (alone t)) (places w)))
