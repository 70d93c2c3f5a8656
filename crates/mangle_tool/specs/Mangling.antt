-- What a call does to the program that it read.
use Rattle.std.specs.Prelude.{◌≡◌, Option, IsFalse, IsTrue}
use Rattle.mangle_options.specs.Settings.{options_in}
use Rattle.mangle_options.specs.declared.options.MangleOptions.{MangleOptions}
use Rattle.name_rules.specs.Mangled.{IsMangled}
use Rattle.name_rules.specs.Options.{Options, renames_root}
use Rattle.name_rules.specs.PrivateNumbers.{new_names}
use Rattle.serde_json.specs.Data.{Data}
use Rattle.tree_core.specs.JsonOf.{json_of}
use Rattle.tree_core.specs.Program.{IsProgram}
use Rattle.tree_core.specs.Reading.{tree_of}
use Rattle.tree_nodes.specs.Tree.{Tree, alone}
use Rattle.tree_places.specs.Places.{names, places}
use Rattle.scope_rules.specs.Bindings.{same_name}
use Rattle.scope_rules.specs.Faults.{has_fault}
use Rattle.mangle_tool.specs.Input.{program_in}

-- the tree that a value is or wraps
abbrev pub tree_in : Data → Option Tree
tree_in value = tree_of (json_of (program_in value))

-- what the options of a call ask of a tree
abbrev pub options_for : MangleOptions → Tree → Options
options_for o t = options_in o (renames_root o.top_level (alone t))

-- the scopes of the tree have a fault
abbrev pub IsFaulty : Tree → Type 0
IsFaulty t = IsTrue (has_fault same_name (places (alone t)))

abbrev pub IsSound : Tree → Type 0
IsSound t = IsFalse (has_fault same_name (places (alone t)))

-- u is what the program t becomes under these options: t mangled, under the names that are given, a program again and without fault
pub record IsMangling (o : Options) (t u : Tree) : Type 0 where
  pub of_program : IsProgram t
  pub sound : IsSound t
  pub mangled : IsMangled (alone t) o (alone u)
  pub names : names (alone u) ≡ new_names o (alone t)
  pub program : IsProgram u
  pub sound_again : IsSound u
