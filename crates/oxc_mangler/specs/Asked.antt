-- What a mangler is asked to do.
use Rattle.std.specs.Prelude.{false, List, [], Option, None, Some}
use Rattle.mangle_options.specs.Settings.{options_in, reserved_in}
use Rattle.mangle_options.specs.declared.options.MangleOptions.{MangleOptions}
use Rattle.name_rules.specs.Options.{Options, renames_root}
use Rattle.oxc_mangler.specs.declared.mangler.Mangler.{Mangler}
use Rattle.tree_nodes.specs.Tree.{Parts, Text}

-- the options that a mangler was given, if it was given some
abbrev pub options_of : Mangler → Option MangleOptions
options_of m = m.options

-- what options ask of a tree
abbrev pub asked_with : MangleOptions → Parts → Options
asked_with o t = options_in o (renames_root o.top_level t)

-- with none given, all bindings get new names that need not keep theirs, those of the root but in a script, and no function or class keeps its name for its own sake
unfoldable pub asked : Option MangleOptions → Parts → Options
asked None t = record { top_level = renames_root None t; keep_functions = false; keep_classes = false; reserved = []; readable = false }
asked (Some o) t = asked_with o t

-- the names that are reserved
abbrev pub reserved_by : Option MangleOptions → List Text
reserved_by None = []
reserved_by (Some o) = reserved_in o
