-- What the rows ask for. A row's options stand as a function of its tree, since it is the source type that settles whether bindings of the root may be renamed.
use Rattle.std.specs.Prelude.{true, false, List, [], ◌∷◌, map, None, Some, codes}
use Rattle.name_rules.specs.Options.{Options, renames_root}
use Rattle.tree_nodes.specs.Tree.{Parts, Text}

-- nothing
abbrev pub defaults : Parts → Options
defaults t = record { top_level = renames_root None t; keep_functions = false; keep_classes = false; reserved = []; readable = false }

-- that bindings of the root are renamed, whatever the source type
abbrev pub with_top_level : Parts → Options
with_top_level t = record { top_level = renames_root (Some true) t; keep_functions = false; keep_classes = false; reserved = []; readable = false }

-- that functions, or classes, keep their names
abbrev pub keeping_functions : Parts → Options
keeping_functions t = record { top_level = renames_root None t; keep_functions = true; keep_classes = false; reserved = []; readable = false }

abbrev pub keeping_classes : Parts → Options
keeping_classes t = record { top_level = renames_root None t; keep_functions = false; keep_classes = true; reserved = []; readable = false }

-- that these names are left alone
abbrev pub reserving : List Text → Parts → Options
reserving names t = record { top_level = renames_root None t; keep_functions = false; keep_classes = false; reserved = names; readable = false }

-- that names are given as `slot_0`, `slot_1` and so on
abbrev pub readably : Parts → Options
readably t = record { top_level = renames_root None t; keep_functions = false; keep_classes = false; reserved = []; readable = true }

-- the names of one character but `$`
abbrev pub all_short_but_dollar : List Text
all_short_but_dollar = map (λ c. c ∷ []) (codes "etnriaoscludfpmhg_vybxSCwTEDOkAjMNPFILRzBVHUWGKqJYXZQ")
