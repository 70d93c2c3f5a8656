-- What an answer is asked for, by the options of a call, or by the words of a run.
use Rattle.std.specs.Prelude.{ℕ, List, [], length}
use Rattle.json_text.specs.Layout.{Layout, compact, pretty}
use Rattle.mangle_options.specs.Settings.{reserved_in}
use Rattle.mangle_options.specs.declared.options.MangleOptions.{MangleOptions}
use Rattle.name_rules.specs.Options.{Options, renames_root}
use Rattle.tool_words.specs.Words.{Flags, no_settings}
use Rattle.tool_words.specs.declared.command.Layout.{Layout as NamedLayout}
use Rattle.tool_words.specs.declared.command.Layout.TheVariants as named
use Rattle.tree_nodes.specs.Tree.{Text, Tree, alone}
use Rattle.mangle_tool.specs.Mangling.{options_for}

pub record Asked : Type 0 where
  -- of each tree the options under which it is mangled
  pub options : Tree → Options
  -- how many names are reserved: they are counted with the objects of the input
  pub reserved : ℕ
  -- where white space stands in the tree's text
  pub layout : Layout

abbrev pub layout_of : NamedLayout → Layout
layout_of named.Compact = compact
layout_of named.Pretty = pretty 0

-- by the options and the layout of a call
abbrev pub asked_by : MangleOptions → NamedLayout → Asked
asked_by o l = record { options = options_for o; reserved = length (reserved_in o); layout = layout_of l }

-- by flags, with these names reserved; whether a script's root is renamed is asked of the tree, where no flag says it
abbrev pub asked_for : Flags → List Text → Asked
asked_for f names = record {
  options = λ t. record { top_level = renames_root f.top_level (alone t); keep_functions = f.keep_functions; keep_classes = f.keep_classes; reserved = names; readable = f.readable };
  reserved = length names;
  layout = layout_of f.layout;
}

-- without words
abbrev pub usual : Asked
usual = asked_for no_settings.flags []
