-- What is asked for where functions and classes alone may keep their names.
use Rattle.std.specs.Prelude.{true, false, []}
use Rattle.mangle_options.specs.declared.keep_names.MangleOptionsKeepNames.{MangleOptionsKeepNames}
use Rattle.name_rules.specs.Options.{Options}

unfoldable pub keeping : MangleOptionsKeepNames → Options
keeping keep = record { top_level = true; keep_functions = keep.function; keep_classes = keep.class; reserved = []; readable = false }
