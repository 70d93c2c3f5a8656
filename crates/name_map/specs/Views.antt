-- What the code's lists are as data.
use Rattle.std.specs.Prelude.{List, map, string_bytes}
use Rattle.name_map.specs.Filled as spec
use Rattle.name_map.specs.declared.fill.Given.{Given}

abbrev pub given_view : Given → spec.Given
given_view g = spec.given (map (λ x. x.now) g.names.now) g.marks.now
