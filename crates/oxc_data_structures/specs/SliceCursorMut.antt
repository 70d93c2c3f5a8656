-- What is left to a `SliceCursorMut`.
use Rattle.std.specs.Prelude.{List, drop}
use Rattle.oxc_data_structures.specs.declared.slice_iter.SliceCursorMut.{SliceCursorMut}

-- the entries of its slice that it hasn't passed
abbrev pub rest_of : {T : Type 0} → SliceCursorMut T → List T
rest_of c = drop c.passed c.slice.now
