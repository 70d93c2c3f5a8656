-- What a step of a path stands for, and when two are equal.
use Rattle.std.specs.Prelude.{◌≡◌, ◌↔◌, Bool, IsTrue, List, map}
use Rattle.oxc_estree.specs.declared.trace_path.TracePathPart.{TracePathPart}
use Rattle.oxc_estree.specs.declared.trace_path.TracePathPart.TheVariants.{Key, Index}
use Rattle.oxc_estree.specs.Out.{Part, key, index}

abbrev pub part_of : TracePathPart → Part
part_of (Key k) = key k.now
part_of (Index i) = index i

abbrev pub path_of : List TracePathPart → List Part
path_of ps = map part_of ps

-- a test that holds exactly where the two stand for the same part
abbrev pub ComparesByPart : (TracePathPart → TracePathPart → Bool) → Type 0
ComparesByPart test = (a b : TracePathPart) → IsTrue (test a b) ↔ (part_of a ≡ part_of b)
