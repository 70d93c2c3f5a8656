-- What a reference does with its binding, as flags.
use Rattle.std.specs.Prelude.{ℕ, List, [], ◌∷◌, codes}
use Rattle.syntax_sem.specs.Bits.{bit, union_of}
use Rattle.syntax_sem.specs.declared.reference.ReferenceFlags.{ReferenceFlags}

abbrev pub bits_of : ReferenceFlags → ℕ
bits_of flags = flags.0

abbrev pub none : ℕ
none = 0

abbrev pub read : ℕ
read = bit 0

abbrev pub write : ℕ
write = bit 1

abbrev pub type : ℕ
type = bit 2

abbrev pub value_as_type : ℕ
value_as_type = bit 3

abbrev pub namespace : ℕ
namespace = bit 4

abbrev pub member_write_target : ℕ
member_write_target = bit 5

-- a use as a value
abbrev pub value : ℕ
value = union_of (read ∷ write ∷ [])

abbrev pub named : List (List ℕ × ℕ)
named =
    (codes "READ", read) ∷ (codes "WRITE", write) ∷ (codes "TYPE", type) ∷ (codes "VALUE_AS_TYPE", value_as_type)
    ∷ (codes "NAMESPACE", namespace) ∷ (codes "MEMBER_WRITE_TARGET", member_write_target) ∷ (codes "NONE", none)
    ∷ (codes "VALUE", value) ∷ []
