-- The kinds of an element of a class, as flags.
use Rattle.std.specs.Prelude.{ℕ, List, [], ◌∷◌, codes}
use Rattle.syntax_sem.specs.Bits.{bit, union_of}
use Rattle.syntax_sem.specs.declared.class.ElementKind.{ElementKind}

abbrev pub bits_of : ElementKind → ℕ
bits_of kind = kind.0

abbrev pub accessor : ℕ
accessor = bit 0

abbrev pub method : ℕ
method = bit 1

abbrev pub property : ℕ
property = bit 2

abbrev pub setter : ℕ
setter = bit 3

abbrev pub getter : ℕ
getter = bit 4

abbrev pub setter_or_getter : ℕ
setter_or_getter = union_of (setter ∷ getter ∷ [])

abbrev pub named : List (List ℕ × ℕ)
named =
    (codes "ACCESSOR", accessor) ∷ (codes "METHOD", method) ∷ (codes "PROPERTY", property) ∷ (codes "SETTER", setter)
    ∷ (codes "GETTER", getter) ∷ []
