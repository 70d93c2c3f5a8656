-- Texts that are borrowed, and answered with where they lie.
use Rattle.std.specs.Borrow.{Bor}
use Rattle.std.specs.Prelude.{◌≡◌, ℕ, List, ⊤}
use Rattle.std.specs.declared.borrow.CowStr.{CowStr}
use Rattle.std.specs.declared.borrow.CowStr.TheVariants.{Borrowed, Owned}

-- where the value borrows its text, r is that very reference: the same bytes in the same place, and no copy
abbrev pub IsWhatItBorrows : {Z : Type 0} → CowStr Z → Bor (List ℕ) → Type 0
IsWhatItBorrows (Borrowed text) r = r ≡ text
IsWhatItBorrows (Owned text) r = ⊤
