-- A limit above numbers.
use Rattle.std.specs.Prelude.{ℕ, suc, Option, Some, None, max}

-- the limit that counts this number too, if there is one
unfoldable pub limit_with : ℕ → Option ℕ → ℕ
limit_with limit None = limit
limit_with limit (Some n) = max limit (suc n)
