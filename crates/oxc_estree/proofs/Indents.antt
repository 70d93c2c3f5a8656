-- Indents, level by level.
use Rattle.std.proofs.Common.{◌≡◌, ℕ, ◌+◌, ◌*◌, ◌<◌, ◌≤◌, ◌++◌, ◌∷◌, [], length, length-append, replicate, ap, ◌∙◌, arith}
use Rattle.std.proofs.lemmas.List.{replicate-append-replicate}
use Rattle.oxc_data_structures.specs.CodeBuffer.{Buffer, Appends}

pub indent_more : (n : ℕ) → replicate {A = ℕ} (2 * n) 32 ++ 32 ∷ 32 ∷ [] ≡ replicate (2 * (n + 1)) 32
indent_more n =
    let e : 2 * n + 2 ≡ 2 * (n + 1) = omega arith in
    replicate-append-replicate (2 * n) 2 32 ∙ ap (λ (k : ℕ). replicate k 32) e

-- of n levels, of which i are written, the next has room
pub next_level_fits : (b : Buffer) (i n : ℕ) → i < n → length b.bytes + 2 * n ≤ b.capacity + 2 * i → length b.bytes + 2 ≤ b.capacity
next_level_fits b i n h room = omega (arith, h, room)

-- and so have those after it
pub later_levels_fit : {old new : Buffer} (i n : ℕ) → Appends old new (32 ∷ 32 ∷ []) →
    length old.bytes + 2 * n ≤ old.capacity + 2 * i → length new.bytes + 2 * n ≤ new.capacity + 2 * (i + 1)
later_levels_fit {old} {new} i n a room =
    let e : length new.bytes ≡ length old.bytes + 2 = ap length a.bytes ∙ length-append old.bytes (32 ∷ 32 ∷ []) in
    omega (arith, e, a.settings.capacity, room)
