-- The table of ASCII characters against its rule, entry by entry.
use Rattle.std.proofs.Common.{◌≡◌, ℕ, ◌<◌, not, nat_eq, bit_and, get_or, true, refl}
use Rattle.std.proofs.lemmas.Bool.{agree_below_at, eqb-true}
use Rattle.syntax_lex.specs.Identifier.{ascii_id_flags, is_identifier_start, is_identifier_part}
use Rattle.syntax_lex.specs.declared.identifier.TheConstants.{ASCII_ID_FLAGS}

pub start_flag : (c : ℕ) → c < 128 → not (nat_eq (bit_and (get_or ASCII_ID_FLAGS.0 c 0) 1) 0) ≡ is_identifier_start c
start_flag c below =
    agree_below_at (λ i. not (nat_eq (bit_and (get_or ASCII_ID_FLAGS.0 i 0) 1) 0)) is_identifier_start 128 c refl below

pub part_flag : (c : ℕ) → c < 128 → not (nat_eq (bit_and (get_or ASCII_ID_FLAGS.0 c 0) 2) 0) ≡ is_identifier_part c
part_flag c below =
    agree_below_at (λ i. not (nat_eq (bit_and (get_or ASCII_ID_FLAGS.0 i 0) 2) 0)) is_identifier_part 128 c refl below

pub flags_by_rule : (c : ℕ) → c < 128 → get_or ASCII_ID_FLAGS.0 c 0 ≡ ascii_id_flags c
flags_by_rule c below =
    eqb-true _ _ (agree_below_at (λ i. nat_eq (get_or ASCII_ID_FLAGS.0 i 0) (ascii_id_flags i)) (λ _. true) 128 c refl below)
