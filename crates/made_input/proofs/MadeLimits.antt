-- What is read from the made text is within the limits.
use Rattle.std.proofs.Common.{◌≡◌, ℕ, zero, suc, ◌+◌, ◌*◌, ◌^◌, ◌<◌, ◌≤◌, List, length, Bool, false, ◌||◌, nat_le, refl, ap, ◌∙◌, arith}
use Rattle.std.proofs.lemmas.Bool.{lt-leb}
use Rattle.serde_json.specs.Data.{object}
use Rattle.serde_json.specs.Events.{items_len}
use Rattle.tree_core.specs.Limits.{has_long_item, has_long_part, is_long_text, is_too_large, objects_in, objects_in_items}
use Rattle.made_input.proofs.MadeNames.{name_short}
use Rattle.made_input.proofs.MadeReading.{function_data, functions_data, program_data}
use Rattle.made_input.specs.Made.{function_name}

functions_counted : (k n : ℕ) → objects_in_items (functions_data k n) ≡ 8 * n
functions_counted k zero = refl
functions_counted k (suc n) = omega (arith, functions_counted (suc k) n)

functions_len : (k n : ℕ) → items_len (functions_data k n) ≡ n
functions_len k zero = refl
functions_len k (suc n) = omega (arith, functions_len (suc k) n)

function_short : (x : List ℕ) → is_long_text x ≡ false → has_long_part (function_data x) ≡ false
function_short x h = rw h refl

functions_short : (k n : ℕ) → k + n ≤ 2000 → has_long_item (functions_data k n) ≡ false
functions_short k zero h = refl
functions_short k (suc n) h =
    rw (function_short (function_name k) (lt-leb (2 ^ 32) (length (function_name k)) (name_short k (omega (arith, h)))))
    (functions_short (suc k) n (omega (arith, h)))

few_objects : (n : ℕ) → n ≤ 2000 → nat_le (2 ^ 30) (objects_in (object (program_data (functions_data 0 n))) + 0) ≡ false
few_objects n h =
    let few : objects_in (object (program_data (functions_data 0 n))) + 0 < 2 ^ 30 = omega (arith, h, functions_counted 0 n) in
    lt-leb (2 ^ 30) (objects_in (object (program_data (functions_data 0 n))) + 0) few

short_parts : (n : ℕ) → n ≤ 2000 → has_long_part (object (program_data (functions_data 0 n))) ≡ false
short_parts n h =
    let few : items_len (functions_data 0 n) < 2 ^ 30 = omega (arith, h, functions_len 0 n) in
    rw (lt-leb (2 ^ 30) (items_len (functions_data 0 n)) few, functions_short 0 n (omega (arith, h))) refl

pub text_within : (n : ℕ) → n ≤ 2000 → is_too_large (object (program_data (functions_data 0 n))) 0 ≡ false
unfolding is_too_large
text_within n h = ap (λ (b : Bool). b || has_long_part (object (program_data (functions_data 0 n)))) (few_objects n h) ∙ short_parts n h
