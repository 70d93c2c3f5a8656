-- How many objects a value has, counted item by item and member by member.
use Rattle.std.proofs.Common.{◌≡◌, ℕ, ◌+◌, ◌<◌, ◌≤◌, ◌^◌, ◌||◌, min, Bool, true, false, List, [], length, drop, Option, Some, None, if◌then◌else◌, refl, sym, ap, ◌∙◌, arith}
use Rattle.std.proofs.lemmas.Bool.Decides.{nat_tests}
use Rattle.std.proofs.lemmas.List.{drop_all}
use Rattle.serde_json.specs.View.{items_view, members_view}
use Rattle.serde_json.specs.declared.value.Value.{Value}
use Rattle.serde_json.proofs.Views.{Entry, items_len-items_view}
use Rattle.tree_core.specs.Limits.{is_long_array, has_long_item, has_long_member, objects_in_items, objects_in_members}

-- the count, where no part is too long
abbrev pub counted : Bool → ℕ → Option ℕ
counted long n = if long then None else Some (min n 18446744073709551615)

counted-long : (more : Bool) (long : Bool) (n : ℕ) → long ≡ true → None ≡ counted (long || more) n
counted-long more long n e = rw e refl

-- at the end the sum is the count
counted-end : (long : Bool) (sum n : ℕ) → sum < 2 ^ 64 → counted long n ≡ counted false (sum + 0) → Some sum ≡ counted long n
counted-end long sum n h e = let same : sum ≡ min (sum + 0) 18446744073709551615 = omega arith in ap Some same ∙ sym e

pub long_array-length : (vs : List Value) (long : Bool) (n : ℕ) → 1073741824 ≤ length vs → None ≡ counted (is_long_array (items_view vs) || long) n
long_array-length vs long n h = counted-long long (is_long_array (items_view vs)) n (rw items_len-items_view (grind (arith, nat_tests)))

short_array-length : (vs : List Value) → length vs < 1073741824 → is_long_array (items_view vs) ≡ false
short_array-length vs h = rw items_len-items_view (grind (arith, nat_tests))

pub items_counted : (vs : List Value) (sum i : ℕ) → length vs < 1073741824 → length vs ≤ i → sum < 2 ^ 64
    → counted (has_long_item (items_view vs)) (objects_in_items (items_view vs)) ≡ counted (has_long_item (items_view (drop i vs))) (sum + objects_in_items (items_view (drop i vs)))
    → Some sum ≡ counted (is_long_array (items_view vs) || has_long_item (items_view vs)) (objects_in_items (items_view vs))
items_counted vs sum i short past fits e =
    let over = ap (λ left. counted (has_long_item (items_view left)) (sum + objects_in_items (items_view left))) (drop_all i vs past) in
    rw (short_array-length vs short) (counted-end _ sum _ fits (e ∙ over))

pub members_counted : (all left : List Entry) (sum : ℕ) → left ≡ [] → sum < 2 ^ 64
    → counted (has_long_member (members_view all)) (objects_in_members (members_view all)) ≡ counted (has_long_member (members_view left)) (sum + objects_in_members (members_view left))
    → Some sum ≡ counted (has_long_member (members_view all)) (objects_in_members (members_view all))
members_counted all left sum over fits e = counted-end _ sum _ fits (e ∙ ap (λ es. counted (has_long_member (members_view es)) (sum + objects_in_members (members_view es))) over)
