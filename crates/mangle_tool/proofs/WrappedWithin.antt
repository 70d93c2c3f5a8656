-- What is wrapped in a value is no larger than it.
use Rattle.std.proofs.Common.{◌≡◌, ℕ, ◌+◌, ◌≤◌, ◌^◌, ◌&&◌, ◌||◌, Bool, false, List, length, Option, Some, is_some, option_map, option_and_then, Bor, string_bytes, codes, Ordering, Less, Equal, Greater, nat_cmp, nat_eq, nat_le, sym, ap, ◌∙◌, subst, arith}
use Rattle.std.specs.Cmp.Lexicographic.{slice_cmp}
use Rattle.std.specs.BTreeMap.{is_at}
use Rattle.std.specs.Map.{lookup}
use Rattle.std.specs.Ordering.{match_ordering}
use Rattle.std.proofs.lemmas.Bool.{or_parts}
use Rattle.std.proofs.lemmas.Bool.Decides.{nat_tests}
use Rattle.serde_json.specs.Data.{Data, null, boolean, number, string, array, object, Members, no_members, member}
use Rattle.serde_json.specs.Find.{get_member, as_array}
use Rattle.serde_json.specs.View.{view, members_view}
use Rattle.serde_json.specs.declared.value.Value.{Value}
use Rattle.serde_json.proofs.Views.{Entry, view_of_ref, view-lookup, members_len-members_view}
use Rattle.tree_nodes.proofs.Cases.{if_some, none_some}
use Rattle.tree_core.specs.Limits.{objects_in, objects_in_members, has_long_part, has_long_member, is_long_text, is_too_large}
use Rattle.mangle_tool.specs.Input.{is_envelope, wrapped_program}

-- the smaller value has no more objects, and no long part where the members have none
record IsWithin (d : Data) (ms : Members) : Type 0 where
  objects : objects_in d ≤ objects_in_members ms
  short : has_long_member ms ≡ false → has_long_part d ≡ false

none_of_three : (a b c : Bool) → (a || b || c) ≡ false → (b ≡ false) × (c ≡ false)
none_of_three a b c e = let first = or_parts (a || b) c e in ((or_parts a b first.0).1, first.1)

first_within : (k : List ℕ) (d : Data) (ms : Members) → IsWithin d (member k d ms)
first_within k d ms = record {
  objects = omega arith;
  short = λ e. (none_of_three (is_long_text k) _ _ e).0;
}

later_within : (k : List ℕ) (e d : Data) (ms : Members) → IsWithin d ms → IsWithin d (member k e ms)
later_within k e d ms w = record {
  objects = let less = w.objects in omega (arith, less);
  short = λ none. w.short (none_of_three (is_long_text k) _ _ none).1;
}

found_at_within : (o : Ordering) (k : List ℕ) (e d : Data) (ms : Members) (r : Option Data)
    → (r ≡ Some d → IsWithin d ms) → match_ordering o r (Some e) r ≡ Some d → IsWithin d (member k e ms)
found_at_within Less k e d ms r below h = later_within k e d ms (below h)
found_at_within Equal k e d ms r below h = let same : e ≡ d = cc in subst (λ x. IsWithin x (member k e ms)) same (first_within k e ms)
found_at_within Greater k e d ms r below h = later_within k e d ms (below h)

found_within : (key : List ℕ) (ms : Members) (d : Data) → get_member key ms ≡ Some d → IsWithin d ms
found_within key no_members d h = none_some d h
found_within key (member k e ms) d h = found_at_within (slice_cmp nat_cmp key k) k e d ms _ (found_within key ms d) h

-- ---- a node that is wrapped

within_object : (ms : Members) (node : Data) (more : ℕ) → IsWithin node ms → is_too_large (object ms) more ≡ false → is_too_large node more ≡ false
unfolding is_too_large
within_object ms node more w h =
    let both = or_parts (nat_le (2 ^ 30) (objects_in_members ms + 1 + more)) (has_long_member ms) h in
    let few : nat_le (2 ^ 30) (objects_in node + more) ≡ false = (let whole = both.0 in let less = w.objects in grind (arith, nat_tests, whole, less)) in
    rw few (w.short both.1)

-- a member of an object
pub member_within : (key : List ℕ) (ms : Members) (node : Data) (more : ℕ) → get_member key ms ≡ Some node → is_too_large (object ms) more ≡ false → is_too_large node more ≡ false
member_within key ms node more h whole = within_object ms node more (found_within key ms node h) whole

pub wrapped_within : (d node : Data) (more : ℕ) → wrapped_program d ≡ Some node → is_too_large d more ≡ false → is_too_large node more ≡ false
wrapped_within null node more h whole = none_some node h
wrapped_within (boolean b) node more h whole = none_some node h
wrapped_within (number n) node more h whole = none_some node h
wrapped_within (string s) node more h whole = none_some node h
wrapped_within (array ds) node more h whole = none_some node h
wrapped_within (object ms) node more h whole =
    within_object ms node more (found_within (codes "node") ms node (if_some (is_envelope ms) (get_member (codes "node") ms) node h).1) whole

-- ---- the members of an envelope

pub member_found : (key : List ℕ) (es : List Entry) (found : Option (Bor Value))
    → option_map (λ v. v.now) found ≡ lookup (is_at (λ k. slice_cmp nat_cmp key (string_bytes k))) es
    → option_map (λ v. view v.now) found ≡ get_member key (members_view es)
member_found key es found e = view_of_ref found ∙ ap (option_map view) e ∙ view-lookup key es

pub envelope_counted : (es : List Entry) (n : ℕ) (two : Bool) → n ≡ length es → nat_eq n 2 ≡ two
    → is_envelope (members_view es) ≡ (two && is_some (option_and_then as_array (get_member (codes "fixes") (members_view es))))
envelope_counted es n two e h =
    ap (λ b. b && is_some (option_and_then as_array (get_member (codes "fixes") (members_view es))))
    (ap (λ k. nat_eq k 2) (members_len-members_view es ∙ sym e) ∙ h)
