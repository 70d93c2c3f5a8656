-- The two members of an object that has exactly these, and what they hold.
use Rattle.std.proofs.Common.{◌≡◌, ℕ, Bool, false, List, Option, Some, None, option_and_then, option_map, length, nat_eq, codes, if◌then◌else◌, refl, sym, ap, ◌∙◌}
use Rattle.mangle_tool.proofs.WrappedWithin.{member_within}
use Rattle.name_map.specs.Reading.{map_of}
use Rattle.serde_json.proofs.Views.{Entry, members_len-members_view}
use Rattle.serde_json.specs.Data.{Data, null, boolean, number, string, array, object, Members}
use Rattle.serde_json.specs.Events.{members_len}
use Rattle.serde_json.specs.Find.{get_member}
use Rattle.serde_json.specs.View.{members_view}
use Rattle.tool_commands.specs.Mapped.{mapped, mapped_in}
use Rattle.tool_commands.specs.Pairs.{Pair, both, pair, pair_among, pair_in}
use Rattle.tree_core.specs.JsonOf.{json_of}
use Rattle.tree_core.specs.Limits.{is_too_large}
use Rattle.tree_core.specs.Reading.{tree_of}
use Rattle.tree_nodes.proofs.Cases.{if_some, map_some, none_some, then_some}
use Rattle.tree_nodes.specs.Tree.{Text}

-- ---- both of two options

pub both_there : {A B C : Type 0} (f : A → B → C) (o : Option A) (p : Option B) (a : A) (b : B) → o ≡ Some a → p ≡ Some b → both f o p ≡ Some (f a b)
both_there f o p a b e h = ap (λ x. both f x p) e ∙ ap (option_map (f a)) h

pub first_missing : {A B C : Type 0} (f : A → B → C) (o : Option A) (p : Option B) → o ≡ None → both f o p ≡ None
first_missing f o p e = ap (λ x. both f x p) e

pub second_missing : {A B C : Type 0} (f : A → B → C) (o : Option A) (p : Option B) → p ≡ None → both f o p ≡ None
second_missing f None p h = refl
second_missing f (Some a) p h = ap (option_map (f a)) h

-- ---- the members of a pair

module _ (one other : Text) where
  pub pair_counted : (es : List Entry) (n : ℕ) → n ≡ length es → n ≡ 2 → pair_among one other (members_view es) ≡ both pair (get_member one (members_view es)) (get_member other (members_view es))
  pair_counted es n e two =
      ap (λ (k : ℕ). if nat_eq k 2 then both pair (get_member one (members_view es)) (get_member other (members_view es)) else None) (members_len-members_view es ∙ sym e ∙ two)

  pub other_count : (es : List Entry) (n : ℕ) → n ≡ length es → nat_eq n 2 ≡ false → pair_among one other (members_view es) ≡ None
  other_count es n e counted =
      ap (λ (k : ℕ). if nat_eq k 2 then both pair (get_member one (members_view es)) (get_member other (members_view es)) else None) (members_len-members_view es ∙ sym e)
      ∙ ap (λ (b : Bool). if b then both pair (get_member one (members_view es)) (get_member other (members_view es)) else None) counted

  -- ---- what the value of a pair holds

  in_members : (ms : Members) (n m : Data) → pair_among one other ms ≡ Some (pair n m) → is_too_large (object ms) 0 ≡ false → (is_too_large n 0 ≡ false) × (is_too_large m 0 ≡ false)
  in_members ms n m e whole =
      let two = if_some (nat_eq (members_len ms) 2) (both pair (get_member one ms) (get_member other ms)) (pair n m) e in
      let first = then_some (λ x. option_map (pair x) (get_member other ms)) (get_member one ms) (pair n m) two.1 in
      let second = map_some (pair first.0) (get_member other ms) (pair n m) first.2 in
      let same : first.0 ≡ n = ap (λ (p : Pair). p.first) second.2 in
      let alike : second.0 ≡ m = ap (λ (p : Pair). p.second) second.2 in
      (member_within one ms n 0 (first.1 ∙ ap Some same) whole, member_within other ms m 0 (second.1 ∙ ap Some alike) whole)

  pub pair_within : (d n m : Data) → pair_in one other d ≡ Some (pair n m) → is_too_large d 0 ≡ false → (is_too_large n 0 ≡ false) × (is_too_large m 0 ≡ false)
  pair_within null n m e whole = none_some (pair n m) e
  pair_within (boolean b) n m e whole = none_some (pair n m) e
  pair_within (number k) n m e whole = none_some (pair n m) e
  pair_within (string s) n m e whole = none_some (pair n m) e
  pair_within (array ds) n m e whole = none_some (pair n m) e
  pair_within (object ms) n m e whole = in_members ms n m e whole

-- ---- a program and a map

pub mapped_told : (d n m : Data) → pair_in (codes "node") (codes "map") d ≡ Some (pair n m) → mapped_in d ≡ both mapped (tree_of (json_of n)) (map_of (json_of m))
mapped_told d n m e = ap (option_and_then (λ (p : Pair). both mapped (tree_of (json_of p.first)) (map_of (json_of p.second)))) e

pub not_mapped : (d : Data) → pair_in (codes "node") (codes "map") d ≡ None → mapped_in d ≡ None
not_mapped d e = ap (option_and_then (λ (p : Pair). both mapped (tree_of (json_of p.first)) (map_of (json_of p.second)))) e
