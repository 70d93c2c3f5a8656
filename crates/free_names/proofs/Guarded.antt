-- A guard's names, as its set keeps them.
use Rattle.std.specs.Prelude.{◌≡◌, ℕ, ◌+◌, Bool, true, false, cond, not, ◌||◌, if◌then◌else◌, List, [], ◌∷◌, length, map, string_bytes, String}
use Rattle.std.specs.List.{list_any}
use Rattle.std.specs.HashSet.{HashSet, UpdatesBy}
use Rattle.std.specs.Str.{bytes_eq}
use Rattle.std.specs.String.{string_eq}
use Rattle.std.proofs.Common.{refl, sym, ap, ◌∙◌}
use Rattle.std.proofs.lemmas.Bool.{both_ways}
use Rattle.std.proofs.lemmas.List.{length-map}
use Rattle.std.proofs.lemmas.Map.Text.{hash_set_updates_text}
use Rattle.free_names.specs.Guard.{HasAlso}
use Rattle.name_rules.specs.Open.{all_open}
use Rattle.tree_nodes.specs.Tree.{Text}
use Rattle.scope_rules.specs.PrivateNames.{is_among}

-- a name is among the names exactly if the set has its text
pub among_is : {Y : Type 0} (keys : List (String Y)) (x : Text) → is_among (map string_bytes keys) x ≡ list_any (λ k. bytes_eq x (string_bytes k)) keys
unfolding all_open
among_is [] x = refl
among_is (k ∷ keys) x = ap (λ b. bytes_eq x (string_bytes k) || b) (among_is keys x)

cond_or : (b c : Bool) → cond b true c ≡ (b || c)
cond_or true c = refl
cond_or false c = refl

-- what an insertion into the set does to the names
module _ {Y S : Type 0} (s n : HashSet (String Y) S) (key : String Y) (x : Text) (old : List Text) (is : string_bytes key ≡ x) (seen : map string_bytes s.keys ≡ old) where
  pub among_old : (y : Text) → is_among old y ≡ list_any (λ k. bytes_eq y (string_bytes k)) s.keys
  among_old y = sym (ap (λ (names : List Text). is_among names y) seen) ∙ among_is s.keys y

  pub also : UpdatesBy string_eq (λ k. bytes_eq (string_bytes key) (string_bytes k)) s n true → HasAlso old x (map string_bytes n.keys)
  unfolding all_open
  also h y =
      among_is n.keys y
      ∙ hash_set_updates_text (string_bytes key) s n true h y
      ∙ cond_or (bytes_eq (string_bytes key) y) (list_any (λ k. bytes_eq y (string_bytes k)) s.keys)
      ∙ ap (λ (t : Text). bytes_eq t y || list_any (λ k. bytes_eq y (string_bytes k)) s.keys) is
      ∙ ap (λ (b : Bool). bytes_eq x y || b) (sym (among_old y))

  pub once : (added : Bool) → added ≡ not (list_any (λ k. bytes_eq (string_bytes key) (string_bytes k)) s.keys) → length n.keys ≡ length s.keys + (if added then 1 else 0)
      → length (map string_bytes n.keys) ≡ length old + (if is_among old x then 0 else 1)
  once added a l =
      length-map n.keys string_bytes
      ∙ l
      ∙ ap (λ (k : ℕ). length s.keys + k) (go added (is_among old x) (a ∙ ap (λ (t : Text). not (list_any (λ k. bytes_eq t (string_bytes k)) s.keys)) is ∙ ap not (sym (among_old x))))
      ∙ ap (λ (k : ℕ). k + (if is_among old x then 0 else 1)) (sym (length-map s.keys string_bytes) ∙ ap length seen)
    where
      go : (b c : Bool) → b ≡ not c → ◌≡◌ {A = ℕ} (if b then 1 else 0) (if c then 0 else 1)
      go true true e = absurd (both_ways _ e refl)
      go true false e = refl
      go false true e = refl
      go false false e = absurd (both_ways _ refl e)
