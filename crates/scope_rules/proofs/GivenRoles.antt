-- The fields that give a role which passes a test, where the test passes none but parameters and function-names.
use Rattle.std.specs.Prelude.{◌≡◌, ◌⊎◌, ℕ, zero, suc, Bool, true, false, cond}
use Rattle.std.proofs.Common.{refl, inl, inr}
use Rattle.std.proofs.lemmas.Bool.{both_ways}
use Rattle.tree_nodes.specs.Roles.{declared_by, role_at, written_by}
use Rattle.tree_nodes.specs.Tree.{Parts, flag_of, is_empty, part, word_of}
use Rattle.tree_nodes.specs.declared.table.Declared.TheVariants.{Const, Function, Let, Var}
use Rattle.tree_nodes.specs.declared.table.Mode.{Mode}
use Rattle.tree_nodes.specs.declared.table.Mode.TheVariants.{ByKind, ByOperator, Gives, Leaves, NamesExpression, NamesFunction, Same, UnlessComputed, UnlessOptional, UnlessSource}
use Rattle.tree_nodes.specs.declared.table.Role.{Role}
use Rattle.tree_nodes.specs.declared.table.Role.TheVariants.{Called, Declares, Plain, Read, ReadWrite, Write}
use Rattle.scope_rules.specs.Open.{all_open}

pub no_role : {A : Type 0} → false ≡ true → A
no_role h = absurd (both_ways false refl h)

-- a field that hands on its node's own role
abbrev pub hands_on : Mode → Bool
hands_on Same = true
hands_on Leaves = true
hands_on _ = false

-- a field that may give a role which passes the test, whatever its node's own is
abbrev pub gives : (Role → Bool) → Mode → Bool
gives test (Gives r) = test r
gives test (UnlessComputed i r) = test r
gives test (NamesExpression i j) = true
gives test _ = false

-- the test passes no reference, and nothing that a declaration or a function's name in it declares
pub record IsNarrow (test : Role → Bool) : Type 0 where
  pub plain : test Plain ≡ false
  pub read : test Read ≡ false
  pub write : test Write ≡ false
  pub read_write : test ReadWrite ≡ false
  pub called : test Called ≡ false
  pub variable : test (Declares Var) ≡ false
  pub lexical : test (Declares Let) ≡ false
  pub constant : test (Declares Const) ≡ false
  pub function : (special : Bool) → test (Declares (Function special)) ≡ false

module _ (test : Role → Bool) (narrow : IsNarrow test) where
  leaf_passes : (r : Role) → test (elim r [ ReadWrite ↦ Write | r ↦ r ]) ≡ true → test r ≡ true
  leaf_passes ReadWrite h = absurd (both_ways _ narrow.write h)
  leaf_passes Plain h = h
  leaf_passes Read h = h
  leaf_passes Write h = h
  leaf_passes Called h = h
  leaf_passes (Declares d) h = h
  leaf_passes _ h = h

  other_passes : (b : Bool) (r q : Role) → test r ≡ false → test (cond b r q) ≡ true → test q ≡ true
  other_passes true r q n h = absurd (both_ways _ n h)
  other_passes false r q n h = h

  written_fails : (n : ℕ) → test (written_by n) ≡ false
  unfolding all_open
  written_fails zero = narrow.write
  written_fails (suc n) = narrow.read_write

  declared_fails : (n : ℕ) → test (Declares (declared_by n)) ≡ false
  unfolding all_open
  declared_fails zero = narrow.variable
  declared_fails (suc zero) = narrow.lexical
  declared_fails (suc (suc n)) = narrow.constant

  pub given_by_field : (m : Mode) (own : Role) (fields : Parts) → test (role_at m own fields) ≡ true → (gives test m ≡ true) ⊎ ((hands_on m ≡ true) × (test own ≡ true))
  unfolding all_open
  given_by_field (Gives r) own fields h = inl h
  given_by_field Same own fields h = inr (refl, h)
  given_by_field Leaves own fields h = inr (refl, leaf_passes own h)
  given_by_field (UnlessComputed i r) own fields h = inl (other_passes (flag_of (part fields i)) Read r narrow.read h)
  given_by_field (ByKind i) own fields h = absurd (both_ways _ (declared_fails (word_of (part fields i))) h)
  given_by_field (UnlessOptional i) own fields h = absurd (both_ways _ narrow.called (other_passes (flag_of (part fields i)) Read Called narrow.read h))
  given_by_field (ByOperator i) own fields h = absurd (both_ways _ (written_fails (word_of (part fields i))) h)
  given_by_field (UnlessSource i) own fields h = absurd (both_ways _ narrow.plain (other_passes (is_empty (part fields i)) Read Plain narrow.read h))
  given_by_field (NamesFunction i j) own fields h = absurd (both_ways _ (narrow.function _) h)
  given_by_field (NamesExpression i j) own fields h = inl refl
