-- What holds of each kind: kinds of one number are one kind, and a test that passes on the list of all kinds passes on each.
use Rattle.std.proofs.Common.{◌≡◌, ℕ, zero, suc, get_or, List, [], ◌∷◌, Bool, true, nat_eq, sym, ap, ◌∙◌, subst}
use Rattle.std.specs.List.{list_all}
use Rattle.std.proofs.lemmas.Bool.{and_parts, eqb-true}
use Rattle.tree_nodes.specs.Kinds.{all_kinds, kind_at, kind_at-kind_number, kind_number}
use Rattle.tree_nodes.specs.declared.kind.Kind.{Kind}
use Rattle.tree_nodes.specs.declared.kind.Kind.TheVariants.{Program}

pub kind_told : (k l : Kind) → nat_eq (kind_number k) (kind_number l) ≡ true → k ≡ l
kind_told k l h = sym (kind_at-kind_number k) ∙ ap kind_at (eqb-true (kind_number k) (kind_number l) h) ∙ kind_at-kind_number l

all_at : (test : Kind → Bool) (ks : List Kind) (k : Kind) (i : ℕ) → list_all test ks ≡ true → test k ≡ true → test (get_or ks i k) ≡ true
all_at test [] k i all own = own
all_at test (l ∷ ks) k zero all own = (and_parts (test l) (list_all test ks) all).0
all_at test (l ∷ ks) k (suc i) all own = all_at test ks k i (and_parts (test l) (list_all test ks) all).1 own

-- the first premise is found by computing over the kinds, as `refl`
pub of_each : (test : Kind → Bool) → list_all test all_kinds ≡ true → test Program ≡ true → (k : Kind) → test k ≡ true
of_each test all own k = subst (λ l. test l ≡ true) (kind_at-kind_number k) (all_at test all_kinds Program (kind_number k) all own)
