-- What a node holds, its own before what lies below it: its name, its mark.
use Rattle.std.proofs.Common.{◌≡◌, ℕ, suc, Bool, true, false, List, ◌∷◌, length, if◌then◌else◌, ap}
use Rattle.tree_nodes.specs.Tree.{Parts}

abbrev pub with_own : {A : Type 0} → (Parts → A) → (Parts → List A) → Bool → Parts → List A
with_own own below has fields = if has then own fields ∷ below fields else below fields

abbrev pub one_more : Bool → ℕ → ℕ
one_more b n = if b then suc n else n

pub length_own : {A : Type 0} (own : Parts → A) (below : Parts → List A) (has : Bool) (fields : Parts) (n : ℕ)
    → length (below fields) ≡ n → length (with_own own below has fields) ≡ one_more has n
length_own own below true fields n e = ap suc e
length_own own below false fields n e = e
