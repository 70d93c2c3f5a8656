-- Values that a test tells apart are different.
use Rattle.std.specs.Prelude.{◌≡◌, ℕ, Bool, true, false, List, [], ◌∷◌, ◌++◌, Option, Some, None, nat_eq, bytes_eq, IsTrue}
use Rattle.std.proofs.Common.{sym, ap, ◌∙◌}
use Rattle.std.proofs.lemmas.Bool.{true≢false}
use Rattle.std.specs.Cmp.Lexicographic.{pointwise}
use Rattle.tree_nodes.specs.Tree.{Parts, Text, atom, child, done, many, whole}

pub apart : {A : Type 0} (same : A → A → Bool) (x y : A) → same y y ≡ true → same x y ≡ false → ¬ (x ≡ y)
apart same x y is_same differ p = true≢false (sym is_same ∙ sym (ap (λ z. same z y) p) ∙ differ)

pub untrue : (b : Bool) → b ≡ false → ¬ IsTrue b
untrue b f t = true≢false (sym t ∙ f)

abbrev pub same_option : Option ℕ → Option ℕ → Bool
same_option None None = true
same_option (Some m) (Some n) = nat_eq m n
same_option _ _ = false

abbrev pub same_flag : Bool → Bool → Bool
same_flag true b = b
same_flag false true = false
same_flag false false = true

abbrev pub same_options : List (Option ℕ) → List (Option ℕ) → Bool
same_options = pointwise same_option

abbrev pub same_texts : List Text → List Text → Bool
same_texts = pointwise bytes_eq

abbrev pub same_flags : List Bool → List Bool → Bool
same_flags = pointwise same_flag

-- the same of what is taken from them
pub apart_by : {A B : Type 0} (f : A → B) (same : B → B → Bool) (x y : A) → same (f y) (f y) ≡ true → same (f x) (f y) ≡ false → ¬ (x ≡ y)
apart_by f same x y is_same differ p = apart same (f x) (f y) is_same differ (ap f p)

-- the whole numbers in a run
abbrev pub wholes : Parts → List ℕ
wholes done = []
wholes (atom (whole n) more) = n ∷ wholes more
wholes (atom a more) = wholes more
wholes (child k s e fields more) = wholes fields ++ wholes more
wholes (many items more) = wholes items ++ wholes more
