-- Texts that are pushed one after the other.
use Rattle.std.proofs.Common.{◌≡◌, ℕ, ◌≤◌, List, [], ◌++◌, false, decimal, sym, ap, ◌∙◌, append_assoc}
use Rattle.made_input.proofs.MadePieces.{text_in_pieces}
use Rattle.made_input.specs.Made.{made_text}
use Rattle.made_input.specs.Pieces.{after_functions, after_names, before_functions, before_name, between_names, function_text, functions_text}

six_pushed : (t c b d m a : List ℕ) → (((((t ++ c) ++ b) ++ d) ++ m) ++ d) ++ a ≡ t ++ (c ++ (b ++ (d ++ (m ++ (d ++ a)))))
six_pushed t c b d m a = simp append_assoc

-- a comma or nothing, and the pieces of the k-th function
pub function_pushed : (k : ℕ) (t c d t₁ t₂ t₃ t₄ t₅ t₆ : List ℕ) → d ≡ decimal k → t₁ ≡ t ++ c → t₂ ≡ t₁ ++ before_name → t₃ ≡ t₂ ++ d → t₄ ≡ t₃ ++ between_names
    → t₅ ≡ t₄ ++ d → t₆ ≡ t₅ ++ after_names → t₆ ≡ t ++ (c ++ function_text k)
unfolding function_text
function_pushed k t c d t₁ t₂ t₃ t₄ t₅ t₆ e e₁ e₂ e₃ e₄ e₅ e₆ =
    e₆ ∙ ap (λ (x : List ℕ). x ++ after_names) (e₅ ∙ ap (λ (x : List ℕ). x ++ d) (e₄ ∙ ap (λ (x : List ℕ). x ++ between_names) (e₃ ∙ ap (λ (x : List ℕ). x ++ d) (e₂ ∙ ap (λ (x : List ℕ). x ++ before_name) e₁))))
    ∙ six_pushed t c before_name d between_names after_names
    ∙ ap (λ (x : List ℕ). t ++ (c ++ (before_name ++ (x ++ (between_names ++ (x ++ after_names)))))) e

three_pushed : (b m a : List ℕ) → (([] ++ b) ++ m) ++ a ≡ b ++ (m ++ a)
three_pushed b m a = simp append_assoc

pub text_pushed : (n : ℕ) (t t₁ t₂ t₃ : List ℕ) → n ≤ 2000 → t ≡ [] → t₁ ≡ t ++ before_functions → t₂ ≡ t₁ ++ functions_text false 0 n → t₃ ≡ t₂ ++ after_functions → t₃ ≡ made_text n
text_pushed n t t₁ t₂ t₃ few e e₁ e₂ e₃ =
    e₃ ∙ ap (λ (x : List ℕ). x ++ after_functions) (e₂ ∙ ap (λ (x : List ℕ). x ++ functions_text false 0 n) (e₁ ∙ ap (λ (x : List ℕ). x ++ before_functions) e))
    ∙ three_pushed before_functions (functions_text false 0 n) after_functions ∙ sym (text_in_pieces n few)
