use Rattle.std.proofs.Common.{ℕ, List, ◌++◌, ap, ◌∙◌, string_bytes}
use Rattle.made_input.proofs.Pushed.{function_pushed}
use Rattle.made_input.proofs.input.push_function.Goals as goal
use Rattle.made_input.specs.Pieces.{function_text}

pub returns : goal.returns
returns c =
    function_pushed c.args.k (string_bytes c.args.text.now) c.comma_before.result.now c.format-digits.result.now
    (string_bytes c.push_str.new.self) (string_bytes c.push_str-2.new.self) (string_bytes c.push_str-3.new.self)
    (string_bytes c.push_str-4.new.self) (string_bytes c.push_str-5.new.self) (string_bytes c.push_str-6.new.self)
    c.format-digits.ensures.text c.in_ok-push_str.ensures.bytes c.in_ok-push_str-2.ensures.bytes c.in_ok-push_str-3.ensures.bytes
    c.in_ok-push_str-4.ensures.bytes c.in_ok-push_str-5.ensures.bytes c.in_ok-push_str-6.ensures.bytes
    ∙ ap (λ (x : List ℕ). string_bytes c.args.text.now ++ (x ++ function_text c.args.k)) c.comma_before.ensures
