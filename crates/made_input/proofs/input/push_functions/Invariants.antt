use Rattle.std.proofs.Common.{◌≡◌, ◌-◌, ◌++◌, false, nat_lt, string_bytes}
use Rattle.made_input.specs.Pieces.{functions_text}
use Rattle.made_input.proofs.input.push_functions.Given as goal

abbrev pub invariant-loop-k : goal.invariant-loop-k
invariant-loop-k l =
    string_bytes l.text ++ functions_text (nat_lt 0 l.k) l.k (l.count - l.k) ≡ string_bytes l.fn.text ++ functions_text false 0 l.count
