use Rattle.std.proofs.Common.{Some, arith, sym, ap, ◌∙◌, ◌++◌, ◌∷◌, [], ℕ, Option, List}
use Rattle.std.proofs.lemmas.List.FromFn.{map-range_with_len_more}
use Rattle.tree_symbols.proofs.ids.numbers.Goals as goal

pub loop-n-preserved : goal.loop-n-preserved
loop-n-preserved c =
    c.in_ok-push.ensures.items ∙ ap (λ (os : List (Option ℕ)). os ++ Some c.loop-n.n ∷ []) c.loop-n.invariant
    ∙ sym (map-range_with_len_more (λ (k : ℕ). Some k) 0 c.loop-n.n c.loop-n.n (omega arith))
