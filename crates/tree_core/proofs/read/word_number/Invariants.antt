use Rattle.std.proofs.Common.{◌≡◌, map, drop, bytes_eq}
use Rattle.std.specs.List.{position_from}
use Rattle.tree_core.proofs.read.word_number.Given as goal

-- no word that the loop has passed is the text
abbrev pub invariant-loop-i : goal.invariant-loop-i
invariant-loop-i l =
    position_from (λ x. bytes_eq x l.text) 0 (map (λ w. w.now) l.words) ≡ position_from (λ x. bytes_eq x l.text) l.i (map (λ w. w.now) (drop l.i l.words))
