use Rattle.std.proofs.Common.{◌≡◌, ◌+◌, true, false, nat_le, length, sym, ap, ◌∙◌, subst, arith, of_calls, rules}
use Rattle.std.proofs.lemmas.List.Sorted.{IsPartitionPoint-from_clause, IsPartitionedBy-leb}
use Rattle.std.specs.List.Sorted.{IsNonDecreasingBy, IsPartitionPoint}
use Rattle.oxc_data_structures.proofs.RopeLines.{line_of-IsInLine, line_starts-IsNonDecreasing, lines-found}
use Rattle.oxc_data_structures.specs.Rope.{line_of, line_starts}
use Rattle.oxc_data_structures.proofs.rope.Rope.line_at.Goals as goal

found : (c : goal.After-partition_point-started) → c.partition_point-started.result ≡ line_of c.args.self.now c.args.offset + 1
found c =
    let offset = c.args.offset in
    let starts = c.as_slice.result.now in
    let same : starts ≡ line_starts c.args.self.now = c.as_slice.ensures.value ∙ c.self.invariant.0 ∙ ap line_starts c.self.view_is in
    let rising : IsNonDecreasingBy (λ x. x) starts = subst (IsNonDecreasingBy (λ x. x)) (sym same) (line_starts-IsNonDecreasing c.args.self.now) in
    let point = IsPartitionPoint-from_clause (λ y. nat_le y offset) starts _ c.partition_point-started.ensures.partitioned
    (IsPartitionedBy-leb (λ x. x) starts offset rising) (λ a r q k. search (rules, of_calls)) in
    lines-found c.args.self.now offset _ (omega (arith, c.partition_point-started.ensures.bound, ap length same))
    (subst (λ xs. IsPartitionPoint (λ y. nat_le y offset ≡ true) (λ y. nat_le y offset ≡ false) xs c.partition_point-started.result) same point)

pub overflow_sub-result : goal.overflow_sub-result
overflow_sub-result c = omega (arith, found c)

pub returns-clause-line : goal.returns-clause-line
returns-clause-line c = omega (arith, found c)

pub returns-clause-in_range : goal.returns-clause-in_range
returns-clause-in_range c = omega (arith, found c, (line_of-IsInLine c.args.self.now c.args.offset).line_in_range)
