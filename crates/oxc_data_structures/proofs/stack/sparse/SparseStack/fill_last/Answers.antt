use Rattle.std.proofs.Common.{◌∙◌, arith}
use Rattle.oxc_data_structures.proofs.SparseStackLemmas.{FillsTop-kept, filled_in, kept_top, mark_read}
use Rattle.oxc_data_structures.proofs.stack.sparse.SparseStack.fill_last.Goals as goal

pub returns-then-index : goal.returns-then-index
returns-then-index g c =
    let len = c.len-last.ensures ∙ c.self.inside.has_values.ok.0 in
    let filled = mark_read _ _ _ _ len c.self.invariant.not_empty c.index.ensures c.if-index.true in
    let kept = kept_top _ _ c.self.invariant filled in
    rw (← c.self.view_is)
    (kept.0, FillsTop-kept _ _ _ kept.1)

pub invariant_of-self : goal.invariant_of-self
invariant_of-self g c =
    let len = c.len-last.ensures ∙ c.self.inside.has_values.ok.0 in
    let absent = mark_read _ _ _ _ len c.self.invariant.not_empty c.index.ensures c.if-index.false in
    rw (len, c.push_reserved.ensures.items)
    (filled_in _ _ _ c.self.invariant absent).stored

pub returns : goal.returns
returns g c =
    let len = c.len-last.ensures ∙ c.self.inside.has_values.ok.0 in
    let absent = mark_read _ _ _ _ len c.self.invariant.not_empty c.index.ensures c.if-index.false in
    let made = filled_in _ _ c.init.result c.self.invariant absent in
    rw (← c.self.view_is) (
      c.init.result,
      record {
        becomes = record {
          entries = rw (len, c.push_reserved.ensures.items) made.items;
          total_capacity = omega arith;
          filled_capacity = omega (arith, c.push_reserved.ensures.capacity);
        };
        value_is = rw made.was_absent c.init.ensures;
      },
    )
