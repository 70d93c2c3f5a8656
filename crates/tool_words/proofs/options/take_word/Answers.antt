use Rattle.std.proofs.Common.{Bool, bytes_eq, codes, None, Some, if◌then◌else◌, refl, sym, ap, ◌∙◌}
use Rattle.tool_words.proofs.Readings.{flag_taken, name_taken, not_taken, reserve_taken}
use Rattle.tool_words.specs.Words.{flags_in, flags_with}
use Rattle.tree_nodes.specs.Tree.{Text}
use Rattle.tool_words.proofs.options.take_word.Goals as goal

pub returns-then-reading-clause-taken : goal.returns-then-reading-clause-taken
returns-then-reading-clause-taken c = λ r so_far.
    name_taken c.args.layouts r c.args.word.now c.args.reading.now _ so_far c.if-reading.true c.in_ok-put.ensures refl refl

pub returns-then-eq-clause-taken : goal.returns-then-eq-clause-taken
returns-then-eq-clause-taken c = λ r so_far.
    reserve_taken c.args.layouts r c.args.word.now c.args.reading.now _ so_far c.if-reading.false
    (ap (λ (w : Text). bytes_eq w (codes "--reserve")) (sym c.as_str.ensures) ∙ sym c.eq.ensures ∙ c.if-eq.true) refl refl refl

pub returns-then-set-clause-taken : goal.returns-then-set-clause-taken
returns-then-set-clause-taken c = λ r so_far.
    flag_taken c.args.layouts r c.args.word.now c.args.reading.now _ so_far c.if-reading.false
    (ap (λ (w : Text). bytes_eq w (codes "--reserve")) (sym c.as_str.ensures) ∙ sym c.eq.ensures ∙ c.if-eq.false)
    (ap (flags_with c.args.layouts (flags_in c.args.reading.now.options c.args.reading.now.layout)) (sym c.as_str-2.ensures) ∙ c.set.ensures.flags
    ∙ ap (λ (b : Bool). if b then Some (flags_in c.set.new.options c.set.new.layout) else None) c.if-set.true)
    c.set.ensures.reserved c.if-reading.false

pub returns-else-set-clause-bad : goal.returns-else-set-clause-bad
returns-else-set-clause-bad c = λ _ r so_far.
    not_taken c.args.layouts r c.args.word.now c.args.reading.now so_far c.if-reading.false
    (ap (λ (w : Text). bytes_eq w (codes "--reserve")) (sym c.as_str.ensures) ∙ sym c.eq.ensures ∙ c.if-eq.false)
    (ap (flags_with c.args.layouts (flags_in c.args.reading.now.options c.args.reading.now.layout)) (sym c.as_str-2.ensures) ∙ c.set.ensures.flags
    ∙ ap (λ (b : Bool). if b then Some (flags_in c.set.new.options c.set.new.layout) else None) c.if-set.false)
