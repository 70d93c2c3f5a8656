use Rattle.std.proofs.Common.{rules, refl, ◌∙◌}
use Rattle.oxc_estree.specs.Out.{flags}
use Rattle.oxc_estree.proofs.Loops.{map_drop-next, map_drop-end}
use Rattle.oxc_estree.proofs.ElementsUnderWay.{element_next, element_cut_short, elements_begin}
use Rattle.oxc_estree.proofs.concat.JsonSliceConcatElement.push_to_sequence.Goals as goal

pub loop-element-init : goal.loop-element-init
loop-element-init g c = record { same = refl; under_way = elements_begin _ _ }

pub returns-in_err-serialize_element-clause-refused :
    goal.returns-in_err-serialize_element-clause-refused
returns-in_err-serialize_element-clause-refused g c =
    let old = g.S.SequenceSerializer.state c.args.seq.now in
    let next = map_drop-next (λ x. g.T.ESTree.meaning x (flags old.out)) c.args.self.now.0.now c.loop-element.element-index c.element-item.result c.loop-element-test.true c.element-item.is in
    let h = element_cut_short (g.T.ESTree.meaning c.element-item.result) (rw next at c.loop-element.invariant.under_way) c.in_err-serialize_element.ensures.refused in
    search rules

pub loop-element-preserved : goal.loop-element-preserved
loop-element-preserved g c =
    let old = g.S.SequenceSerializer.state c.args.seq.now in
    let next = map_drop-next (λ x. g.T.ESTree.meaning x (flags old.out)) c.args.self.now.0.now c.loop-element.element-index c.element-item.result c.loop-element-test.true c.element-item.is in
    record {
      same = c.in_ok-serialize_element.ensures.same_reference ∙ c.loop-element.invariant.same;
      under_way = element_next (g.T.ESTree.meaning c.element-item.result) (rw next at c.loop-element.invariant.under_way) c.in_ok-serialize_element.ensures.ok;
    }

pub returns-clause-ok : goal.returns-clause-ok
returns-clause-ok g c =
    let old = g.S.SequenceSerializer.state c.args.seq.now in
    let none = map_drop-end (λ x. g.T.ESTree.meaning x (flags old.out)) c.args.self.now.0.now c.loop-element.element-index c.loop-element-test.false in
    let u = rw none at c.loop-element.invariant.under_way in
    u.ends
