use Rattle.std.proofs.Common.{◌≡◌, map, drop}
use Rattle.oxc_estree.specs.Out.{flags}
use Rattle.oxc_estree.specs.Open.{add_elements}
use Rattle.oxc_estree.proofs.ElementsUnderWay.{AreElementsUnderWay}
use Rattle.oxc_estree.proofs.concat.JsonSliceConcatElement.push_to_sequence.Given as goal

abbrev pub invariant-loop-element : goal.invariant-loop-element
invariant-loop-element g l =
    let old = g.S.SequenceSerializer.state l.fn.seq in
    record {
      same : g.S.SequenceSerializer.place l.seq ≡ g.S.SequenceSerializer.place l.fn.seq;
      under_way : AreElementsUnderWay old (g.S.SequenceSerializer.state l.seq)
          (map (λ x. g.T.ESTree.meaning x (flags old.out)) (drop l.element-index l.element-items))
          (add_elements old (map (λ x. g.T.ESTree.meaning x (flags old.out)) l.fn.self.0.now));
    }
