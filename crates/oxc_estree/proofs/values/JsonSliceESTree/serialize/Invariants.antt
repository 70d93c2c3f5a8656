use Rattle.std.proofs.Common.{◌≡◌, map, drop, not}
use Rattle.oxc_estree.specs.Out.{flags, is_zero, wrote}
use Rattle.oxc_estree.specs.Open.{list_of}
use Rattle.oxc_estree.proofs.ListUnderWay.{IsListUnderWay}
use Rattle.oxc_estree.proofs.values.JsonSliceESTree.serialize.Given as goal

abbrev pub invariant-loop-element : goal.invariant-loop-element
invariant-loop-element g l =
    let old = g.S.Serializer.out l.fn.serializer in
    record {
      same : l.sequence.serializer.ghost_name ≡ l.initial.sequence.serializer.ghost_name;
      under_way : IsListUnderWay old
          (record { out = g.S.Serializer.out l.sequence.serializer.now; begun = not (is_zero l.sequence.len); count = l.sequence.len })
          (map (λ x. g.T.ESTree.meaning x (flags old)) (drop l.element-index l.element-items))
          (wrote old (list_of (map (λ x. g.T.ESTree.meaning x (flags old)) l.fn.self.0.now)));
    }
