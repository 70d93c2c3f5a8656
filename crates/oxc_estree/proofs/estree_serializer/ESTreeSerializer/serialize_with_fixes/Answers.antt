use Rattle.std.proofs.Common.{◌∙◌, refl}
use Rattle.oxc_estree.proofs.Envelopes.{envelope_written}
use Rattle.oxc_estree.proofs.estree_serializer.ESTreeSerializer.serialize_with_fixes.Goals as goal

pub returns : goal.returns
returns g c =
    let w = envelope_written g.F.Formatter.IS_COMPACT _ _ _ (g.T.ESTree.meaning c.args.node.now) c.requires.records c.requires.nothing_written (rw c.in_ok-print_str.ensures.ok.bytes refl) c.in_ok-serialize.ensures.ok in
    c.into_string.ensures ∙ c.in_ok-print_fixes.ensures.bytes ∙ w
