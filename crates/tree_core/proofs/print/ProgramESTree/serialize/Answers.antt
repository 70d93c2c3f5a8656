use Rattle.std.proofs.Common.{◌≡◌, ap, ◌∙◌, subst}
use Rattle.std.proofs.lemmas.Result.{on_err_weaker, on_ok_weaker}
use Rattle.oxc_estree.specs.Out.{Meaning, wrote}
use Rattle.oxc_estree.specs.Refused.{IsCutShort}
use Rattle.tree_core.specs.Meanings.{node_meaning}
use Rattle.tree_core.specs.Values.{meaning_of}
use Rattle.tree_core.proofs.PrintedMeanings.{printed_meaning}
use Rattle.tree_core.proofs.print.ProgramESTree.serialize.Goals as goal

pub returns : goal.returns
returns g c =
    let old = g.S.Serializer.out c.args.serializer.now in
    let new = g.S.Serializer.out c.write_node.new.serializer in
    let same : node_meaning c.root.result.now ≡ meaning_of c.args.self.now =
    ap node_meaning c.root.ensures.root ∙ printed_meaning c.args.self.now c.root.ensures.program.0 in
    record {
      ok = on_ok_weaker c.write_node.result (λ e. e ∙ ap (wrote old) same) c.write_node.ensures.ok;
      refused = on_err_weaker c.write_node.result (subst (λ (m : Meaning). IsCutShort old new (wrote old m)) same) c.write_node.ensures.refused;
    }
