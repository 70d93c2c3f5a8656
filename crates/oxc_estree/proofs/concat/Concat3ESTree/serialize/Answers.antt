use Rattle.std.proofs.Common.{rules, ◌++◌}
use Rattle.std.proofs.lemmas.Result.{on_ok_weaker, on_err_weaker}
use Rattle.oxc_estree.specs.Out.{flags}
use Rattle.oxc_estree.proofs.ListUnderWay.{list_begins, elements_written, elements_refused, list_ended, list_end_refused}
use Rattle.oxc_estree.proofs.ElementsUnderWay.{last_written, last_refused}
use Rattle.oxc_estree.proofs.concat.Concat3ESTree.serialize.Goals as goal

pub returns-in_err-push_to_sequence-clause-refused :
    goal.returns-in_err-push_to_sequence-clause-refused
returns-in_err-push_to_sequence-clause-refused g c =
    let f = flags (g.S.Serializer.out c.args.serializer.now) in
    let first = g.C1.ConcatElement.elements c.args.self.now.0.now in
    let second = g.C2.ConcatElement.elements c.args.self.now.1.now in
    let third = g.C3.ConcatElement.elements c.args.self.now.2.now in
    let u = list_begins (first f ++ (second f ++ third f)) c.in_ok-seq.ensures.ok in
    let h = elements_refused first (second f ++ third f) u c.in_err-push_to_sequence.ensures.refused in
    search rules

pub returns-in_err-push_to_sequence-2-clause-refused :
    goal.returns-in_err-push_to_sequence-2-clause-refused
returns-in_err-push_to_sequence-2-clause-refused g c =
    let f = flags (g.S.Serializer.out c.args.serializer.now) in
    let first = g.C1.ConcatElement.elements c.args.self.now.0.now in
    let second = g.C2.ConcatElement.elements c.args.self.now.1.now in
    let third = g.C3.ConcatElement.elements c.args.self.now.2.now in
    let u = list_begins (first f ++ (second f ++ third f)) c.in_ok-seq.ensures.ok in
    let v = elements_written first u c.in_ok-push_to_sequence.ensures.ok in
    let h = elements_refused second (third f) v c.in_err-push_to_sequence-2.ensures.refused in
    search rules

pub returns-in_err-push_to_sequence-3-clause-refused :
    goal.returns-in_err-push_to_sequence-3-clause-refused
returns-in_err-push_to_sequence-3-clause-refused g c =
    let f = flags (g.S.Serializer.out c.args.serializer.now) in
    let first = g.C1.ConcatElement.elements c.args.self.now.0.now in
    let second = g.C2.ConcatElement.elements c.args.self.now.1.now in
    let third = g.C3.ConcatElement.elements c.args.self.now.2.now in
    let u = list_begins (first f ++ (second f ++ third f)) c.in_ok-seq.ensures.ok in
    let v = elements_written first u c.in_ok-push_to_sequence.ensures.ok in
    let x = elements_written second v c.in_ok-push_to_sequence-2.ensures.ok in
    let h = last_refused third x c.in_err-push_to_sequence-3.ensures.refused in
    search rules

pub returns-clause-ok :
    goal.returns-clause-ok
returns-clause-ok g c =
    let f = flags (g.S.Serializer.out c.args.serializer.now) in
    let first = g.C1.ConcatElement.elements c.args.self.now.0.now in
    let second = g.C2.ConcatElement.elements c.args.self.now.1.now in
    let third = g.C3.ConcatElement.elements c.args.self.now.2.now in
    let u = list_begins (first f ++ (second f ++ third f)) c.in_ok-seq.ensures.ok in
    let v = elements_written first u c.in_ok-push_to_sequence.ensures.ok in
    let x = elements_written second v c.in_ok-push_to_sequence-2.ensures.ok in
    let w = on_ok_weaker c.end.result (list_ended (last_written third x c.in_ok-push_to_sequence-3.ensures.ok)) c.end.ensures.ok in
    search rules

pub returns-clause-refused :
    goal.returns-clause-refused
returns-clause-refused g c =
    let f = flags (g.S.Serializer.out c.args.serializer.now) in
    let first = g.C1.ConcatElement.elements c.args.self.now.0.now in
    let second = g.C2.ConcatElement.elements c.args.self.now.1.now in
    let third = g.C3.ConcatElement.elements c.args.self.now.2.now in
    let u = list_begins (first f ++ (second f ++ third f)) c.in_ok-seq.ensures.ok in
    let v = elements_written first u c.in_ok-push_to_sequence.ensures.ok in
    let x = elements_written second v c.in_ok-push_to_sequence-2.ensures.ok in
    let w = on_err_weaker c.end.result (list_end_refused (last_written third x c.in_ok-push_to_sequence-3.ensures.ok)) c.end.ensures.refused in
    search rules
