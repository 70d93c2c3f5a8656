use Rattle.std.proofs.Common.{◌≡◌, false, true, [], ◌∷◌, codes, pos, ap, ◌∙◌}
use Rattle.std.proofs.lemmas.Result.{on_err_weaker}
use Rattle.json_text.specs.Json.{string, whole}
use Rattle.json_text.specs.Units.{units_of}
use Rattle.oxc_estree.specs.Open.{add_field, add_fields, new_struct}
use Rattle.oxc_estree.specs.Out.{Out, plain}
use Rattle.tree_core.specs.Meanings.{field, inside}
use Rattle.tree_core.proofs.LeftToPrint.{refused_after_fields}
use Rattle.tree_core.proofs.print.write_head.Goals as goal

pub returns-clause-refused : goal.returns-clause-refused
returns-clause-refused g c =
    let o = g.S.Serializer.out c.args.serializer.now in
    let name = plain (string (units_of c.args.name.now)) in
    let start = plain (whole (pos c.args.start)) in
    let so_far : g.S.Serializer.out c.write_field-2.new.serializer
    ≡ (add_fields (new_struct o) (field (codes "type") name ∷ field (codes "start") start ∷ [])).out =
    c.in_ok-write_field-2.ensures.ok
    ∙ ap (λ (p : Out). (add_field (inside false p) (codes "start") start).out) (c.in_ok-write_field.ensures.ok
    ∙ ap (λ (p : Out). (add_field (inside true p) (codes "type") name).out) c.in_ok-begin_struct.ensures.ok) in
    on_err_weaker c.write_field-3.result
    (refused_after_fields (new_struct o) (field (codes "type") name ∷ field (codes "start") start ∷ [])
    (λ (p : Out). (add_field (inside false p) (codes "end") (plain (whole (pos c.args.end)))).out) so_far) c.write_field-3.ensures.refused
