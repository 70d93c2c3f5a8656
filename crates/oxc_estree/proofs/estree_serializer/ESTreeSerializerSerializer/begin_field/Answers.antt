use Rattle.std.proofs.Common.{◌++◌, ap, refl, sym}
use Rattle.json_text.specs.Layout.{Layout}
use Rattle.json_text.specs.Text.{before, key_text}
use Rattle.json_text.specs.Units.{units_of}
use Rattle.oxc_estree.specs.Out.{layout_inside}
use Rattle.std.proofs.lemmas.Result.{err_from_is_err_and, on_err_weaker}
use Rattle.oxc_estree.proofs.Refusals.{refused_before, all_refused, all_printed}
use Rattle.oxc_estree.proofs.estree_serializer.ESTreeSerializerSerializer.begin_field.Goals as goal

pub returns-in_err-print_before-clause-refused : goal.returns-in_err-print_before-clause-refused
returns-in_err-print_before-clause-refused g c =
    let key = key_text (layout_inside c.args.first (g.F.Formatter.layout c.args.self.now.formatter)) (units_of c.args.key.now) in
    let p = refused_before _ key refl c.in_err-print_before.ensures.refused in
    let e = err_from_is_err_and c.from_residual.result c.from_residual.ensures.1 in
    rw e.1 (record { kept = p.kept; within = p.within; flags = record { records = refl; ts = refl; ranges = refl } })

pub returns-clause-refused : goal.returns-clause-refused
returns-clause-refused g c =
    let inside = layout_inside c.args.first (g.F.Formatter.layout c.args.self.now.formatter) in
    let whole = ap (λ (l : Layout). before c.args.first inside ++ key_text l (units_of c.args.key.now)) (sym c.in_ok-print_before.ensures.level) in
    let p = all_refused (all_printed _ whole c.in_ok-print_before.ensures.ok c.in_ok-print_key.ensures.ok) in
    on_err_weaker c.step_in.result
    (λ e. record { kept = p.kept; within = p.within; flags = record { records = refl; ts = refl; ranges = refl } })
    c.step_in.ensures.refused
