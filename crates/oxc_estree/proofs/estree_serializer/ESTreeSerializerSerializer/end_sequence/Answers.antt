use Rattle.std.proofs.Common.{◌∷◌, [], refl}
use Rattle.std.proofs.lemmas.Result.{err_from_is_err_and}
use Rattle.oxc_estree.proofs.Refusals.{refused_before}
use Rattle.oxc_estree.proofs.estree_serializer.ESTreeSerializerSerializer.end_sequence.Goals as goal

pub returns-in_err-print_closing-clause-refused : goal.returns-in_err-print_closing-clause-refused
returns-in_err-print_closing-clause-refused g c =
    let p = refused_before _ (93 ∷ []) refl c.in_err-print_closing.ensures.refused in
    let e = err_from_is_err_and c.from_residual.result c.from_residual.ensures.1 in
    rw e.1 (record { kept = p.kept; within = p.within; flags = record { records = refl; ts = refl; ranges = refl } })
