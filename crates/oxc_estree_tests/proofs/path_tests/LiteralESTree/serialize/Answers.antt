use Rattle.std.proofs.Common.{◌∷◌, [], codes, pos, List}
use Rattle.std.proofs.lemmas.Result.{on_ok_weaker, on_err_weaker}
use Rattle.json_text.specs.Json.{null, whole}
use Rattle.oxc_estree.specs.Out.{Flags, Meaning, plain}
use Rattle.oxc_estree.specs.Open.{Field}
use Rattle.oxc_estree.proofs.Refusals.{at_err}
use Rattle.oxc_estree.proofs.StructUnderWay.{steps_begin, begin_struct_refused, field_by_steps, begin_field_refused, value_refused, struct_ended, struct_end_refused}
use Rattle.oxc_estree_tests.proofs.path_tests.LiteralESTree.serialize.Goals as goal

abbrev start : Flags → Meaning
start _ = plain (whole (pos 5))

abbrev value : Flags → Meaning
value _ = record { value = null; marks = [] ∷ [] }

abbrev fields : List Field
fields = record { name = codes "start"; meaning = plain (whole (pos 5)) } ∷ record { name = codes "value"; meaning = record { value = null; marks = [] ∷ [] } } ∷ []

pub returns-in_err-begin_struct-clause-refused : goal.returns-in_err-begin_struct-clause-refused
returns-in_err-begin_struct-clause-refused g c = at_err _ (begin_struct_refused fields c.in_err-begin_struct.ensures.refused)

pub returns-in_err-begin_field-clause-refused : goal.returns-in_err-begin_field-clause-refused
returns-in_err-begin_field-clause-refused g c =
    at_err _ (begin_field_refused (codes "start") start (steps_begin fields c.in_ok-begin_struct.ensures.ok) c.in_err-begin_field.ensures.refused)

pub returns-in_err-serialize-clause-refused : goal.returns-in_err-serialize-clause-refused
returns-in_err-serialize-clause-refused g c =
    at_err _ (value_refused (codes "start") start (steps_begin fields c.in_ok-begin_struct.ensures.ok) c.in_ok-begin_field.ensures.ok c.in_err-serialize.ensures.refused)

pub returns-in_err-begin_field-2-clause-refused : goal.returns-in_err-begin_field-2-clause-refused
returns-in_err-begin_field-2-clause-refused g c =
    let u = field_by_steps (codes "start") start (steps_begin fields c.in_ok-begin_struct.ensures.ok) c.in_ok-begin_field.ensures.ok c.in_ok-serialize.ensures.ok c.end_field.ensures in
    at_err _ (begin_field_refused (codes "value") value u c.in_err-begin_field-2.ensures.refused)

pub returns-in_err-serialize-2-clause-refused : goal.returns-in_err-serialize-2-clause-refused
returns-in_err-serialize-2-clause-refused g c =
    let u = field_by_steps (codes "start") start (steps_begin fields c.in_ok-begin_struct.ensures.ok) c.in_ok-begin_field.ensures.ok c.in_ok-serialize.ensures.ok c.end_field.ensures in
    at_err _ (value_refused (codes "value") value u c.in_ok-begin_field-2.ensures.ok c.in_err-serialize-2.ensures.refused)

pub returns-clause-ok : goal.returns-clause-ok
returns-clause-ok g c =
    let u = field_by_steps (codes "start") start (steps_begin fields c.in_ok-begin_struct.ensures.ok) c.in_ok-begin_field.ensures.ok c.in_ok-serialize.ensures.ok c.end_field.ensures in
    let v = field_by_steps (codes "value") value u c.in_ok-begin_field-2.ensures.ok c.in_ok-serialize-2.ensures.ok c.end_field-2.ensures in
    on_ok_weaker c.end_struct.result (struct_ended v) c.end_struct.ensures.ok

pub returns-clause-refused : goal.returns-clause-refused
returns-clause-refused g c =
    let u = field_by_steps (codes "start") start (steps_begin fields c.in_ok-begin_struct.ensures.ok) c.in_ok-begin_field.ensures.ok c.in_ok-serialize.ensures.ok c.end_field.ensures in
    let v = field_by_steps (codes "value") value u c.in_ok-begin_field-2.ensures.ok c.in_ok-serialize-2.ensures.ok c.end_field-2.ensures in
    on_err_weaker c.end_struct.result (struct_end_refused v) c.end_struct.ensures.refused
