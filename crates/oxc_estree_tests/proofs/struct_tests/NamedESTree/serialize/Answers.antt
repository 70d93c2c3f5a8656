use Rattle.std.proofs.Common.{rules, ◌++◌, codes, List, false}
use Rattle.std.proofs.lemmas.Result.{on_ok_weaker, on_err_weaker}
use Rattle.json_text.specs.Json.{string, truth}
use Rattle.json_text.specs.Units.{units_of}
use Rattle.oxc_estree_tests.specs.declared.struct_tests.Named.{Named}
use Rattle.oxc_estree.specs.Out.{Flags, flags, plain}
use Rattle.oxc_estree.specs.Open.{Field, js_field, span_fields, ts_field}
use Rattle.oxc_estree.proofs.StructUnderWay.{struct_begins, fields_written, fields_refused, last_fields_written, last_fields_refused, struct_ended, struct_end_refused}
use Rattle.oxc_estree_tests.proofs.struct_tests.NamedESTree.serialize.Goals as goal

abbrev span : Named → Flags → List Field
span n f = span_fields f n.place.start n.place.end

abbrev raw : Named → Flags → List Field
raw n f = js_field f (codes "raw") (plain (string (units_of n.name.now)))

abbrev optional : Flags → List Field
optional f = ts_field f (codes "optional") (plain (truth false))

abbrev after_span : Named → Flags → List Field
after_span n f = raw n f ++ optional f

abbrev fields : Named → Flags → List Field
fields n f = span n f ++ after_span n f

pub returns-in_err-write-clause-refused : goal.returns-in_err-write-clause-refused
returns-in_err-write-clause-refused g c =
    let n = c.args.self.now in
    let at = flags (g.S.Serializer.out c.args.serializer.now) in
    let begun = struct_begins (fields n at) c.in_ok-state.ensures.ok in
    let h = fields_refused (span n) (after_span n at) begun c.in_err-write.ensures.refused in
    search rules

pub returns-in_err-serialize_js_field-clause-refused : goal.returns-in_err-serialize_js_field-clause-refused
returns-in_err-serialize_js_field-clause-refused g c =
    let n = c.args.self.now in
    let at = flags (g.S.Serializer.out c.args.serializer.now) in
    let begun = struct_begins (fields n at) c.in_ok-state.ensures.ok in
    let u = fields_written {left = after_span n at} (span n) begun c.in_ok-write.ensures.ok in
    let h = fields_refused (raw n) (optional at) u c.in_err-serialize_js_field.ensures.refused in
    search rules

pub returns-in_err-serialize_ts_field-clause-refused : goal.returns-in_err-serialize_ts_field-clause-refused
returns-in_err-serialize_ts_field-clause-refused g c =
    let n = c.args.self.now in
    let at = flags (g.S.Serializer.out c.args.serializer.now) in
    let begun = struct_begins (fields n at) c.in_ok-state.ensures.ok in
    let u = fields_written {left = after_span n at} (span n) begun c.in_ok-write.ensures.ok in
    let v = fields_written {left = optional at} (raw n) u c.in_ok-serialize_js_field.ensures.ok in
    let h = last_fields_refused optional v c.in_err-serialize_ts_field.ensures.refused in
    search rules

pub returns-clause-ok : goal.returns-clause-ok
returns-clause-ok g c =
    let n = c.args.self.now in
    let at = flags (g.S.Serializer.out c.args.serializer.now) in
    let begun = struct_begins (fields n at) c.in_ok-state.ensures.ok in
    let u = fields_written {left = after_span n at} (span n) begun c.in_ok-write.ensures.ok in
    let v = fields_written {left = optional at} (raw n) u c.in_ok-serialize_js_field.ensures.ok in
    let w = last_fields_written optional v c.in_ok-serialize_ts_field.ensures.ok in
    let h = on_ok_weaker c.end.result (struct_ended w) c.end.ensures.ok in
    search rules

pub returns-clause-refused : goal.returns-clause-refused
returns-clause-refused g c =
    let n = c.args.self.now in
    let at = flags (g.S.Serializer.out c.args.serializer.now) in
    let begun = struct_begins (fields n at) c.in_ok-state.ensures.ok in
    let u = fields_written {left = after_span n at} (span n) begun c.in_ok-write.ensures.ok in
    let v = fields_written {left = optional at} (raw n) u c.in_ok-serialize_js_field.ensures.ok in
    let w = last_fields_written optional v c.in_ok-serialize_ts_field.ensures.ok in
    let h = on_err_weaker c.end.result (struct_end_refused w) c.end.ensures.refused in
    search rules
