use Rattle.std.proofs.Common.{◌≡◌, ◌↔◌, ◌∙◌, ◌&&◌, Bool, IsTrue, refl, sym, ap}
use mathlib.Core.Bool.{beq}
use Rattle.std.specs.Cmp.{booleans_Decides}
use Rattle.std.specs.Option.{option_eq}
use Rattle.syntax_module.specs.Contents.{export_entry, name_span}
use Rattle.syntax_module.specs.declared.module_record.entries.ExportEntry.{ExportEntry}
use Rattle.syntax_module.specs.contracts.module_record.entries.ExportEntryPartialEq.TheImpl as entry
use Rattle.syntax_module.specs.contracts.module_record.entries.NameSpanPartialEq.TheImpl as named
use Rattle.syntax_module.specs.contracts.module_record.entries.ExportImportNamePartialEq.TheImpl as taken
use Rattle.syntax_module.specs.contracts.module_record.entries.ExportExportNamePartialEq.TheImpl as exported
use Rattle.syntax_module.specs.contracts.module_record.entries.ExportLocalNamePartialEq.TheImpl as local
use Rattle.syntax_sem.specs.contracts.span.SpanPartialEq.TheImpl as span
use Rattle.syntax_module.proofs.Comparisons.{joined, flat7, paired7, optional}
use Rattle.syntax_module.proofs.module_record.laws.export_entries_compare_by_content.Goals as goal

abbrev all_fields : ExportEntry → ExportEntry → Bool
all_fields a b =
    span.ghosts.eq a.statement_span b.statement_span
    && (span.ghosts.eq a.span b.span
    && (option_eq named.ghosts.eq a.module_request b.module_request
    && (taken.ghosts.eq a.import_name b.import_name
    && (exported.ghosts.eq a.export_name b.export_name
    && (local.ghosts.eq a.local_name b.local_name && beq a.is_type b.is_type)))))

tests_all : (a b : ExportEntry) → entry.ghosts.eq a b ≡ all_fields a b
tests_all a b = refl

pub returns : goal.returns
returns c = λ a b.
    let place = c.spans_are_equal_exactly.ensures in
    let request = optional name_span named.ghosts.eq c.name_spans_compare_by_content.ensures in
    let all : IsTrue (all_fields a b) ↔ (paired7 (export_entry a) ≡ paired7 (export_entry b)) =
    joined (place a.statement_span b.statement_span)
    (joined (place a.span b.span)
    (joined (request a.module_request b.module_request)
    (joined (c.taken_names_compare_by_content.ensures a.import_name b.import_name)
    (joined (c.export_names_compare_by_content.ensures a.export_name b.export_name)
    (joined (c.local_names_compare_by_content.ensures a.local_name b.local_name) (booleans_Decides a.is_type b.is_type)))))) in
    (λ h. ap flat7 (all.0 (sym (tests_all a b) ∙ h)), λ e. tests_all a b ∙ all.1 (ap paired7 e))
