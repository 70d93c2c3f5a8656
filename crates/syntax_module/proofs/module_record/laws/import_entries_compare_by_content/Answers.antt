use Rattle.std.proofs.Common.{◌≡◌, ◌↔◌, ◌∙◌, ◌&&◌, Bool, IsTrue, refl, sym, ap}
use mathlib.Core.Bool.{beq}
use Rattle.std.specs.Cmp.{booleans_Decides}
use Rattle.syntax_module.specs.Contents.{import_entry}
use Rattle.syntax_module.specs.declared.module_record.entries.ImportEntry.{ImportEntry}
use Rattle.syntax_module.specs.contracts.module_record.entries.ImportEntryPartialEq.TheImpl as entry
use Rattle.syntax_module.specs.contracts.module_record.entries.NameSpanPartialEq.TheImpl as named
use Rattle.syntax_module.specs.contracts.module_record.entries.ImportImportNamePartialEq.TheImpl as imported
use Rattle.syntax_sem.specs.contracts.span.SpanPartialEq.TheImpl as span
use Rattle.syntax_module.proofs.Comparisons.{joined, flat5, paired5}
use Rattle.syntax_module.proofs.module_record.laws.import_entries_compare_by_content.Goals as goal

abbrev all_fields : ImportEntry → ImportEntry → Bool
all_fields a b =
    span.ghosts.eq a.statement_span b.statement_span
    && (named.ghosts.eq a.module_request b.module_request
    && (imported.ghosts.eq a.import_name b.import_name
    && (named.ghosts.eq a.local_name b.local_name && beq a.is_type b.is_type)))

tests_all : (a b : ImportEntry) → entry.ghosts.eq a b ≡ all_fields a b
tests_all a b = refl

pub returns : goal.returns
returns c = λ a b.
    let name = c.name_spans_compare_by_content.ensures in
    let all : IsTrue (all_fields a b) ↔ (paired5 (import_entry a) ≡ paired5 (import_entry b)) =
    joined (c.spans_are_equal_exactly.ensures a.statement_span b.statement_span)
    (joined (name a.module_request b.module_request)
    (joined (c.import_names_compare_by_content.ensures a.import_name b.import_name)
    (joined (name a.local_name b.local_name) (booleans_Decides a.is_type b.is_type)))) in
    (λ h. ap flat5 (all.0 (sym (tests_all a b) ∙ h)), λ e. tests_all a b ∙ all.1 (ap paired5 e))
