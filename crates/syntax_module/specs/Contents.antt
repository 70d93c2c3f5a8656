-- What two names or entries are compared by: which variants they are, their texts and their spans.
use Rattle.std.specs.Prelude.{ℕ, Bool, Option, None, Some, List}
use Rattle.std.specs.Option.{option_map}
use Rattle.oxc_str.specs.Str.{text_of}
use Rattle.syntax_module.specs.declared.module_record.entries.ExportEntry.{ExportEntry}
use Rattle.syntax_module.specs.declared.module_record.entries.ExportExportName.{ExportExportName}
use Rattle.syntax_module.specs.declared.module_record.entries.ExportExportName.TheVariants as exported
use Rattle.syntax_module.specs.declared.module_record.entries.ExportImportName.{ExportImportName}
use Rattle.syntax_module.specs.declared.module_record.entries.ExportImportName.TheVariants as taken
use Rattle.syntax_module.specs.declared.module_record.entries.ExportLocalName.{ExportLocalName}
use Rattle.syntax_module.specs.declared.module_record.entries.ExportLocalName.TheVariants as local
use Rattle.syntax_module.specs.declared.module_record.entries.ImportEntry.{ImportEntry}
use Rattle.syntax_module.specs.declared.module_record.entries.ImportImportName.{ImportImportName}
use Rattle.syntax_module.specs.declared.module_record.entries.ImportImportName.TheVariants as imported
use Rattle.syntax_module.specs.declared.module_record.entries.NameSpan.{NameSpan}
use Rattle.syntax_sem.specs.declared.span.Span.{Span}

abbrev pub name_span : NameSpan → List ℕ × Span
name_span at = (text_of at.name, at.span)

-- the number of the variant, and what it holds
abbrev pub import_import_name : ImportImportName → ℕ × Option (List ℕ) × Option Span
import_import_name name =
    elim name [
      | imported.Name at ↦ (0, Some (text_of at.name), Some at.span)
      | imported.NamespaceObject ↦ (1, None, None)
      | imported.Default span ↦ (2, None, Some span)
    ]

abbrev pub export_import_name : ExportImportName → ℕ × Option (List ℕ) × Option Span
export_import_name name =
    elim name [
      | taken.Name at ↦ (0, Some (text_of at.name), Some at.span)
      | taken.All ↦ (1, None, None)
      | taken.AllButDefault ↦ (2, None, None)
      | taken.Null ↦ (3, None, None)
    ]

abbrev pub export_export_name : ExportExportName → ℕ × Option (List ℕ) × Option Span
export_export_name name =
    elim name [
      | exported.Name at ↦ (0, Some (text_of at.name), Some at.span)
      | exported.Default span ↦ (1, None, Some span)
      | exported.Null ↦ (2, None, None)
    ]

abbrev pub export_local_name : ExportLocalName → ℕ × Option (List ℕ) × Option Span
export_local_name name =
    elim name [
      | local.Name at ↦ (0, Some (text_of at.name), Some at.span)
      | local.Default at ↦ (1, Some (text_of at.name), Some at.span)
      | local.Null ↦ (2, None, None)
    ]

-- what each field is compared by
abbrev pub import_entry : ImportEntry → Span × (List ℕ × Span) × (ℕ × Option (List ℕ) × Option Span) × (List ℕ × Span) × Bool
import_entry entry =
    (entry.statement_span, name_span entry.module_request, import_import_name entry.import_name, name_span entry.local_name, entry.is_type)

abbrev pub export_entry : ExportEntry → Span × Span × Option (List ℕ × Span) × (ℕ × Option (List ℕ) × Option Span) × (ℕ × Option (List ℕ) × Option Span) × (ℕ × Option (List ℕ) × Option Span) × Bool
export_entry entry = (
  entry.statement_span,
  entry.span,
  option_map name_span entry.module_request,
  export_import_name entry.import_name,
  export_export_name entry.export_name,
  export_local_name entry.local_name,
  entry.is_type,
)
