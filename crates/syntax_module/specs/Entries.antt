-- What the calls of a module record's entries tell.
use Rattle.std.specs.Prelude.{ℕ, Bool, true, false, Option, None, Some, List, codes, nat_eq, if◌then◌else◌}
use Rattle.std.specs.Cmp.Lexicographic.{pointwise}
use Rattle.oxc_str.specs.Str.{text_of}
use Rattle.syntax_module.specs.declared.module_record.entries.ExportEntry.{ExportEntry}
use Rattle.syntax_module.specs.declared.module_record.entries.ExportExportName.{ExportExportName}
use Rattle.syntax_module.specs.declared.module_record.entries.ExportExportName.TheVariants as exported
use Rattle.syntax_module.specs.declared.module_record.entries.ExportImportName.{ExportImportName}
use Rattle.syntax_module.specs.declared.module_record.entries.ExportImportName.TheVariants as taken
use Rattle.syntax_module.specs.declared.module_record.entries.ExportLocalName.{ExportLocalName}
use Rattle.syntax_module.specs.declared.module_record.entries.ExportLocalName.TheVariants as local
use Rattle.syntax_module.specs.declared.module_record.entries.ImportImportName.{ImportImportName}
use Rattle.syntax_module.specs.declared.module_record.entries.ImportImportName.TheVariants as imported
use Rattle.syntax_sem.specs.declared.span.Span.{Span}

abbrev pub is_default_import : ImportImportName → Bool
is_default_import name = elim name [ imported.Default span ↦ true | _ ↦ false ]

abbrev pub is_namespace_object : ImportImportName → Bool
is_namespace_object name = elim name [ imported.NamespaceObject ↦ true | _ ↦ false ]

abbrev pub is_all : ExportImportName → Bool
is_all name = elim name [ taken.All ↦ true | _ ↦ false ]

abbrev pub is_all_but_default : ExportImportName → Bool
is_all_but_default name = elim name [ taken.AllButDefault ↦ true | _ ↦ false ]

abbrev pub is_default_export : ExportExportName → Bool
is_default_export name = elim name [ exported.Default span ↦ true | _ ↦ false ]

abbrev pub is_null_export : ExportExportName → Bool
is_null_export name = elim name [ exported.Null ↦ true | _ ↦ false ]

-- where the name stands
abbrev pub export_span : ExportExportName → Option Span
export_span name = elim name [ exported.Name at ↦ Some at.span | exported.Default span ↦ Some span | exported.Null ↦ None ]

-- the same, if it is the name `default`
abbrev pub default_export_span : ExportExportName → Option Span
default_export_span name =
    elim name [
      | exported.Name at ↦ if pointwise nat_eq (text_of at.name) (codes "default") then Some at.span else None
      | exported.Default span ↦ Some span
      | exported.Null ↦ None
    ]

abbrev pub is_default_local : ExportLocalName → Bool
is_default_local name = elim name [ local.Default at ↦ true | _ ↦ false ]

abbrev pub is_null_local : ExportLocalName → Bool
is_null_local name = elim name [ local.Null ↦ true | _ ↦ false ]

abbrev pub local_text : ExportLocalName → Option (List ℕ)
local_text name =
    elim name [ local.Name at ↦ Some (text_of at.name) | local.Default at ↦ Some (text_of at.name) | local.Null ↦ None ]

-- an entry of nothing
abbrev pub default_entry : ExportEntry
default_entry =
    record {
      statement_span = record { start = 0; end = 0 };
      span = record { start = 0; end = 0 };
      module_request = None;
      import_name = taken.Null;
      export_name = exported.Null;
      local_name = local.Null;
      is_type = false;
    }
