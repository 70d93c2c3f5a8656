-- What a visit leaves, of the visitor and of what it visits: `step` on each span, one after the other.
use Rattle.std.specs.Prelude.{Option, None, Some, List, [], ◌∷◌}
use Rattle.oxc_str.specs.declared.str.Str.{Str}
use Rattle.syntax_module.specs.declared.module_record.entries.DynamicImport.{DynamicImport}
use Rattle.syntax_module.specs.declared.module_record.entries.ExportEntry.{ExportEntry}
use Rattle.syntax_module.specs.declared.module_record.entries.ExportExportName.{ExportExportName}
use Rattle.syntax_module.specs.declared.module_record.entries.ExportExportName.TheVariants as exported
use Rattle.syntax_module.specs.declared.module_record.entries.ExportImportName.{ExportImportName}
use Rattle.syntax_module.specs.declared.module_record.entries.ExportImportName.TheVariants as taken
use Rattle.syntax_module.specs.declared.module_record.entries.ExportLocalName.{ExportLocalName}
use Rattle.syntax_module.specs.declared.module_record.entries.ExportLocalName.TheVariants as local
use Rattle.syntax_module.specs.declared.module_record.entries.ImportEntry.{ImportEntry}
use Rattle.syntax_module.specs.declared.module_record.entries.ImportImportName.{ImportImportName}
use Rattle.syntax_module.specs.declared.module_record.entries.ImportImportName.TheVariants as imported
use Rattle.syntax_module.specs.declared.module_record.entries.NameSpan.{NameSpan}
use Rattle.syntax_module.specs.declared.module_record.entries.RequestedModule.{RequestedModule}
use Rattle.syntax_module.specs.declared.module_record.ModuleRecord.{ModuleRecord}
use Rattle.syntax_sem.specs.declared.span.Span.{Span}

-- the items of a list, one after the other
abbrev pub on_each : {V T : Type 0} → (V → T → V × T) → V → List T → V × List T
on_each visit v [] = (v, [])
on_each visit v (item ∷ items) = let a = visit v item in let b = on_each visit a.0 items in (b.0, a.1 ∷ b.1)

module _ {V : Type 0} (step : V → Span → V × Span) where
  abbrev pub on_name_span : V → NameSpan → V × NameSpan
  on_name_span v at = let a = step v at.span in (a.0, record at { span = a.1 })

  abbrev pub on_requested_module : V → RequestedModule → V × RequestedModule
  on_requested_module v request =
      let a = step v request.span in
      let b = step a.0 request.statement_span in
      (b.0, record request { span = a.1; statement_span = b.1 })

  abbrev pub on_dynamic_import : V → DynamicImport → V × DynamicImport
  on_dynamic_import v call =
      let a = step v call.module_request in
      let b = step a.0 call.span in
      (b.0, record call { module_request = a.1; span = b.1 })

  -- a name has at most one span
  abbrev pub on_import_import_name : V → ImportImportName → V × ImportImportName
  on_import_import_name v name =
      elim name [
        | imported.Name at ↦ let a = on_name_span v at in (a.0, imported.Name a.1)
        | imported.NamespaceObject ↦ (v, imported.NamespaceObject)
        | imported.Default span ↦ let a = step v span in (a.0, imported.Default a.1)
      ]

  abbrev pub on_export_import_name : V → ExportImportName → V × ExportImportName
  on_export_import_name v name =
      elim name [
        | taken.Name at ↦ let a = on_name_span v at in (a.0, taken.Name a.1)
        | taken.All ↦ (v, taken.All)
        | taken.AllButDefault ↦ (v, taken.AllButDefault)
        | taken.Null ↦ (v, taken.Null)
      ]

  abbrev pub on_export_export_name : V → ExportExportName → V × ExportExportName
  on_export_export_name v name =
      elim name [
        | exported.Name at ↦ let a = on_name_span v at in (a.0, exported.Name a.1)
        | exported.Default span ↦ let a = step v span in (a.0, exported.Default a.1)
        | exported.Null ↦ (v, exported.Null)
      ]

  abbrev pub on_export_local_name : V → ExportLocalName → V × ExportLocalName
  on_export_local_name v name =
      elim name [
        | local.Name at ↦ let a = on_name_span v at in (a.0, local.Name a.1)
        | local.Default at ↦ let a = on_name_span v at in (a.0, local.Default a.1)
        | local.Null ↦ (v, local.Null)
      ]

  abbrev pub on_module_request : V → Option NameSpan → V × Option NameSpan
  on_module_request v request = elim request [ None ↦ (v, None) | Some at ↦ let a = on_name_span v at in (a.0, Some a.1) ]

  abbrev pub on_import_entry : V → ImportEntry → V × ImportEntry
  on_import_entry v entry =
      let a = step v entry.statement_span in
      let b = on_name_span a.0 entry.module_request in
      let c = on_name_span b.0 entry.local_name in
      let d = on_import_import_name c.0 entry.import_name in
      (d.0, record entry { statement_span = a.1; module_request = b.1; local_name = c.1; import_name = d.1 })

  abbrev pub on_export_entry : V → ExportEntry → V × ExportEntry
  on_export_entry v entry =
      let a = step v entry.statement_span in
      let b = step a.0 entry.span in
      let c = on_module_request b.0 entry.module_request in
      let d = on_export_import_name c.0 entry.import_name in
      let e = on_export_export_name d.0 entry.export_name in
      let f = on_export_local_name e.0 entry.local_name in
      (f.0, record entry { statement_span = a.1; span = b.1; module_request = c.1; import_name = d.1; export_name = e.1; local_name = f.1 })

  -- the requests of a module
  abbrev pub on_requests : V → Str × List RequestedModule → V × (Str × List RequestedModule)
  on_requests v requests = let a = on_each on_requested_module v requests.1 in (a.0, (requests.0, a.1))

  -- all but the exported bindings
  abbrev pub on_module_record : V → ModuleRecord → V × ModuleRecord
  on_module_record v all =
      let a = on_each on_requests v all.requested_modules in
      let b = on_each on_import_entry a.0 all.import_entries in
      let c = on_each on_export_entry b.0 all.local_export_entries in
      let d = on_each on_export_entry c.0 all.indirect_export_entries in
      let e = on_each on_export_entry d.0 all.star_export_entries in
      let f = on_each on_dynamic_import e.0 all.dynamic_imports in
      let g = on_each step f.0 all.import_metas in (
        g.0,
        record all {
          requested_modules = a.1;
          import_entries = b.1;
          local_export_entries = c.1;
          indirect_export_entries = d.1;
          star_export_entries = e.1;
          dynamic_imports = f.1;
          import_metas = g.1;
        },
      )
