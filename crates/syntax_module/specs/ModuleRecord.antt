-- A record of nothing.
use Rattle.std.specs.Prelude.{false, []}
use Rattle.syntax_module.specs.declared.module_record.ModuleRecord.{ModuleRecord}

abbrev pub empty_record : ModuleRecord
empty_record =
    record {
      has_module_syntax = false;
      requested_modules = [];
      import_entries = [];
      local_export_entries = [];
      indirect_export_entries = [];
      star_export_entries = [];
      exported_bindings = [];
      dynamic_imports = [];
      import_metas = [];
    }
