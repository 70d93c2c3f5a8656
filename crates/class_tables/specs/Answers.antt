-- What is answered of a place, by the tables.
use Rattle.std.specs.Prelude.{ℕ, Bool, not, ◌&&◌, List, Option, None, is_some, option_map, if◌then◌else◌}
use Rattle.class_tables.specs.Outwards.{chain_from, nearest, outer}
use Rattle.class_tables.specs.Tables.{found_in}
use Rattle.class_tables.specs.declared.class_table.ClassTable.{ClassTable}
use Rattle.class_tables.specs.declared.nearest.Found.{Found}
use Rattle.place_list.specs.declared.tables.ClassEntry.{ClassEntry}
use Rattle.place_list.specs.declared.tables.PlaceEntry.{PlaceEntry}

-- the declaration of a place's name, from its class body outwards
unfoldable pub declaration_of : List ClassTable → List ClassEntry → PlaceEntry → Option Found
declaration_of ts bodies e = nearest (found_in ts e.name.now) (chain_from (outer bodies) e.setting.class_body)

unfoldable pub binding_at : List ClassTable → List ClassEntry → PlaceEntry → Option ℕ
binding_at ts bodies e = if e.private then option_map (λ f. f.node) (declaration_of ts bodies e) else None

unfoldable pub class_at : List ClassTable → List ClassEntry → PlaceEntry → Option ℕ
class_at ts bodies e = option_map (λ f. f.class) (declaration_of ts bodies e)

unfoldable pub index_at : List ClassTable → List ClassEntry → PlaceEntry → Option ℕ
index_at ts bodies e = option_map (λ f. f.index) (declaration_of ts bodies e)

unfoldable pub undeclared_at : List ClassTable → List ClassEntry → PlaceEntry → Bool
undeclared_at ts bodies e = e.private && not (is_some (binding_at ts bodies e))
