use Rattle.std.proofs.Common.{List, [], ◌∷◌, IsUtf8, map, string_bytes}
use Rattle.std.proofs.lemmas.Str.{IsUtf8-string_bytes}
use Rattle.std.specs.List.{AllByRecursion}
use Rattle.name_map.specs.Undoing.{OldName, old_name}
use Rattle.name_map.specs.declared.list.PlaceName.{PlaceName}
use Rattle.name_map.proofs.list.PlaceNames.len.Goals as goal

texts : (es : List PlaceName) → AllByRecursion (λ (o : OldName). IsUtf8 o.name) (map (λ (e : PlaceName). old_name e.place (string_bytes e.name)) es)
texts [] = tt
texts (e ∷ es) = (IsUtf8-string_bytes e.name, texts es)

pub returns-clause-texts : goal.returns-clause-texts
returns-clause-texts c = rw (← c.self.view_is) (texts c.self.inside.items.items)
