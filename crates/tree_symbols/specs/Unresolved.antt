-- The names that references without a binding have, as data.
use Rattle.std.specs.Prelude.{Bool, not, ◌&&◌, is_some}
use Rattle.std.specs.BTreeMap.{BTreeMap, get_by}
use Rattle.std.specs.Borrow.{Bor}
use Rattle.std.specs.Cmp.Lexicographic.{slice_cmp}
use Rattle.std.specs.Ordering.{nat_cmp}
use Rattle.scope_rules.specs.Bindings.{same_name}
use Rattle.tree_nodes.specs.Tree.{Text}
use Rattle.tree_symbols.specs.Known.{refers}
use Rattle.tree_symbols.specs.declared.known.KnownPlace.{KnownPlace}

-- the name is among them
abbrev pub has_name : BTreeMap (Bor Text) (Unit {0}) → Text → Bool
has_name m x = is_some (get_by (λ k. slice_cmp nat_cmp x k.now) m)

-- the place refers under this name, and has no binding
unfoldable pub leaves_name : Text → KnownPlace → Bool
leaves_name x k = refers k && not (is_some k.binding) && same_name x k.place.name.now
