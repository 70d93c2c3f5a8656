use Rattle.std.proofs.Common.{◌≡◌, take}
use Rattle.std.specs.List.{list_any}
use Rattle.tree_nodes.specs.Tree.{Text}
use Rattle.tree_symbols.specs.Scopings.{places_of}
use Rattle.tree_symbols.specs.Unresolved.{has_name}
use Rattle.unresolved_names.specs.Noted.{is_noted}
use Rattle.unresolved_names.proofs.names.unresolved_names.Given as goal

abbrev pub invariant-loop-place : goal.invariant-loop-place
invariant-loop-place l = (x : Text) → has_name l.names x ≡ list_any (λ e. is_noted (places_of l.scoping) x e.name.now) (take l.place-index l.place-items)
