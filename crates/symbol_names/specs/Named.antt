-- The symbols of a tree under their new names.
use Rattle.std.specs.Prelude.{◌≡◌, ◌<◌, ℕ, [], get_or, length, slice_get, Option, Some, IsTrue}
use Rattle.std.specs.Option.{unwrap_or}
use Rattle.name_rules.specs.GivenNames.{names_of_slots}
use Rattle.name_rules.specs.Groups.{greatest_width, groups_of, members, width}
use Rattle.name_rules.specs.Options.{Options}
use Rattle.name_rules.specs.SlotNames.{named_by_slot}
use Rattle.scope_rules.specs.Bindings.{same_name}
use Rattle.scope_rules.specs.Symbols.{symbols}
use Rattle.syntax_lex.specs.Identifier.{is_identifier_name}
use Rattle.tree_nodes.specs.Tree.{Parts, Text}
use Rattle.tree_places.specs.Places.{Place, places, scopes}
use Rattle.tree_places.specs.Scopes.{Scope}

-- what a place is called: as its slot, where it has one, and by its own name else, as where its binding is kept
abbrev pub called : Options → Parts → Place → Text
called o t p = named_by_slot o t (λ k. get_or (names_of_slots o t) k []) p

-- by the names that are set here for symbols, each symbol has the name that its binding is called by; and they are identifier names
pub record AreNamed (o : Options) (t : Parts) (name : ℕ → Option Text) : Type 0 where
  pub named : (k : ℕ) (b : Place) → slice_get (symbols same_name (places t)) k ≡ Some b → unwrap_or (name k) b.name ≡ called o t b
  pub identifiers : (k : ℕ) (x : Text) → name k ≡ Some x → IsTrue (is_identifier_name x)

-- so many different names are given to bindings: the greatest width, which this scope has; it is the root where there are none
pub record IsCounted (o : Options) (t : Parts) (count busiest : ℕ) : Type 0 where
  pub fewest : count ≡ greatest_width o t
  pub within : busiest < length (scopes t)
  pub wide : (s : Scope) → slice_get (scopes t) busiest ≡ Some s → width (members o t) (groups_of o t) s ≡ count
  pub root : count ≡ 0 → busiest ≡ 0
