-- What the mangler answers, as data.
use Rattle.std.specs.Prelude.{◌≡◌, IsFalse}
use Rattle.name_rules.specs.Options.{Options}
use Rattle.oxc_mangler.specs.ClassNames.{AreClassNames}
use Rattle.oxc_mangler.specs.declared.returned.ManglerReturn.{ManglerReturn}
use Rattle.oxc_mangler.specs.declared.returned.NameResult.{NameResult}
use Rattle.place_list.specs.Nodes.{scope_nodes}
use Rattle.scope_rules.specs.Bindings.{same_name}
use Rattle.scope_rules.specs.Faults.{has_fault}
use Rattle.symbol_names.specs.Named.{AreNamed, IsCounted}
use Rattle.syntax_sem.specs.ScopeId.{number_of}
use Rattle.tree_nodes.specs.Tree.{Parts}
use Rattle.tree_places.specs.Places.{places, scopes, seen}
use Rattle.tree_symbols.specs.Scopings.{IsScoping, name_set, places_of, scope_nodes_of, scopes_of}
use Rattle.tree_symbols.specs.declared.scoping.Scoping.{Scoping}

-- the scoping is that of the tree
pub record IsScopingOf (t : Parts) (s : Scoping) : Type 0 where
  pub sound : IsScoping s
  pub places : places_of s ≡ places t
  pub scopes : scopes_of s ≡ scopes t
  pub scope_nodes : scope_nodes_of s ≡ scope_nodes t

-- the symbols of a tree without faults have their new names: each that isn't kept that of its slot, each other its own; and so have its private names
pub record IsReturn (o : Options) (t : Parts) (r : ManglerReturn) : Type 0 where
  pub faultless : IsFalse (has_fault same_name (places t))
  pub scoping : IsScopingOf t r.scoping
  pub named : AreNamed o t (name_set r.scoping)
  pub private : AreClassNames (places t) (seen t).classes r.class_private_mappings
  pub counted : IsCounted o t r.names (number_of r.busiest)

-- the same, where this is the scoping
pub record IsNameResult (o : Options) (t : Parts) (s : Scoping) (r : NameResult) : Type 0 where
  pub named : AreNamed o t (name_set s)
  pub private : AreClassNames (places t) (seen t).classes r.class_private_mappings
  pub counted : IsCounted o t r.names (number_of r.busiest)
