-- The five faults together: of a place, of each place, and of all.
use Rattle.std.specs.Prelude.{◌≡◌, List, [], ◌∷◌, ◌++◌}
use Rattle.scope_rules.specs.Bindings.{binding, bound, same_name}
use Rattle.scope_rules.specs.Faults.{crosses, has_crossing, has_reach, has_redeclaration, has_sloppy_function, has_undeclared, is_redeclaration, is_sloppy_function, is_undeclared, reaches_body}
use Rattle.scope_tables.specs.declared.faults.Faults.{Faults}
use Rattle.tree_places.specs.Places.{Place}

-- the faults of a place, among all these places and after those before it
unfoldable pub faults_of : List Place → List Place → Place → Faults
faults_of ps before p = record {
  redeclaration = is_redeclaration same_name before p;
  crossing = crosses same_name ps p;
  sloppy_function = is_sloppy_function p.site;
  undeclared = is_undeclared same_name ps p;
  reach = reaches_body (bound same_name ps) (record { place = p; binding = binding same_name ps p });
}

-- what f says of each item with those before it
unfoldable pub each_after : {X Y : Type 0} → (List X → X → Y) → List X → List X → List Y
each_after f before [] = []
each_after f before (x ∷ xs) = f before x ∷ each_after f (before ++ x ∷ []) xs

-- the faults of each place
unfoldable pub place_faults : List Place → List Faults
place_faults ps = each_after (faults_of ps) [] ps

-- these are the faults of these places
pub record AreFaults (ps : List Place) (f : Faults) : Type 0 where
  pub redeclaration : f.redeclaration ≡ has_redeclaration same_name ps
  pub crossing : f.crossing ≡ has_crossing same_name ps
  pub sloppy_function : f.sloppy_function ≡ has_sloppy_function ps
  pub undeclared : f.undeclared ≡ has_undeclared same_name ps
  pub reach : f.reach ≡ has_reach (bound same_name ps)
