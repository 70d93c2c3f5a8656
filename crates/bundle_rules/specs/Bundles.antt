-- Modules in one scope: each under its new names, and their bodies one after another.
use Rattle.std.specs.Prelude.{◌≡◌, List, [], ◌∷◌, ◌++◌, map}
use Rattle.bundle_rules.specs.Joined.{joined}
use Rattle.bundle_rules.specs.Mentions.{mentions_of}
use Rattle.bundle_rules.specs.NewNames.{AreNewNames, Modules, names_after, needing}
use Rattle.tree_nodes.specs.Tree.{Text, Tree, alone}
use Rattle.tree_places.specs.Places.{names}
use Rattle.tree_places.specs.Renaming.{IsRenamed}

-- u is t renamed: xs are the new names of exactly the bindings of its root that need one, and stand at all their places; all other names stay
pub record IsPart (all before : Modules) (given : List Text) (t u : Tree) (xs : List Text) : Type 0 where
  pub renamed : IsRenamed (alone t) (alone u)
  pub new : AreNewNames all given (needing all before (mentions_of t)) xs
  pub names : names (alone u) ≡ names_after (needing all before (mentions_of t)) xs (mentions_of t)

-- the trees us are ts renamed, one after another; the names in `given` are there before, and all that are given at the end are `last`
abbrev pub AreParts : (all before : Modules) → (given : List Text) → (ts us : List Tree) → (last : List Text) → Type 0
AreParts all before given [] [] last = given ≡ last
AreParts all before given [] (u ∷ us) last = ⊥
AreParts all before given (t ∷ ts) [] last = ⊥
AreParts all before given (t ∷ ts) (u ∷ us) last = (xs : List Text) × IsPart all before given t u xs × AreParts all (before ++ mentions_of t ∷ []) (given ++ xs) ts us last

abbrev pub modules_of : List Tree → Modules
modules_of ts = map mentions_of ts

-- w is the modules ts in one scope
abbrev pub IsBundle : List Tree → Tree → Type 0
IsBundle ts w = (us : List Tree) × (given : List Text) × AreParts (modules_of ts) [] [] ts us given × (w ≡ joined us)
