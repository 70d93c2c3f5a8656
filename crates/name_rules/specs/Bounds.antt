-- The laws on how far the candidates are asked.
use Rattle.std.specs.Prelude.{◌≡◌, ◌<◌, ℕ, ◌+◌, ◌^◌, List, ◌∷◌, ◌++◌, map, length, filter}
use Rattle.std.specs.List.{Contains}
use Rattle.syntax_lex.specs.Keyword.{reserved_keywords}
use Rattle.name_rules.specs.FreeNames.{is_unchanged}
use Rattle.name_rules.specs.GivenNames.{names_of_slots}
use Rattle.name_rules.specs.Groups.{Member, members}
use Rattle.name_rules.specs.Kept.{name_arguments}
use Rattle.name_rules.specs.MangledLaws.{HasNewNames}
use Rattle.name_rules.specs.Options.{Options}
use Rattle.name_rules.specs.ShortNames.{candidate}
use Rattle.name_rules.specs.Shortest.{changed_names}
use Rattle.name_rules.specs.Slots.{number_of_slots, slots_of}
use Rattle.tree_nodes.specs.Tree.{Parts, Text}
use Rattle.tree_nodes.specs.NodeCount.{nodes_in}
use Rattle.scope_rules.specs.Evals.{name_eval}
use Rattle.scope_rules.specs.PrivateNames.{distinct}

-- all names that must not be given, some maybe more than once: the reserved keywords, `eval`, `arguments`, the reserved names, those of references without a binding and of kept bindings
unfoldable pub forbidden : Options → List Member → List Text
forbidden o ms = reserved_keywords ++ (name_eval ∷ name_arguments ∷ (o.reserved ++ map (λ m. m.place.name) (filter is_unchanged ms)))

-- the number of a tree's slots and that of the different forbidden names
unfoldable pub candidate_limit : Options → Parts → ℕ
candidate_limit o t = number_of_slots (slots_of o t) + length (distinct (forbidden o (members o t)))

-- each name that a slot gets is a candidate whose number is below these two together
abbrev pub NamesAreBounded : Type 0
NamesAreBounded = (o : Options) (t : Parts) (x : Text) → Contains (names_of_slots o t) x → (n : ℕ) × (x ≡ candidate o.readable n) × (n < candidate_limit o t)

-- so is each name that bindings which aren't kept have in a tree under its new names
abbrev pub ChangedNamesAreBounded : Type 0
ChangedNamesAreBounded = (o : Options) (t u : Parts) → HasNewNames o t u
    → (x : Text) → Contains (changed_names o t u) x → (n : ℕ) × (x ≡ candidate o.readable n) × (n < candidate_limit o t)

-- which is below 2 ^ 31, where the tree's nodes and the reserved names are fewer than 2 ^ 30
abbrev pub BoundIsSmall : Type 0
BoundIsSmall = (o : Options) (t : Parts) → nodes_in t + length o.reserved < 2 ^ 30 → candidate_limit o t < 2 ^ 31
