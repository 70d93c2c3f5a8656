-- The laws on live groups and slots.
use Rattle.std.specs.Prelude.{◌≡◌, ◌⊎◌, suc, List, IsTrue}
use Rattle.std.specs.List.{AllPairs, Contains}
use Rattle.name_rules.specs.Groups.{Group, Member, greatest_width, groups_of, is_live, members, width}
use Rattle.name_rules.specs.Options.{Options}
use Rattle.name_rules.specs.Slots.{Slotted, number_of_slots, slots_of}
use Rattle.tree_nodes.specs.Tree.{Parts}
use Rattle.tree_places.specs.Scopes.{Scope, is_inside}

-- what is live in a scope is live in each one further out, up to its home
abbrev pub LiveUpToHome : Type 0
LiveUpToHome = (ms : List Member) (g : Group) (s r : Scope) → IsTrue (is_live ms s g) → IsTrue (is_inside s r) → IsTrue (is_inside r g.home) → IsTrue (is_live ms r g)

-- of two groups that are live in one scope, one is live in the other's home
abbrev pub LiveTogether : Type 0
LiveTogether = (ms : List Member) (g h : Group) (s : Scope) → IsTrue (is_live ms s g) → IsTrue (is_live ms s h) → IsTrue (is_live ms h.home g) ⊎ IsTrue (is_live ms g.home h)

-- two groups of a tree, one after the other, with one slot are never live in one scope
abbrev pub Apart : List Member → Slotted → Slotted → Type 0
Apart ms b c = b.slot ≡ c.slot → (s : Scope) → IsTrue (is_live ms s b.group) → IsTrue (is_live ms s c.group) → ⊥

abbrev pub SlotsNeverClash : Type 0
SlotsNeverClash = (o : Options) (t : Parts) → AllPairs (Apart (members o t)) (slots_of o t)

-- a tree has as many slots as its greatest width
abbrev pub SlotsAreFewest : Type 0
SlotsAreFewest = (o : Options) (t : Parts) → number_of_slots (slots_of o t) ≡ greatest_width o t

-- which is reached in the home of each group with the last slot
abbrev pub WidthIsReached : Type 0
WidthIsReached = (o : Options) (t : Parts) (b : Slotted) → Contains (slots_of o t) b → suc b.slot ≡ number_of_slots (slots_of o t)
    → width (members o t) (groups_of o t) b.group.home ≡ greatest_width o t
