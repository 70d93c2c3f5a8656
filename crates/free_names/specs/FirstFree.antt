-- What is asked of the first names that a guard doesn't refuse.
use Rattle.std.specs.Prelude.{◌≡◌, ◌≤◌, ℕ, ◌+◌, Bool, List, length}
use Rattle.name_rules.specs.FreeNames.{first_untaken, is_taken}
use Rattle.name_rules.specs.GivenNames.{free_names}
use Rattle.name_rules.specs.Groups.{Member}
use Rattle.free_names.specs.Guard.{is_refused}
use Rattle.name_rules.specs.Options.{Options}
use Rattle.name_rules.specs.ShortNames.{candidate}
use Rattle.tree_nodes.specs.Tree.{Text}

-- the first n candidates that a guard with these names doesn't refuse. No more than 48 names and those that were inserted are refused, so any fuel from there on is enough
abbrev pub AreFirstFree : (inserted : List Text) → (readable : Bool) → ℕ → List Text → Type 0
AreFirstFree inserted readable n names = (fuel : ℕ) → n + 48 + length inserted ≤ fuel → names ≡ first_untaken (candidate readable) (is_refused inserted) fuel n 0

-- the first n free names of each tree whose taken names are those that a guard with these names refuses
abbrev pub AreFreeWhereTaken : (inserted : List Text) → (readable : Bool) → ℕ → List Text → Type 0
AreFreeWhereTaken inserted readable n names =
    (o : Options) (ms : List Member) → o.readable ≡ readable → length inserted ≤ length o.reserved + length ms → ((x : Text) → is_refused inserted x ≡ is_taken o ms x)
    → names ≡ free_names o ms n
