-- The names that are given to a program meet the laws on names.
use Rattle.std.specs.Prelude.{◌≡◌, ◌≤◌, ◌<◌, ℕ, ◌+◌, ◌^◌, length}
use Rattle.std.proofs.Common.{subst, sym}
use Rattle.list_laws.proofs.Members.{in_from_Contains}
use Rattle.name_rules.proofs.Bounds.{bound_is_small, names_are_bounded}
use Rattle.name_rules.proofs.GivenNamesFit.{given_names_fit}
use Rattle.name_rules.proofs.GroupsInOrder.{slots_never_clash}
use Rattle.name_rules.proofs.PrivateChains.{private_numbers_differ}
use Rattle.name_rules.specs.Groups.{greatest_width}
use Rattle.name_rules.specs.Options.{Options}
use Rattle.name_rules.specs.Shortest.{changed_names}
use Rattle.oxc_mangler.specs.NameLaws.{MeetNameLaws}
use Rattle.program_laws.proofs.Programs.{no_rival_of_a_program_uses_fewer}
use Rattle.scope_rules.specs.PrivateNames.{distinct}
use Rattle.tree_core.specs.Program.{IsProgram}
use Rattle.tree_nodes.specs.NodeCount.{nodes_in}
use Rattle.tree_nodes.specs.Tree.{Tree, alone}
use Rattle.tree_places.specs.Places.{places}

pub names_meet_laws : (o : Options) (t : Tree) (count : ℕ) → IsProgram t → nodes_in (alone t) + length o.reserved < 2 ^ 30 → count ≡ greatest_width o (alone t) → MeetNameLaws o (alone t) count
names_meet_laws o t count program few wide = record {
  fewest = λ w rival. subst (λ (n : ℕ). n ≤ length (distinct (changed_names o (alone t) w))) (sym wide) (no_rival_of_a_program_uses_fewer t o w program rival);
  fit = given_names_fit o (alone t);
  apart = slots_never_clash o (alone t);
  bounded = names_are_bounded o (alone t);
  limited = bound_is_small o (alone t) few;
  private = λ p among. private_numbers_differ (alone t) p (in_from_Contains (places (alone t)) p among);
}
