-- Programs meet the premises of the laws on names.
use Rattle.std.specs.Prelude.{◌≡◌, ◌≤◌, ◌<◌, ℕ, ◌+◌, ◌^◌, length}
use Rattle.std.proofs.Common.{arith}
use Rattle.name_rules.proofs.Bounds as bounds
use Rattle.name_rules.proofs.Mangling as mangling
use Rattle.name_rules.proofs.Rivals as rivals
use Rattle.name_rules.proofs.Shortest as shortest
use Rattle.name_rules.specs.Groups.{greatest_width}
use Rattle.name_rules.specs.Shortest.{changed_names}
use Rattle.program_laws.proofs.NamedOnce.{tree_once}
use Rattle.program_laws.specs.Laws.{NamesOfProgramsSeparate, NoRivalOfAProgramUsesFewer, ProgramsAreRooted, ProgramsKeepFunctionNamesApart, ProgramsNameFunctionsOnce}
use Rattle.program_laws.specs.Least.{ProgramsGetLeastNames}
use Rattle.tree_core.proofs.ReadsBack.{shape_read, tree_fits}
use Rattle.tree_core.specs.Values.{value_of}
use Rattle.tree_nodes.specs.NodeCount.{nodes_in}
use Rattle.tree_nodes.specs.Tree.{alone}
use Rattle.tree_places.proofs.TreesRooted as rooted
use Rattle.scope_rules.proofs.FunctionNames as function_names
use Rattle.scope_rules.proofs.NamesSeparate as separate
use Rattle.scope_rules.specs.PrivateNames.{distinct}

pub programs_name_functions_once : ProgramsNameFunctionsOnce
programs_name_functions_once t p = tree_once t (tree_fits (value_of t) t p.0) (shape_read (value_of t) t p.0).1

pub programs_keep_function_names_apart : ProgramsKeepFunctionNamesApart
programs_keep_function_names_apart t p = function_names.function_names_stand_apart (alone t) (programs_name_functions_once t p)

pub programs_are_rooted : ProgramsAreRooted
programs_are_rooted t p = rooted.placed_trees_are_rooted t (shape_read (value_of t) t p.0).1

pub names_of_programs_separate : NamesOfProgramsSeparate
names_of_programs_separate t p free b c ib ic live n = separate.names_separate (alone t) (programs_keep_function_names_apart t p) free b c ib ic live n

pub no_rival_of_a_program_uses_fewer : NoRivalOfAProgramUsesFewer
no_rival_of_a_program_uses_fewer t o w p r = rivals.no_rival_uses_fewer (alone t) o w (programs_keep_function_names_apart t p) r

pub programs_get_least_names : ProgramsGetLeastNames
programs_get_least_names t u o p few has =
    let own : length (distinct (changed_names o (alone t) (alone u))) ≡ greatest_width o (alone t) = mangling.fewest_names o (alone t) (alone u) has in
    record {
      fewest = λ w rival.
          let other : greatest_width o (alone t) ≤ length (distinct (changed_names o (alone t) w)) = no_rival_of_a_program_uses_fewer t o w p rival in
          omega (arith, own, other);
      shortest = λ plain w g choice e. shortest.no_choice_is_shorter o (alone t) (alone u) w g plain has choice e;
      bounded = bounds.changed_names_are_bounded o (alone t) (alone u) has;
      limited = bounds.bound_is_small o (alone t) (let all : nodes_in (alone t) + length o.reserved < 2 ^ 30 = omega (arith, few) in all);
    }
