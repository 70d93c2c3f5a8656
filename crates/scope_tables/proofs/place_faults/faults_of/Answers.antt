use Rattle.std.specs.Prelude.{List, Option, ℕ}
use Rattle.std.proofs.Common.{ap, ◌∙◌}
use Rattle.place_list.specs.TableViews.{place_in}
use Rattle.place_list.specs.Tables.{place_of}
use Rattle.scope_rules.specs.Bindings.{Bound, bound, same_name}
use Rattle.scope_rules.specs.Faults.{reaches_body}
use Rattle.scope_tables.specs.FaultsOf.{faults_of}
use Rattle.scope_tables.specs.Views.{bound_of, places_of}
use Rattle.scope_tables.proofs.EachPlace.{flags_are}
use Rattle.scope_tables.proofs.place_faults.faults_of.Goals as goal
use Rattle.tree_nodes.specs.Tree.{Text}

pub returns : goal.returns
unfolding faults_of bound_of place_of
returns c = λ bs all some among declarations tables are earlier is.
    let l = c.args.list.now in
    let p = c.args.place.now in
    flags_are
    (c.is_redeclaration.ensures all some among earlier)
    (c.crosses.ensures all declarations among)
    c.is_sloppy_function.ensures
    (c.is_undeclared.ensures all tables.private_names among)
    (c.reaches_body.ensures bs tables.bodies tables.heads
    ∙ ap (λ (cs : List (Bound Text)). reaches_body cs (bound_of l p)) are
    ∙ ap (λ (o : Option ℕ). reaches_body (bound same_name (places_of l all)) (record { place = place_in l p.place; binding = o })) is)
