use Rattle.std.specs.Prelude.{None, Some}
use Rattle.std.proofs.Common.{ap, subst, sym, ◌∙◌}
use Rattle.std.proofs.lemmas.Result.{IfOk-weaker}
use Rattle.list_laws.proofs.Members.{in_from_Contains}
use Rattle.syntax_sem.specs.ClassId as class_id
use Rattle.syntax_sem.specs.NodeId as node_id
use Rattle.tree_apply.proofs.CalledNow.{private_there}
use Rattle.tree_places.specs.Places.{places, seen}
use Rattle.tree_semantic.specs.ClassBodies.{AreClassesOf}
use Rattle.tree_semantic.specs.Renamed.{new_name}
use Rattle.tree_semantic.specs.declared.classes.Classes.{Classes}
use Rattle.tree_apply.proofs.new_name.private_name.Goals as goal

pub returns-in-Some-clause-name : goal.returns-in-Some-clause-name
returns-in-Some-clause-name c = IfOk-weaker c.class_name.result _ _
    (λ o h. λ t p a i public at named.
    h ∙ ap (new_name c.args.mappings.now (class_id.number_of c.in-Some.class)) (sym named)
    ∙ private_there t p (in_from_Contains (places t) p i) (new_name c.args.mappings.now) (node_id.number_of c.args.node) public at (Some (class_id.number_of c.in-Some.class))
    (c.in-Some.ensures.class (places t) (seen t).classes (subst (λ (k : Classes). AreClassesOf (places t) (seen t).classes k) (sym c.classes.ensures) a.classes)))
    c.class_name.ensures.name

pub returns-in-None-clause-name : goal.returns-in-None-clause-name
returns-in-None-clause-name c = λ t p a i public at named.
    private_there t p (in_from_Contains (places t) p i) (new_name c.args.mappings.now) (node_id.number_of c.args.node) public at None
    (c.in-None.ensures.class (places t) (seen t).classes (subst (λ (k : Classes). AreClassesOf (places t) (seen t).classes k) (sym c.classes.ensures) a.classes))
