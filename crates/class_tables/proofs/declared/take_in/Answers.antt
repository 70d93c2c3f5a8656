use Rattle.std.specs.Prelude.{◌≡◌, ◌<◌, ℕ, Option, Some, IfSome, length}
use Rattle.std.proofs.Common.{ap, ◌∙◌, subst}
use Rattle.scope_rules.specs.Bindings.{is_node}
use Rattle.class_tables.specs.Sights.{sight_of}
use Rattle.class_tables.proofs.Holding.{holds_more, holds_still}
use Rattle.class_tables.proofs.declared.take_in.Goals as goal

pub declare_in-requires-clause-known : goal.declare_in-requires-clause-known
declare_in-requires-clause-known c =
    let k : c.args.place.now.setting.class_body ≡ Some c.in-Some.class = subst (λ (o : Option ℕ). IfSome o (λ k. c.args.place.now.setting.class_body ≡ Some k)) c.in-Some.is c.declared_class.ensures.known in
    subst (λ (o : Option ℕ). IfSome o (λ k. k < length c.args.tables.now)) k c.requires.known

pub returns-in_ok-declare_in : goal.returns-in_ok-declare_in
unfolding sight_of is_node
returns-in_ok-declare_in c = λ bodies ss h.
    let e = c.args.place.now in
    holds_more ss c.args.tables.now c.declare_in.new.tables h (sight_of bodies e) c.in-Some.class c.in_ok-declare_in.ensures
    (λ k. c.declared_class.ensures.declares bodies k ∙ ap (λ (o : Option ℕ). is_node o k) c.in-Some.is)

pub returns-in_default : goal.returns-in_default
unfolding is_node
returns-in_default c = λ bodies ss h.
    holds_still ss c.args.tables.now c.args.tables.now h (sight_of bodies c.args.place.now) (λ k. c.declared_class.ensures.declares bodies k ∙ ap (λ (o : Option ℕ). is_node o k) c.in_default.is)
