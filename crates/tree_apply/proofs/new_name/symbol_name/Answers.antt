use Rattle.std.specs.Prelude.{◌≡◌, List, IfSome, slice_get}
use Rattle.std.specs.Option.{unwrap_or}
use Rattle.std.proofs.Common.{ap, subst, sym, ◌∙◌}
use Rattle.std.proofs.lemmas.Result.{IfOk-weaker}
use Rattle.list_laws.proofs.Members.{in_from_Contains}
use Rattle.scope_rules.specs.Bindings.{same_name}
use Rattle.scope_rules.specs.Symbols.{node_symbol, symbols}
use Rattle.syntax_sem.specs.NodeId as node_id
use Rattle.syntax_sem.specs.SymbolId as symbol_id
use Rattle.tree_apply.proofs.CalledNow.{none_there, symbol_there}
use Rattle.tree_apply.proofs.SymbolsOfPlaces.{symbol_below}
use Rattle.tree_places.specs.Places.{Place, places}
use Rattle.tree_semantic.specs.Semantics.{scoping_of}
use Rattle.tree_symbols.specs.Scopings.{name_set, places_of}
use Rattle.tree_symbols.specs.declared.scoping.Scoping.{Scoping}
use Rattle.tree_apply.proofs.new_name.symbol_name.Goals as goal

pub symbol_name-requires-clause-id : goal.symbol_name-requires-clause-id
symbol_name-requires-clause-id c = symbol_below (places_of c.scoping-scoping.result.now) (node_id.number_of c.args.node) (symbol_id.number_of c.in-Some.symbol) (sym c.in-Some.ensures)

pub returns-in-Some-clause-name : goal.returns-in-Some-clause-name
returns-in-Some-clause-name c = IfOk-weaker c.differing_name.result _ _
    (λ o h. λ t p a i at named.
    let k = symbol_id.number_of c.in-Some.symbol in
    let ps : places_of c.scoping-scoping.result.now ≡ places t = ap places_of c.scoping-scoping.ensures.own ∙ a.places in
    h ∙ symbol_there t p (in_from_Contains (places t) p i) (name_set (scoping_of c.args.semantic.now)) (node_id.number_of c.args.node) k c.symbol_name.result.now c.args.name.now at
    (c.in-Some.ensures ∙ ap (λ (qs : List Place). node_symbol same_name qs (node_id.number_of c.args.node)) ps)
    (subst (λ (s : Scoping). IfSome (slice_get (symbols same_name (places t)) k) (λ b. c.symbol_name.result.now ≡ unwrap_or (name_set s k) b.name)) c.scoping-scoping.ensures.own
    (subst (λ (qs : List Place). IfSome (slice_get (symbols same_name qs) k) (λ b. c.symbol_name.result.now ≡ unwrap_or (name_set c.scoping-scoping.result.now k) b.name)) ps c.symbol_name.ensures))
    named)
    c.differing_name.ensures.name

pub returns-in-None-clause-name : goal.returns-in-None-clause-name
returns-in-None-clause-name c = λ t p a i at named.
    none_there t p (in_from_Contains (places t) p i) (name_set (scoping_of c.args.semantic.now)) (node_id.number_of c.args.node) at
    (c.in-None.ensures ∙ ap (λ (qs : List Place). node_symbol same_name qs (node_id.number_of c.args.node)) (ap places_of c.scoping-scoping.ensures.own ∙ a.places))
