use Rattle.std.specs.Prelude.{Bool, cond}
use Rattle.std.proofs.Common.{ap, refl, sym, ◌∙◌}
use Rattle.std.proofs.lemmas.Result.{IfOk-weaker}
use Rattle.place_list.specs.TableViews.{place_in}
use Rattle.place_list.specs.Tables.{place_of, site_of}
use Rattle.tree_apply.specs.Applied.{new_of, private_new, symbol_new}
use Rattle.tree_places.specs.Places.{places}
use Rattle.tree_semantic.specs.Renamed as renamed
use Rattle.tree_semantic.specs.Semantics.{scoping_of}
use Rattle.tree_symbols.specs.Scopings.{name_set}
use Rattle.tree_apply.proofs.new_name.new_name.Goals as goal

pub returns-then-place-clause-name : goal.returns-then-place-clause-name
unfolding new_of place_of site_of
returns-then-place-clause-name c = IfOk-weaker c.private_name.result _ _
    (λ o h. λ l t a i.
    let p = place_in l c.args.place.now in
    h t p a i c.if-place.true (sym c.in_ok-node.ensures) refl
    ∙ sym (ap (λ (b : Bool). cond b (private_new (places t) (renamed.new_name c.args.mappings.now) p) (symbol_new (places t) (name_set (scoping_of c.args.semantic.now)) p)) c.if-place.true))
    c.private_name.ensures.name

pub returns-else-place-clause-name : goal.returns-else-place-clause-name
unfolding new_of place_of site_of
returns-else-place-clause-name c = IfOk-weaker c.symbol_name.result _ _
    (λ o h. λ l t a i.
    let p = place_in l c.args.place.now in
    h t p a i (sym c.in_ok-node.ensures) refl
    ∙ sym (ap (λ (b : Bool). cond b (private_new (places t) (renamed.new_name c.args.mappings.now) p) (symbol_new (places t) (name_set (scoping_of c.args.semantic.now)) p)) c.if-place.false))
    c.symbol_name.ensures.name
