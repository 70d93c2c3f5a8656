use Rattle.std.specs.Prelude.{◌≡◌, ◌<◌, length}
use Rattle.std.proofs.Common.{arith, ◌∙◌}
use Rattle.tree_places.specs.Scopes.{Scope}
use Rattle.tree_symbols.specs.Scopings.{parent_of, scopes_of}
use Rattle.place_list.proofs.OutwardWalks.{lower}
use Rattle.syntax_sem.specs.ScopeId.{number_of}
use Rattle.tree_symbols.proofs.Fitting.{some_weaken}
use Rattle.tree_symbols.proofs.Outwards.{parent_told}
use Rattle.tree_symbols.proofs.Readings.{scopes_many, told_of}
use Rattle.std.specs.Prelude.{option_map}
use Rattle.tree_symbols.proofs.scoping.Scoping.scope_parent_id.Goals as goal

pub parent-requires-clause-scope : goal.parent-requires-clause-scope
parent-requires-clause-scope c =
    let many : length (scopes_of c.args.self.now) ≡ length c.args.self.now.tables.list.scopes.items = scopes_many c.args.self.now.tables.list in
    omega (arith, many, c.index.ensures.value, c.requires.id)

pub scope_at-requires : goal.scope_at-requires
scope_at-requires c = some_weaken c.index.result 4294967295 c.parent.result (let h : c.index.result < 4294967295 = c.index.ensures.below in omega (arith, h)) c.parent.ensures.below

pub returns : goal.returns
returns c =
    let l = c.args.self.now.tables.list in
    let inside : c.index.result < length l.scopes.items = (let many : length (scopes_of c.args.self.now) ≡ length l.scopes.items = scopes_many l in omega (arith, many, c.index.ensures.value, c.requires.id)) in
    told_of (scopes_of c.args.self.now) (λ (s : Scope). c.parent.result ≡ parent_of s) (λ (s : Scope). option_map number_of c.scope_at.result ≡ parent_of s) c.index.result (number_of c.args.id) c.index.ensures.value
    (λ s e. c.scope_at.ensures ∙ e) (parent_told l c.index.result c.parent.result (lower (length l.scopes.items) c.index.result c.parent.result inside c.parent.ensures.below) c.parent.ensures.outwards)
