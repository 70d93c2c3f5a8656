use Rattle.std.specs.Prelude.{◌≡◌, ◌<◌, ◌≤◌, ◌+◌, ◌∷◌, [], ℕ, List, length, map}
use Rattle.std.proofs.Common.{◌∙◌, ap, sym, arith}
use Rattle.number_tables.specs.GroupsOf.{group_at, group_count}
use Rattle.syntax_sem.specs.ScopeId as scope_id
use Rattle.syntax_sem.specs.SymbolId.{number_of}
use Rattle.syntax_sem.specs.declared.symbol.symbol_id.SymbolId.{SymbolId}
use Rattle.tree_symbols.specs.Around.{listed_from}
use Rattle.tree_symbols.proofs.Outwards.{next_listed, none_listed}
use Rattle.tree_symbols.proofs.iterators.BindingsIterator.next.Goals as goal

pub returns-then-scope-len-clause-steps : goal.returns-then-scope-len-clause-steps
returns-then-scope-len-clause-steps c =
    let g = c.self.inside.lists.now in
    let s = c.self.inside.at in
    let h : c.self.inside.at < group_count c.self.inside.lists.now = omega (arith, c.if-scope-len.true, c.len.ensures) in
    sym c.self.view_is ∙ next_listed g s h
    ∙ ap (λ (n : ℕ). (n, map number_of (group_at g s)) ∷ listed_from g (s + 1)) (sym c.from_usize.ensures)
    ∙ ap (λ (ids : List SymbolId). (scope_id.number_of c.from_usize.result, map number_of ids) ∷ listed_from g (s + 1)) (sym c.get.ensures)

pub returns-then-scope-len-clause-goes : goal.returns-then-scope-len-clause-goes
returns-then-scope-len-clause-goes c =
    let g = c.self.inside.lists.now in
    let s = c.self.inside.at in
    let h : c.self.inside.at < group_count c.self.inside.lists.now = omega (arith, c.if-scope-len.true, c.len.ensures) in
    let longer = ap length (sym c.self.view_is ∙ next_listed g s h) in
    record { on = λ f. (tt, tt, omega (arith, longer)); keeps = tt; rests = λ f. tt }

pub returns-else-scope-len-clause-steps : goal.returns-else-scope-len-clause-steps
returns-else-scope-len-clause-steps c =
    let past : group_count c.self.inside.lists.now ≤ c.self.inside.at = omega (arith, c.if-scope-len.false, c.len.ensures) in
    let none : c.args.self.now ≡ [] = sym c.self.view_is ∙ none_listed c.self.inside.lists.now c.self.inside.at past in
    (none, none)
