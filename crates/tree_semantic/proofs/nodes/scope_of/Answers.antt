use Rattle.std.specs.Prelude.{◌≡◌, IfOk, Option, ℕ}
use Rattle.std.proofs.Common.{ap, subst, sym, ◌∙◌}
use Rattle.place_list.specs.TableViews.{scope_at}
use Rattle.scope_rules.specs.Symbols.{own_number}
use Rattle.syntax_sem.specs.ScopeId.{number_of}
use Rattle.tree_symbols.specs.ReferenceTables.{or_root}
use Rattle.tree_semantic.proofs.NodesTold.{outside_told}
use Rattle.tree_semantic.proofs.nodes.scope_of.Goals as goal

pub returns-in-Some : goal.returns-in-Some
returns-in-Some c =
    subst (λ (o : Option ℕ). IfOk c.numbered_scope.result (λ s. number_of s ≡ or_root (own_number (scope_at c.args.list.now o)))) (sym c.in-Some.is) c.numbered_scope.ensures

pub returns-in-None : goal.returns-in-None
returns-in-None c = c.from_usize.ensures ∙ outside_told c.args.list.now ∙ ap (λ (o : Option ℕ). or_root (own_number (scope_at c.args.list.now o))) (sym c.in-None.is)
