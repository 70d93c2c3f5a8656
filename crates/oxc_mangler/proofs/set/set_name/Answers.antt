use Rattle.std.specs.Prelude.{◌≡◌, ◌||◌, Bool, true, false, cond, nat_eq, Option, Some}
use Rattle.std.proofs.Common.{ap, arith, refl, sym, ◌∙◌}
use Rattle.scope_rules.specs.Bindings.{or_else}
use Rattle.scope_rules.specs.Evals.{contains}
use Rattle.symbol_names.proofs.NamesSet.{nothing_set}
use Rattle.syntax_sem.specs.SymbolId.{number_of}
use Rattle.tree_nodes.specs.Tree.{Text}
use Rattle.tree_semantic.specs.Semantics.{scoping_of}
use Rattle.tree_symbols.specs.Scopings.{name_set}
use Rattle.oxc_mangler.proofs.set.set_name.Goals as goal

or_false : (b : Bool) → (b || false) ≡ b
or_false true = refl
or_false false = refl

pub from_usize-requires : goal.from_usize-requires
from_usize-requires c = omega (arith, c.requires.symbol, c.requires.semantic.of_tree.scoping.few_symbols)

pub returns-in-Some-clause-names : goal.returns-in-Some-clause-names
unfolding contains or_else
returns-in-Some-clause-names c = λ j.
    let old : Option Text = name_set (scoping_of c.args.semantic.now) j in
    c.set_symbol_names.ensures.names j
    ∙ ap (λ (b : Bool). cond b (Some c.in-Some.name) old) (or_false (nat_eq j (number_of c.from_usize.result)) ∙ ap (nat_eq j) c.from_usize.ensures)
    ∙ ap (λ (o : Option Text). cond (nat_eq j c.args.k) (or_else o old) old) (sym c.in-Some.is)

pub returns-in_default-clause-names : goal.returns-in_default-clause-names
returns-in_default-clause-names c = λ j. nothing_set c.args.name (nat_eq j c.args.k) (name_set (scoping_of c.args.semantic.now) j) (λ x e. c.in_default.not-Some x e)
