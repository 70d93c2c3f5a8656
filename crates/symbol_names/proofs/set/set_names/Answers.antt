use Rattle.std.specs.Prelude.{◌≡◌, ◌<◌, length}
use Rattle.std.proofs.Common.{ap, arith, sym, ◌∙◌}
use Rattle.scope_rules.specs.Bindings.{same_name}
use Rattle.scope_rules.specs.Symbols.{symbols}
use Rattle.symbol_names.proofs.NamesSet.{all_set, none_yet, one_set}
use Rattle.tree_symbols.specs.Scopings.{name_set, places_of, under_names}
use Rattle.tree_symbols.specs.declared.scoping.Scoping.{Scoping}
use Rattle.symbol_names.proofs.set.set_names.Goals as goal

pub loop-k-init : goal.loop-k-init
loop-k-init c = record {
  scoping = c.reset_symbol_names.ensures.scoping;
  same = c.reset_symbol_names.ensures.same;
  names = λ j. c.reset_symbol_names.ensures.names j ∙ none_yet c.args.names.now j;
}

pub set_name-requires-clause-symbol : goal.set_name-requires-clause-symbol
set_name-requires-clause-symbol c =
    let same : length (symbols same_name (places_of c.loop-k.scoping)) ≡ length (symbols same_name (places_of c.args.scoping.now)) = ap (λ (s : Scoping). length (symbols same_name (places_of s))) c.loop-k.invariant.same in
    omega (arith, same, c.requires.few)

pub loop-k-preserved : goal.loop-k-preserved
loop-k-preserved c = record {
  scoping = c.set_name.ensures.scoping;
  same = c.set_name.ensures.same ∙ ap (λ (s : Scoping). under_names s c.set_name.new.scoping.names) c.loop-k.invariant.same;
  names = λ j. one_set c.args.names.now c.loop-k.k j (name_set c.loop-k.scoping j) c.name_of.result _ c.name_of.ensures (c.loop-k.invariant.names j) (c.set_name.ensures.names j);
}

pub returns-clause-names : goal.returns-clause-names
returns-clause-names c = λ k. c.loop-k.invariant.names k ∙ all_set c.args.names.now c.loop-k.k k (omega arith)
