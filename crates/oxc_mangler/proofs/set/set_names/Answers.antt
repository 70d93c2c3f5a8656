use Rattle.std.specs.Prelude.{◌≡◌, List, length}
use Rattle.std.proofs.Common.{ap, arith, sym, ◌∙◌}
use Rattle.scope_rules.specs.Bindings.{same_name}
use Rattle.scope_rules.specs.Symbols.{symbols}
use Rattle.symbol_names.proofs.NamesSet.{all_set, none_yet, one_set}
use Rattle.tree_places.specs.Places.{Place}
use Rattle.tree_semantic.specs.Semantics.{scoping_of}
use Rattle.tree_symbols.specs.Scopings.{name_set, places_of}
use Rattle.oxc_mangler.proofs.set.set_names.Goals as goal

pub loop-k-init : goal.loop-k-init
loop-k-init c = record {
  semantic = c.reset_symbol_names.ensures.semantic;
  same = c.reset_symbol_names.ensures.same;
  names = λ j. c.reset_symbol_names.ensures.names j ∙ none_yet c.args.names.now j;
}

pub set_name-requires-clause-symbol : goal.set_name-requires-clause-symbol
set_name-requires-clause-symbol c =
    let t = c.requires.semantic.tree in
    let a = c.requires.semantic.of_tree in
    let b = c.loop-k.invariant.same t a in
    let same : length (symbols same_name (places_of (scoping_of c.loop-k.semantic))) ≡ length (symbols same_name (places_of (scoping_of c.args.semantic.now))) = ap (λ (ps : List Place). length (symbols same_name ps)) (b.places ∙ sym a.places) in
    omega (arith, same, c.requires.few)

pub loop-k-preserved : goal.loop-k-preserved
loop-k-preserved c = record {
  semantic = c.set_name.ensures.semantic;
  same = λ t a. c.set_name.ensures.same t (c.loop-k.invariant.same t a);
  names = λ j. one_set c.args.names.now c.loop-k.k j (name_set (scoping_of c.loop-k.semantic) j) c.name_of.result _ c.name_of.ensures (c.loop-k.invariant.names j) (c.set_name.ensures.names j);
}

pub returns-clause-names : goal.returns-clause-names
returns-clause-names c = λ k. c.loop-k.invariant.names k ∙ all_set c.args.names.now c.loop-k.k k (omega arith)
