use Rattle.std.specs.Prelude.{◌≡◌, ◌<◌, length, Some}
use Rattle.std.proofs.Common.{refl, sym, ap, ◌∙◌, subst, arith}
use Rattle.std.proofs.lemmas.List.{length-set}
use Rattle.std.specs.Vec.{with_item}
use Rattle.scope_rules.specs.Bindings.{same_name}
use Rattle.scope_rules.specs.Evals.{contains}
use Rattle.scope_rules.specs.Symbols.{symbols}
use Rattle.syntax_sem.specs.SymbolId.{number_of}
use Rattle.syntax_sem.specs.declared.symbol.symbol_id.SymbolId.{SymbolId}
use Rattle.tree_symbols.specs.Scopings.{name_set, places_of, under_names}
use Rattle.tree_symbols.specs.declared.scoping.Scoping.{Scoping}
use Rattle.tree_symbols.proofs.Mapped.{below_mapped}
use Rattle.tree_symbols.proofs.NamesSet.{names_more}
use Rattle.tree_symbols.proofs.scoping.Scoping.set_symbol_names.Goals as goal

pub loop-id-init : goal.loop-id-init
unfolding contains
loop-id-init c = record { same = refl; many = refl; names = λ k. refl }

pub index_mut-requires : goal.index_mut-requires
index_mut-requires c =
    let count : length c.args.self.now.names.items ≡ length (symbols same_name (places_of c.args.self.now)) = c.requires.scoping.names_length in
    let h : number_of c.id-item.result < length (symbols same_name (places_of c.args.self.now)) =
    subst (λ (x : SymbolId). number_of x < length (symbols same_name (places_of c.args.self.now))) (sym c.id-item.is) (below_mapped number_of _ c.args.ids.now c.loop-id.id-index c.id-item.result c.requires.ids c.loop-id-test.true) in
    omega (arith, h, count, c.index.ensures.value, c.loop-id.invariant.many)

pub loop-id-preserved : goal.loop-id-preserved
loop-id-preserved c =
    let count : length c.args.self.now.names.items ≡ length (symbols same_name (places_of c.args.self.now)) = c.requires.scoping.names_length in
    let h : number_of c.id-item.result < length (symbols same_name (places_of c.args.self.now)) =
    subst (λ (x : SymbolId). number_of x < length (symbols same_name (places_of c.args.self.now))) (sym c.id-item.is) (below_mapped number_of _ c.args.ids.now c.loop-id.id-index c.id-item.result c.requires.ids c.loop-id-test.true) in
    record {
      same = ap (λ (s : Scoping). under_names s (with_item c.loop-id.self.names c.index.result (Some c.args.name.now))) c.loop-id.invariant.same;
      many = length-set c.loop-id.self.names.items c.index.result (Some c.args.name.now) ∙ c.loop-id.invariant.many;
      names = names_more number_of c.args.ids.now c.loop-id.id-index c.id-item.result c.id-item.result c.index.result c.loop-id.self.names.items (λ k. name_set c.args.self.now k) c.args.name.now c.loop-id-test.true c.id-item.is c.index.ensures.value
          (omega (arith, h, count, c.index.ensures.value, c.loop-id.invariant.many)) c.loop-id.invariant.names;
    }
