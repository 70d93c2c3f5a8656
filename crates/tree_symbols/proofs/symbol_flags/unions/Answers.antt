use Rattle.std.specs.Prelude.{◌≡◌, ◌++◌, ◌∷◌, [], ℕ, List, map}
use Rattle.std.specs.List.{range_with_len}
use Rattle.std.proofs.Common.{ap, sym, ◌∙◌, arith}
use Rattle.std.proofs.lemmas.List.{map_push}
use Rattle.std.proofs.lemmas.List.FromFn.{map-range_with_len_more}
use Rattle.number_tables.specs.GroupsOf.{group_at, group_count}
use Rattle.syntax_sem.specs.Bits.{union_of}
use Rattle.syntax_sem.specs.SymbolFlags.{bits_of}
use Rattle.syntax_sem.specs.declared.symbol.SymbolFlags.{SymbolFlags}
use Rattle.tree_symbols.proofs.symbol_flags.unions.Goals as goal

pub loop-k-preserved : goal.loop-k-preserved
loop-k-preserved c =
    let together : ℕ → ℕ = λ k. union_of (map bits_of (group_at c.args.groups.now k)) in
    ap (map bits_of) c.in_ok-push.ensures.items
    ∙ map_push bits_of c.loop-k.flags.items c.union.result
    ∙ ap (λ (ns : List ℕ). ns ++ bits_of c.union.result ∷ []) c.loop-k.invariant
    ∙ ap (λ n. map together (range_with_len 0 c.loop-k.k) ++ n ∷ []) (c.union.ensures ∙ ap (λ (sets : List SymbolFlags). union_of (map bits_of sets)) c.get.ensures)
    ∙ sym (map-range_with_len_more together 0 c.loop-k.k c.loop-k.k (omega arith))

pub returns : goal.returns
returns c =
    let all : c.loop-k.k ≡ group_count c.args.groups.now = omega (arith, c.len-k-end.ensures) in
    c.loop-k.invariant ∙ ap (λ n. map (λ k. union_of (map bits_of (group_at c.args.groups.now k))) (range_with_len 0 n)) all
