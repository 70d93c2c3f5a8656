use Rattle.std.specs.Prelude.{◌≡◌, ◌<◌, ℕ, length}
use Rattle.std.proofs.Common.{ap, arith, ◌∙◌}
use Rattle.scope_rules.specs.Bindings.{same_name}
use Rattle.scope_rules.specs.Symbols.{symbols}
use Rattle.tree_symbols.specs.Scopings.{places_of}
use Rattle.syntax_sem.specs.SymbolFlags.{bits_of}
use Rattle.tree_symbols.specs.Flags as flags
use Rattle.tree_symbols.proofs.Readings.{numbered_count, numbered_read}
use Rattle.tree_symbols.proofs.scoping.Scoping.symbol_flags.Goals as goal

pub index-requires : goal.index-requires
index-requires c =
    let s = c.args.self.now in
    let many : length s.symbol_flags.items ≡ length (symbols same_name (places_of s)) = numbered_count bits_of (λ k. flags.symbol_flags (places_of s) k) s.symbol_flags.items _ c.requires.scoping.flags_are in
    omega (arith, many, c.index-k.ensures.value, c.requires.id)

pub returns : goal.returns
returns c =
    let s = c.args.self.now in
    let inside : c.index-k.result < length (symbols same_name (places_of c.args.self.now)) = omega (arith, c.index-k.ensures.value, c.requires.id) in
    numbered_read bits_of (λ k. flags.symbol_flags (places_of s) k) s.symbol_flags.items (length (symbols same_name (places_of s))) c.index-k.result _ c.requires.scoping.flags_are inside c.index.ensures
    ∙ ap (λ (k : ℕ). flags.symbol_flags (places_of s) k) c.index-k.ensures.value
