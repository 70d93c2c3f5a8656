use Rattle.std.specs.Prelude.{◌≡◌, ◌<◌, ◌+◌, ◌-◌, ◌≢◌, ℕ, length}
use Rattle.std.specs.List.{AllByRecursion}
use Rattle.std.proofs.Common.{◌∙◌, arith, sym, subst}
use Rattle.std.proofs.lemmas.Bool.{eqb-false}
use Rattle.std.proofs.lemmas.List.{get_or-map, length-map}
use Rattle.tree_symbols.specs.Known.{nodes_of}
use Rattle.tree_symbols.specs.declared.known.KnownPlace.{KnownPlace}
use Rattle.tree_symbols.proofs.Fitting.{rising_last}
use Rattle.tree_symbols.proofs.rows.above_nodes.Goals as goal

pub returns-else-is_empty : goal.returns-else-is_empty
returns-else-is_empty c =
    let ks = c.args.places.now in
    let some : 0 < length c.args.places.now = (let apart : length c.args.places.now ≢ 0 = eqb-false (length c.args.places.now) 0 (sym c.is_empty.ensures ∙ c.if-is_empty.false) in omega (arith, apart)) in
    let many : length (nodes_of c.args.places.now) ≡ length c.args.places.now = length-map c.args.places.now (λ (k : KnownPlace). k.place.node) in
    let last : length c.args.places.now - 1 < length c.args.places.now = omega (arith, some) in
    subst (λ (n : ℕ). AllByRecursion (λ m. m < n + 1) (nodes_of ks)) (get_or-map (λ (k : KnownPlace). k.place.node) ks (length ks - 1) _ 0 last)
    (rising_last 0 (nodes_of ks) (length ks - 1) 0 (omega (arith, some, many)) c.requires)
