use Rattle.std.specs.Prelude.{◌≤◌, ◌<◌, ◌*◌, ℕ, List, length}
use Rattle.std.specs.Borrow.{Bor}
use Rattle.std.proofs.Common.{sym, subst, ap, ◌∙◌, arith, rules}
use Rattle.std.proofs.lemmas.List.{length-map}
use Rattle.tree_nodes.specs.Tree.{Text}
use Rattle.class_tables.specs.Outwards.{outer}
use Rattle.class_tables.proofs.Counting.{around_small, count_closed, count_open, outer_lower}
use Rattle.class_tables.proofs.Holding.{names_get, short_names}
use Rattle.class_tables.proofs.counts.count_at.Goals as goal

pub overflow_add-result : goal.overflow_add-result
overflow_add-result c =
    let a : c.count_around-around.result ≤ 4294967296 * c.args.class = subst (λ (n : ℕ). n ≤ 4294967296 * c.args.class) (sym c.count_around-around.ensures)
    (around_small c.args.counts.now c.args.class c.outer.result (outer_lower (outer c.args.bodies.now) c.requires.fall c.args.class c.outer.result c.outer.ensures) c.requires.bounded) in
    let s : length c.as_slice.result.now < 4294967296 = subst (λ (xs : List (Bor Text)). length xs < 4294967296) (sym c.as_slice.ensures.value) (short_names c.args.tables.now c.args.class 4294967296 _ c.requires.tables c.requires.short) in
    search rules

pub returns-then-flags-class-clause-count : goal.returns-then-flags-class-clause-count
returns-then-flags-class-clause-count c = count_open c.args.tables.now c.args.flags.now (outer c.args.bodies.now) c.args.counts.now c.args.class _ c.outer.result c.outer.ensures c.count_around-around.ensures c.if-flags-class.true

pub returns-then-flags-class-clause-bounded : goal.returns-then-flags-class-clause-bounded
returns-then-flags-class-clause-bounded c =
    let a : c.count_around-around.result ≤ 4294967296 * c.args.class = subst (λ (n : ℕ). n ≤ 4294967296 * c.args.class) (sym c.count_around-around.ensures)
    (around_small c.args.counts.now c.args.class c.outer.result (outer_lower (outer c.args.bodies.now) c.requires.fall c.args.class c.outer.result c.outer.ensures) c.requires.bounded) in
    omega arith

pub returns-else-flags-class-clause-count : goal.returns-else-flags-class-clause-count
returns-else-flags-class-clause-count c = count_closed c.args.tables.now c.args.flags.now (outer c.args.bodies.now) c.args.counts.now c.args.class _ _ c.outer.result c.outer.ensures c.count_around-around.ensures c.if-flags-class.false
    (ap length c.as_slice.ensures.value ∙ sym (length-map _ (λ (n : Bor Text). n.now)) ∙ ap length (names_get c.args.tables.now c.args.class _ c.requires.tables))

pub returns-else-flags-class-clause-bounded : goal.returns-else-flags-class-clause-bounded
returns-else-flags-class-clause-bounded c =
    let a : c.count_around-around.result ≤ 4294967296 * c.args.class = subst (λ (n : ℕ). n ≤ 4294967296 * c.args.class) (sym c.count_around-around.ensures)
    (around_small c.args.counts.now c.args.class c.outer.result (outer_lower (outer c.args.bodies.now) c.requires.fall c.args.class c.outer.result c.outer.ensures) c.requires.bounded) in
    let s : length c.as_slice.result.now < 4294967296 = subst (λ (xs : List (Bor Text)). length xs < 4294967296) (sym c.as_slice.ensures.value) (short_names c.args.tables.now c.args.class 4294967296 _ c.requires.tables c.requires.short) in
    omega arith
