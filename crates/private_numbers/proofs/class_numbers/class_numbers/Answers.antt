use Rattle.std.specs.Prelude.{List, drop, length, ℕ}
use Rattle.std.specs.Borrow.{Bor}
use Rattle.std.proofs.Common.{◌∙◌, ap, sym, subst}
use Rattle.std.proofs.lemmas.List.{length-map}
use Rattle.class_tables.specs.PrivateTables.{list_in}
use Rattle.place_list.specs.TableViews.{classes_at, places_in}
use Rattle.tree_nodes.specs.Tree.{Text}
use Rattle.private_numbers.specs.Numbers.{AreClassNumbers, classes_around}
use Rattle.private_numbers.proofs.Numbered.{closed_numbers, none_numbered}
use Rattle.private_numbers.proofs.class_numbers.class_numbers.Goals as goal

pub returns-then-is_open : goal.returns-then-is_open
returns-then-is_open c =
    let l = list_in c.args.table.now in
    subst (λ (ns : List ℕ). AreClassNumbers l c.args.class_body ns) (sym c.new.ensures.items)
    (none_numbered (places_in l) c.args.class_body (classes_around l c.args.class_body) (sym c.is_open.ensures ∙ c.if-is_open.true))

pub returns : goal.returns
returns c =
    let l = list_in c.args.table.now in
    closed_numbers (places_in l) c.args.class_body (classes_at l c.class_around-outwards.result) (classes_around l c.args.class_body) _ _ (sym c.is_open.ensures ∙ c.if-is_open.false)
    (sym (ap (drop 1) c.class_around-outwards.ensures.outwards))
    (sym (length-map c.private_names-count.result.now (λ (n : Bor Text). n.now)) ∙ ap length c.private_names-count.ensures)
    c.in_ok-numbers.ensures
