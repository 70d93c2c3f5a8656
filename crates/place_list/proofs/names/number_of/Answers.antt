use Rattle.std.specs.Prelude.{◌≡◌, ◌+◌, ℕ, Option, is_some, if◌then◌else◌}
use Rattle.std.specs.BTreeMap.{btree_map_len}
use Rattle.std.proofs.Common.{sym, ap, ◌∙◌, subst}
use Rattle.std.proofs.lemmas.Map.Text.{btree_map_updates_str}
use Rattle.place_list.specs.Names.{TellsApart, at_name}
use Rattle.place_list.proofs.Numbering.{keeps_the_others, tells_one_more_apart}
use Rattle.place_list.proofs.names.number_of.Goals as goal

pub returns-in_ok-insert-in-None-clause-numbering : goal.returns-in_ok-insert-in-None-clause-numbering
returns-in_ok-insert-in-None-clause-numbering c =
    let m = c.args.numbers.now in
    let next = c.in_ok-next-in-None.next in
    let none = sym c.get.ensures.value ∙ sym c.copied.ensures ∙ c.in-None.is in
    let g = c.in_ok-insert-in-None.ensures in
    let is_len : next ≡ btree_map_len m = c.in_ok-next-in-None.ensures ∙ c.len.ensures.len in
    tells_one_more_apart (at_name m) (at_name c.insert.new.self) c.args.name.now next
    (btree_map_updates_str c.args.name.now m c.insert.new.self _ g.updates)
    none
    (btree_map_len c.insert.new.self)
    (g.len ∙ ap (λ (o : Option ℕ). btree_map_len m + (if is_some o then 0 else 1)) (g.old ∙ none) ∙ ap (λ (n : ℕ). n + 1) (sym is_len))
    (subst (λ (n : ℕ). TellsApart (at_name m) n) (sym is_len) c.requires.numbering)

pub returns-in_ok-insert-in-None-clause-kept : goal.returns-in_ok-insert-in-None-clause-kept
returns-in_ok-insert-in-None-clause-kept c =
    let m = c.args.numbers.now in
    keeps_the_others (at_name m) (at_name c.insert.new.self) c.args.name.now c.in_ok-next-in-None.next
    (btree_map_updates_str c.args.name.now m c.insert.new.self _ c.in_ok-insert-in-None.ensures.updates)
    (sym c.get.ensures.value ∙ sym c.copied.ensures ∙ c.in-None.is)
