use Rattle.std.specs.Prelude.{◌≡◌, List, slice_get, false, ℕ, IfSome, Option}
use Rattle.std.proofs.Common.{ap, subst, sym, ◌∙◌}
use Rattle.class_tables.specs.PrivateTables.{list_in}
use Rattle.name_rules.specs.PrivateNumbers.{open_names}
use Rattle.name_rules.specs.ShortNames.{short}
use Rattle.place_list.specs.TableViews.{places_in}
use Rattle.scope_rules.specs.PrivateNames.{is_among}
use Rattle.private_numbers.specs.AllNumbers.{numbers_at, table_in}
use Rattle.private_numbers.specs.Numbers.{classes_around}
use Rattle.private_numbers.specs.declared.class_numbers.ClassNumbers.{ClassNumbers}
use Rattle.private_numbers.proofs.Numbered.{number_avoids, number_read}
use Rattle.private_numbers.proofs.numbers.PrivateNumbers.number.Goals as goal

pub returns-clause-number : goal.returns-clause-number
returns-clause-number c =
    let l = list_in (table_in c.args.self.now) in
    c.number_at.ensures
    ∙ ap (λ (ns : List ℕ). slice_get ns c.args.index) (c.numbers_of.ensures ∙ ap (λ (rows : List ClassNumbers). numbers_at rows c.args.class_body) c.as_slice.ensures.value)
    ∙ number_read (places_in l) c.args.class_body (classes_around l c.args.class_body) (numbers_at c.args.self.now.classes.items c.args.class_body) (c.requires.numbered.each c.args.class_body c.requires.class_body) c.args.index

pub returns-clause-avoids : goal.returns-clause-avoids
returns-clause-avoids c =
    let l = list_in (table_in c.args.self.now) in
    subst (λ (o : Option ℕ). IfSome o (λ n. is_among (open_names (places_in l) (classes_around l c.args.class_body)) (short n) ≡ false)) (sym (returns-clause-number c))
    (number_avoids (places_in l) c.args.class_body (classes_around l c.args.class_body) c.args.index)
