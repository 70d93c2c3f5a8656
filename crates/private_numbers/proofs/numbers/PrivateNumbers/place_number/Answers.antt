use Rattle.std.specs.Prelude.{◌≡◌, false, true, ℕ, Option, Some, None, option_map}
use Rattle.std.proofs.Common.{◌∙◌, rules}
use Rattle.class_tables.specs.PrivateTables.{list_in}
use Rattle.name_rules.specs.PrivateNumbers.{index_of}
use Rattle.place_list.specs.TableViews.{place_in, places_in}
use Rattle.scope_rules.specs.PrivateNames.{declaring_class, private_names}
use Rattle.tree_places.specs.Places.{Place}
use Rattle.private_numbers.specs.AllNumbers.{table_in}
use Rattle.name_rules.specs.ChosenNames.{place_number}
use Rattle.private_numbers.proofs.Places.{declared_at, declares_below, if_there, not_declared, not_private, what_is_there}
use Rattle.private_numbers.proofs.numbers.PrivateNumbers.place_number.Goals as goal

pub returns-then-not-place : goal.returns-then-not-place
returns-then-not-place c =
    let l = list_in (table_in c.args.self.now) in
    let e = c.place_of-place.result in
    let f : e.private ≡ false = search rules in
    if_there _ (place_in l e) (λ (q : Place). ◌≡◌ {A = Option ℕ} None (place_number (places_in l) q)) c.place_of-place.ensures.stands
    (not_private l c.requires.numbered.whole.bounded e c.place_of-place.ensures.known f)

pub returns-in_default : goal.returns-in_default
returns-in_default c =
    let l = list_in (table_in c.args.self.now) in
    let e = c.place_of-place.result in
    let t : e.private ≡ true = search rules in
    if_there _ (place_in l e) (λ (q : Place). ◌≡◌ {A = Option ℕ} None (place_number (places_in l) q)) c.place_of-place.ensures.stands
    (not_declared l c.requires.numbered.whole.bounded e c.place_of-place.ensures.known t
    (what_is_there _ (place_in l e) (λ (q : Place). ◌≡◌ {A = Option ℕ} None (declaring_class (places_in l) q.name q.site.setting.classes)) c.place_of-place.ensures.stands c.in_default.ensures))

pub number-requires-clause-class_body : goal.number-requires-clause-class_body
number-requires-clause-class_body c =
    let l = list_in (table_in c.args.self.now) in
    let e = c.place_of-place.result in
    declares_below l c.requires.numbered.whole.bounded e c.place_of-place.ensures.known c.in-Some.class_body
    (what_is_there _ (place_in l e) (λ (q : Place). ◌≡◌ {A = Option ℕ} (Some c.in-Some.class_body) (declaring_class (places_in l) q.name q.site.setting.classes)) c.place_of-place.ensures.stands c.in-Some.ensures)

pub returns : goal.returns
returns c =
    let l = list_in (table_in c.args.self.now) in
    let e = c.place_of-place.result in
    let t : e.private ≡ true = search rules in
    if_there _ (place_in l e) (λ (q : Place). c.number.result ≡ place_number (places_in l) q) c.place_of-place.ensures.stands
    (c.number.ensures.number
    ∙ declared_at l c.requires.numbered.whole.bounded e c.place_of-place.ensures.known c.in-Some.class_body
    (what_is_there _ (place_in l e) (λ (q : Place). ◌≡◌ {A = Option ℕ} (Some c.in-Some.class_body) (declaring_class (places_in l) q.name q.site.setting.classes)) c.place_of-place.ensures.stands c.in-Some.ensures)
    t c.in-Some-name_index.index
    (what_is_there _ (place_in l e) (λ (q : Place). ◌≡◌ {A = Option ℕ} (Some c.in-Some-name_index.index) (option_map (λ d. index_of q.name (private_names (places_in l) d)) (declaring_class (places_in l) q.name q.site.setting.classes))) c.place_of-place.ensures.stands c.in-Some-name_index.ensures))
