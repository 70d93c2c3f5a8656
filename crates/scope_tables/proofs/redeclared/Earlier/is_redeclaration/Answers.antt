use Rattle.std.specs.Prelude.{◌≡◌, ℕ, Bool, not, List, Option, is_some}
use Rattle.std.specs.List.{Contains, list_any}
use Rattle.std.proofs.Common.{sym, ap, ◌∙◌}
use Rattle.tree_places.specs.Scopes.{Scope}
use Rattle.scope_rules.specs.Bindings.{declares_at, same_name}
use Rattle.scope_rules.specs.Faults.{is_single_at}
use Rattle.scope_rules.specs.Homes.{home, is_joinable}
use Rattle.scope_tables.specs.Firsts.{first_at}
use Rattle.scope_tables.specs.Keys.{at_key, number_from}
use Rattle.place_list.specs.TableViews.{place_in, scope_at}
use Rattle.place_list.specs.Tables.{place_of}
use Rattle.scope_tables.specs.Views.{IsScope, Stands, home_number, places_of, site_in}
use Rattle.place_list.specs.declared.tables.PlaceEntry.{PlaceEntry}
use Rattle.place_list.specs.declared.tables.PlaceList.{PlaceList}
use Rattle.scope_tables.specs.declared.sites.Declaring.{Declaring}
use Rattle.scope_tables.specs.declared.sites.Declaring.TheVariants.{Plainly, Singly}
use Rattle.scope_tables.proofs.Numbers.{home_at, home_is_known}
use Rattle.scope_tables.proofs.Binders.{first_is_declared, first_is_single}
use Rattle.scope_tables.proofs.Clashes.{by_the_first, by_the_second, by_the_third, clashes, clashes_not}
use Rattle.scope_tables.proofs.redeclared.Earlier.is_redeclaration.Goals as goal

module _ (l : PlaceList) (all some : List PlaceEntry) (q : PlaceEntry) (stands : Stands l q) (among : Contains all q) (h n : ℕ) (at_home : h ≡ number_from (home_number q)) (number : n ≡ q.name_number) (m : ℕ → ℕ → Option ℕ) (b : Bool) (asks : b ≡ is_some (m h n)) where
  -- whether a map has something at the place's home and number is whether one of these declares its name there
  asked : (d : Declaring) → ((s : Option ℕ) → IsScope l s → (p : PlaceEntry) → Contains all p → m (number_from s) p.name_number ≡ first_at d (places_of l some) p.name.now (scope_at l s))
      → b ≡ is_some (first_at d (places_of l some) q.name.now (home (site_in l q)))
  asked d holds =
      asks ∙ ap (λ (k : ℕ). is_some (m k n)) at_home ∙ ap (λ (k : ℕ). is_some (m (number_from (home_number q)) k)) number ∙ ap is_some (holds (home_number q) (home_is_known l q stands) q among)
      ∙ ap (λ (s : Scope). is_some (first_at d (places_of l some) q.name.now s)) (home_at l q)

  -- so of the first places, and of those beside which no other may be
  asked_plain : ((s : Option ℕ) → IsScope l s → (p : PlaceEntry) → Contains all p → m (number_from s) p.name_number ≡ first_at Plainly (places_of l some) p.name.now (scope_at l s))
      → b ≡ list_any (declares_at same_name q.name.now (home (site_in l q))) (places_of l some)
  asked_plain holds = asked Plainly holds ∙ first_is_declared _ _ _

  asked_single : ((s : Option ℕ) → IsScope l s → (p : PlaceEntry) → Contains all p → m (number_from s) p.name_number ≡ first_at Singly (places_of l some) p.name.now (scope_at l s))
      → b ≡ list_any (is_single_at same_name q.name.now (home (site_in l q))) (places_of l some)
  asked_single holds = asked Singly holds ∙ first_is_single _ _ _

pub returns-then-not-declares_plainly : goal.returns-then-not-declares_plainly
unfolding place_of
returns-then-not-declares_plainly c = λ all some j e.
    let ss = c.args.list.now in
    sym (clashes_not (place_in ss c.args.place.now) (sym (c.declares_plainly.ensures ss) ∙ c.if-not-declares_plainly.true) (places_of ss some))

pub returns-then-contains_key-2 : goal.returns-then-contains_key-2
unfolding place_of
returns-then-contains_key-2 c = λ all some j e.
    let ss = c.args.list.now in
    let q = c.args.place.now in
    let k = c.key_of-key in
    let is_there = asked_plain ss all some q c.requires j k.result.within k.result.name k.ensures.within k.ensures.name (at_key c.args.self.now.plain) c.contains_key.result c.contains_key.ensures e.plain in
    let is_single = asked_single ss all some q c.requires j k.result.within k.result.name k.ensures.within k.ensures.name (at_key c.args.self.now.singles) c.contains_key-then-contains_key.result c.contains_key-then-contains_key.ensures e.singles in
    is_single ∙ by_the_second _ _ (is_joinable (site_in ss q)) (sym is_there ∙ c.if-contains_key.true) (sym is_single ∙ c.if-contains_key-2.true)
    ∙ sym (clashes (place_in ss q) (sym (c.declares_plainly.ensures ss) ∙ c.if-not-declares_plainly.false) (places_of ss some))

pub returns-else-contains_key-2 : goal.returns-else-contains_key-2
unfolding place_of
returns-else-contains_key-2 c = λ all some j e.
    let ss = c.args.list.now in
    let q = c.args.place.now in
    let k = c.key_of-key in
    let is_there = asked_plain ss all some q c.requires j k.result.within k.result.name k.ensures.within k.ensures.name (at_key c.args.self.now.plain) c.contains_key.result c.contains_key.ensures e.plain in
    let is_single = asked_single ss all some q c.requires j k.result.within k.result.name k.ensures.within k.ensures.name (at_key c.args.self.now.singles) c.contains_key-then-contains_key.result c.contains_key-then-contains_key.ensures e.singles in
    ap not c.is_joinable.ensures
    ∙ by_the_third _ _ (is_joinable (site_in ss q)) (sym is_there ∙ c.if-contains_key.true) (sym is_single ∙ c.if-contains_key-2.false)
    ∙ sym (clashes (place_in ss q) (sym (c.declares_plainly.ensures ss) ∙ c.if-not-declares_plainly.false) (places_of ss some))

pub returns-else-contains_key : goal.returns-else-contains_key
unfolding place_of
returns-else-contains_key c = λ all some j e.
    let ss = c.args.list.now in
    let q = c.args.place.now in
    let k = c.key_of-key in
    let is_there = asked_plain ss all some q c.requires j k.result.within k.result.name k.ensures.within k.ensures.name (at_key c.args.self.now.plain) c.contains_key.result c.contains_key.ensures e.plain in
    is_there ∙ by_the_first _ (list_any (is_single_at same_name q.name.now (home (site_in ss q))) (places_of ss some)) (is_joinable (site_in ss q)) (sym is_there ∙ c.if-contains_key.false)
    ∙ sym (clashes (place_in ss q) (sym (c.declares_plainly.ensures ss) ∙ c.if-not-declares_plainly.false) (places_of ss some))
