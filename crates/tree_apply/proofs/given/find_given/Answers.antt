use Rattle.std.specs.Prelude.{◌≡◌, ℕ, List, Option, length, map, option_map, slice_get, string_bytes, Some}
use Rattle.std.specs.List.{AllByRecursion, Contains}
use Rattle.std.proofs.Common.{Global, String, ap, arith, subst, sym, take_all, ◌∙◌}
use Rattle.std.proofs.lemmas.List.{length-map}
use Rattle.std.proofs.lemmas.Option.{get_or_from_slice_get, slice_get_within}
use Rattle.scope_tables.proofs.BoundPlaces.{many_places}
use Rattle.place_list.specs.TableViews.{place_in, places_in}
use Rattle.tree_apply.proofs.GivenInTurn.{one_numbered, one_taken}
use Rattle.tree_apply.specs.Applied.{HasFewBytes, new_of, numbered, taken}
use Rattle.tree_nodes.specs.Tree.{Parts, Text}
use Rattle.tree_places.specs.Places.{Place, places}
use Rattle.tree_semantic.specs.Renamed.{new_name}
use Rattle.tree_semantic.specs.Semantics.{scoping_of}
use Rattle.tree_symbols.specs.Scopings.{name_set}
use Rattle.tree_apply.proofs.given.find_given.Goals as goal

contained : (ps : List Place) (i : ℕ) (p : Place) → slice_get ps i ≡ Some p → Contains ps p
contained ps i p e = (i, slice_get_within ps i p e, get_or_from_slice_get ps i p p e)

pub loop-i-init : goal.loop-i-init
unfolding numbered taken
loop-i-init c = record {
  choices = λ t e a. c.new.ensures.items;
  names = λ t e a. ap (λ (ss : List (String Global)). map string_bytes ss) c.new-2.ensures.items;
  short = subst (λ (ss : List (String Global)). AllByRecursion (λ s. HasFewBytes (string_bytes s)) ss) (sym c.new-2.ensures.items) tt;
}

pub loop-i-preserved : goal.loop-i-preserved
loop-i-preserved c =
    let l = c.args.list.now in
    let p = place_in l c.place-place.result in
    let s = c.args.semantic.now in
    let i = c.loop-i.i in
    let f : Parts → Place → Option Text = λ t. new_of (places t) (name_set (scoping_of s)) (new_name c.args.mappings.now) in
    record {
      choices = λ t e a.
          let at : slice_get (places t) i ≡ Some p = ap (λ (ps : List Place). slice_get ps i) (sym e) ∙ c.place-place.ensures.stands in
          one_numbered (f t) (places t) i p at c.loop-i.given.choices.items _ _ (option_map string_bytes c.in_ok-name.name)
          (c.loop-i.invariant.choices t e a)
          (sym (length-map c.loop-i.given.names.items string_bytes) ∙ ap (length {A = Text}) (c.loop-i.invariant.names t e a))
          (c.in_ok-name.ensures.name l t a (contained (places t) i p at))
          c.in_ok-put.ensures.choices;
      names = λ t e a.
          let at : slice_get (places t) i ≡ Some p = ap (λ (ps : List Place). slice_get ps i) (sym e) ∙ c.place-place.ensures.stands in
          one_taken (f t) (places t) i p at (map string_bytes c.loop-i.given.names.items) _ (option_map string_bytes c.in_ok-name.name)
          (c.loop-i.invariant.names t e a)
          (c.in_ok-name.ensures.name l t a (contained (places t) i p at))
          c.in_ok-put.ensures.names;
      short = c.in_ok-put.ensures.short c.loop-i.invariant.short;
    }

pub returns-clause-choices : goal.returns-clause-choices
returns-clause-choices c = λ t e a.
    c.loop-i.invariant.choices t e a
    ∙ ap (λ (ps : List Place). numbered 0 (map (new_of (places t) (name_set (scoping_of c.args.semantic.now)) (new_name c.args.mappings.now)) ps))
    (take_all c.loop-i.i (places t) (let m : length (places_in c.args.list.now) ≡ length c.args.list.now.places.items = many_places c.args.list.now in let n : length (places_in c.args.list.now) ≡ length (places t) = ap (length {A = Place}) e in omega (arith, m, n)))

pub returns-clause-names : goal.returns-clause-names
returns-clause-names c = λ t e a.
    c.loop-i.invariant.names t e a
    ∙ ap (λ (ps : List Place). taken (map (new_of (places t) (name_set (scoping_of c.args.semantic.now)) (new_name c.args.mappings.now)) ps))
    (take_all c.loop-i.i (places t) (let m : length (places_in c.args.list.now) ≡ length c.args.list.now.places.items = many_places c.args.list.now in let n : length (places_in c.args.list.now) ≡ length (places t) = ap (length {A = Place}) e in omega (arith, m, n)))
