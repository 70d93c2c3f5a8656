use Rattle.std.specs.Prelude.{◌≡◌, ◌+◌, ℕ, List, None, cond, length, nat_lt}
use Rattle.std.proofs.Common.{ap, arith, le-ltb, sym, ◌∙◌}
use Rattle.class_tables.specs.PrivateTables.{list_in}
use Rattle.class_tables.specs.declared.private_table.PrivateTable.{PrivateTable}
use Rattle.oxc_mangler.proofs.ClassNamesFound.{names_found, names_of, none_past}
use Rattle.oxc_mangler.proofs.LookedUp.{one_class}
use Rattle.oxc_mangler.specs.ClassNames.{looked_up, new_class_name}
use Rattle.place_list.specs.TableViews.{places_in}
use Rattle.place_list.specs.declared.tables.PlaceList.{PlaceList}
use Rattle.private_numbers.specs.AllNumbers.{table_in}
use Rattle.scope_rules.specs.PrivateNames.{private_names}
use Rattle.tree_nodes.specs.Tree.{Text}
use Rattle.tree_semantic.specs.Renamed.{class_count}
use Rattle.oxc_mangler.proofs.class_names.class_names.Goals as goal

pub loop-class_body-init : goal.loop-class_body-init
loop-class_body-init c = record {
  count = c.new-names.ensures;
  names = λ k x. none_past c.new-names.result k x (let e : class_count c.new-names.result ≡ 0 = c.new-names.ensures in omega (arith, e)) ∙ sym (ap (λ b. cond b (names_of (list_in c.args.table.now) k x) None) (le-ltb k 0 (omega arith)));
}

pub push_names-requires-clause-class_body : goal.push_names-requires-clause-class_body
push_names-requires-clause-class_body c =
    let same : length (list_in (table_in c.args.numbers.now)).class_bodies.items ≡ length (list_in c.args.table.now).class_bodies.items = ap (λ (t : PrivateTable). length (list_in t).class_bodies.items) c.requires.same in
    omega (arith, same, ap (λ (l : PlaceList). length l.class_bodies.items) c.list.ensures, ap length c.as_slice-count.ensures.value, c.loop-class_body-test.true)

pub push_names-requires-clause-olds : goal.push_names-requires-clause-olds
push_names-requires-clause-olds c = c.private_names.ensures ∙ ap (λ (t : PrivateTable). private_names (places_in (list_in t)) c.loop-class_body.class_body) (sym c.requires.same)

pub push_names-requires-clause-last : goal.push_names-requires-clause-last
push_names-requires-clause-last c = c.in_ok-push_class.ensures.count ∙ ap (λ (n : ℕ). n + 1) c.loop-class_body.invariant.count

pub push_names-requires-clause-none : goal.push_names-requires-clause-none
push_names-requires-clause-none c = λ x.
    c.in_ok-push_class.ensures.names c.loop-class_body.class_body x
    ∙ c.loop-class_body.invariant.names c.loop-class_body.class_body x
    ∙ ap (λ b. cond b (names_of (list_in c.args.table.now) c.loop-class_body.class_body x) None) (le-ltb c.loop-class_body.class_body c.loop-class_body.class_body (omega arith))

pub loop-class_body-preserved : goal.loop-class_body-preserved
loop-class_body-preserved c =
    let l = list_in c.args.table.now in
    let b = c.loop-class_body.class_body in
    record {
      count = c.in_ok-push_names.ensures.count ∙ c.in_ok-push_class.ensures.count ∙ ap (λ (n : ℕ). n + 1) c.loop-class_body.invariant.count;
      names = λ k x. one_class (λ (j : ℕ). names_of l j x) b k _ _ _
          (c.in_ok-push_class.ensures.names k x ∙ c.loop-class_body.invariant.names k x)
          (ap (λ (ys : List Text). looked_up ys (new_class_name (list_in (table_in c.args.numbers.now)) b) 0 x) c.private_names.ensures
          ∙ ap (λ (t : PrivateTable). looked_up (private_names (places_in l) b) (new_class_name (list_in t) b) 0 x) c.requires.same)
          (c.in_ok-push_names.ensures.names k x);
    }

pub returns : goal.returns
returns c =
    let l = list_in c.args.table.now in
    let all : c.loop-class_body.class_body ≡ length l.class_bodies.items = omega (arith, ap (λ (m : PlaceList). length m.class_bodies.items) c.list.ensures, ap length c.as_slice-count.ensures.value, c.loop-class_body-test.false, c.loop-class_body.auto) in
    names_found l c.requires.whole.bounded c.loop-class_body.names (λ k x. c.loop-class_body.invariant.names k x ∙ ap (λ (n : ℕ). cond (nat_lt k n) (names_of l k x) None) all) (c.loop-class_body.invariant.count ∙ all)
