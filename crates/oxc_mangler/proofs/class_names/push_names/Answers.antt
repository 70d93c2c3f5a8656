use Rattle.std.specs.Borrow.{Bor}
use Rattle.std.specs.Prelude.{◌≡◌, ◌<◌, ◌+◌, ◌-◌, ◌&&◌, ℕ, Bool, List, [], Option, cond, get_or, length, map, nat_eq, take}
use Rattle.std.proofs.Common.{ap, arith, refl, sym, take_all, ◌∙◌}
use Rattle.std.proofs.lemmas.Bool.{eq-eqb}
use Rattle.std.proofs.lemmas.List.{get_or-map, length-map}
use Rattle.class_tables.specs.PrivateTables.{list_in}
use Rattle.oxc_mangler.proofs.LookedUp.{different_private, none_put, one_looked_up, one_put, unlisted}
use Rattle.oxc_mangler.specs.ClassNames.{looked_up, new_class_name}
use Rattle.place_list.specs.TableViews.{places_in}
use Rattle.private_numbers.specs.AllNumbers.{table_in}
use Rattle.scope_rules.specs.Bindings.{same_name}
use Rattle.scope_rules.specs.PrivateNames.{is_among}
use Rattle.tree_nodes.specs.Tree.{Text}
use Rattle.tree_semantic.specs.Renamed.{class_count, new_name}
use Rattle.oxc_mangler.proofs.class_names.push_names.Goals as goal

nothing : Bor Text
nothing = record { ref_ptr = (0, 0); now = [] }

pub loop-i-init : goal.loop-i-init
unfolding looked_up
loop-i-init c = record {
  count = refl;
  names = λ k x. none_put c.args.class_body k (new_name c.args.names.now k x) (λ e. ap (λ (j : ℕ). new_name c.args.names.now j x) (sym e) ∙ c.requires.none x);
}

pub push_name-requires-clause-none : goal.push_name-requires-clause-none
unfolding nothing
push_name-requires-clause-none c =
    let olds : List (Bor Text) = c.args.olds.now in
    let ys : List Text = map (λ (n : Bor Text). n.now) olds in
    let i : ℕ = c.loop-i.i in
    let b : ℕ = c.args.class_body in
    let y : Text = (get_or olds i nothing).now in
    let many : length ys ≡ length olds = length-map olds (λ (n : Bor Text). n.now) in
    let inside : i < length ys = omega (arith, many) in
    let at : class_count c.loop-i.names - 1 ≡ b = omega (arith, c.loop-i.invariant.count, c.requires.last) in
    let e : get_or ys i [] ≡ y = get_or-map (λ (n : Bor Text). n.now) olds i nothing [] (omega arith) in
    ap (λ (k : ℕ). new_name c.loop-i.names k y) at
    ∙ c.loop-i.invariant.names b y
    ∙ ap (λ (q : Bool). cond q (looked_up (take i ys) (new_class_name (list_in (table_in c.args.numbers.now)) b) 0 y) (new_name c.args.names.now b y)) (eq-eqb b b refl)
    ∙ unlisted (new_class_name (list_in (table_in c.args.numbers.now)) b) (take i ys) 0 y (ap (is_among (take i ys)) (sym e) ∙ different_private (places_in (list_in (table_in c.args.numbers.now))) b ys i c.requires.olds inside)

pub loop-i-preserved : goal.loop-i-preserved
unfolding nothing new_class_name
loop-i-preserved c =
    let olds : List (Bor Text) = c.args.olds.now in
    let ys : List Text = map (λ (n : Bor Text). n.now) olds in
    let i : ℕ = c.loop-i.i in
    let b : ℕ = c.args.class_body in
    let l = list_in (table_in c.args.numbers.now) in
    let y : Text = (get_or olds i nothing).now in
    let many : length ys ≡ length olds = length-map olds (λ (n : Bor Text). n.now) in
    let inside : i < length ys = omega (arith, many) in
    let at : class_count c.loop-i.names - 1 ≡ b = omega (arith, c.loop-i.invariant.count, c.requires.last) in
    let e : get_or ys i [] ≡ y = get_or-map (λ (n : Bor Text). n.now) olds i nothing [] (omega arith) in
    record {
      count = c.in_ok-push_name.ensures.count ∙ c.loop-i.invariant.count;
      names = λ k x.
          c.in_ok-push_name.ensures.names k x
          ∙ ap (λ (j : ℕ). cond (nat_eq j k && same_name y x) c.new_class_name-new.result (new_name c.loop-i.names k x)) at
          ∙ one_put (nat_eq b k) (same_name y x) c.new_class_name-new.result (new_name c.loop-i.names k x) (looked_up (take i ys) (new_class_name l b) 0 x) (looked_up (take (i + 1) ys) (new_class_name l b) 0 x) (new_name c.args.names.now k x)
          (c.loop-i.invariant.names k x)
          (ap (λ (o : Option Text). cond (same_name y x) o (looked_up (take i ys) (new_class_name l b) 0 x)) c.new_class_name-new.ensures
          ∙ one_looked_up (new_class_name l b) ys i y x inside (sym e) (different_private (places_in l) b ys i c.requires.olds inside));
    }

pub returns-clause-names : goal.returns-clause-names
returns-clause-names c = λ k x.
    let ys : List Text = map (λ (n : Bor Text). n.now) c.args.olds.now in
    let many : length ys ≡ length c.args.olds.now = length-map c.args.olds.now (λ (n : Bor Text). n.now) in
    c.loop-i.invariant.names k x
    ∙ ap (λ (zs : List Text). cond (nat_eq c.args.class_body k) (looked_up zs (new_class_name (list_in (table_in c.args.numbers.now)) c.args.class_body) 0 x) (new_name c.args.names.now k x))
    (take_all c.loop-i.i ys (omega (arith, many)))
