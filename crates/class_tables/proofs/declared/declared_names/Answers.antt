use Rattle.std.specs.Prelude.{◌≡◌, ◌+◌, ◌<◌, ℕ, List, map, take}
use Rattle.std.proofs.Common.{sym, subst, ◌∙◌, ap, length, rules}
use Rattle.class_tables.specs.Sights.{sight_of}
use Rattle.class_tables.specs.Tables.{Hold, names_at}
use Rattle.class_tables.specs.declared.class_table.ClassTable.{ClassTable}
use Rattle.class_tables.proofs.Holding.{few_names, sights_more, written_back}
use Rattle.class_tables.proofs.declared.declared_names.Goals as goal

pub take_in-requires-clause-few : goal.take_in-requires-clause-few
take_in-requires-clause-few c =
    subst (λ (ts : List ClassTable). (k : ℕ) → length (names_at ts k) < 4294967296) (sym c.as_mut_slice.ensures.value)
    (few_names c.args.bodies.now c.args.places.now c.loop-place.place-index 4294967296 c.loop-place.tables.items c.requires.few c.loop-place.invariant.held)

pub loop-place-preserved : goal.loop-place-preserved
loop-place-preserved c =
    let os = c.args.bodies.now in
    let es = c.args.places.now in
    let i = c.loop-place.place-index in
    let l : length c.take_in.new.tables ≡ c.loop-place.tables.len = search rules in
    let back = written_back c.loop-place.tables.len c.take_in.new.tables c.loop-place.tables.items l in
    let held : Hold (map (sight_of os) (take (i + 1) es)) c.take_in.new.tables =
    subst (λ ss. Hold ss c.take_in.new.tables) (sym (sights_more os es i _ c.loop-place-test.true))
    (c.in_ok-take_in.ensures os (map (sight_of os) (take i es)) (subst (λ (ts : List ClassTable). Hold (map (sight_of os) (take i es)) ts) (sym c.as_mut_slice.ensures.value) c.loop-place.invariant.held)) in
    record {
      held = subst (λ (ts : List ClassTable). Hold (map (sight_of os) (take (i + 1) es)) ts) (sym back) held;
      len = ap length back ∙ (c.take_in.auto.tables ∙ ap length c.as_mut_slice.ensures.value ∙ c.loop-place.invariant.len);
    }

pub returns-clause-short : goal.returns-clause-short
returns-clause-short c = few_names c.args.bodies.now c.args.places.now c.loop-place.place-index 4294967296 c.loop-place.tables.items c.requires.few c.loop-place.invariant.held
