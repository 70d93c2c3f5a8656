use Rattle.std.proofs.Common.{map, slice_set, sym, ap, ◌∙◌, rules, arith}
use Rattle.std.proofs.lemmas.List.{length-map, map-set, set_past}
use Rattle.name_map.proofs.fits.put_name.Goals as goal

pub returns-then-place-names : goal.returns-then-place-names
returns-then-place-names c = search (rules, map-set)

pub returns-else-place-names : goal.returns-else-place-names
returns-else-place-names c = sym (set_past (map (λ x. x.now) c.args.names.now) c.args.place c.args.name.now (omega (arith, c.if-place-names.false, length-map c.args.names.now (λ x. x.now))))
