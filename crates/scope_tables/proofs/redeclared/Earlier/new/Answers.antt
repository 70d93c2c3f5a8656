use Rattle.std.specs.Map.{lookup}
use Rattle.std.proofs.Common.{sym, ap, ◌∙◌}
use Rattle.scope_tables.specs.Keys.{is_key, number_from}
use Rattle.scope_tables.specs.declared.sites.Declaring.TheVariants.{Plainly, Singly}
use Rattle.scope_tables.proofs.FirstPlaces.{none_first}
use Rattle.scope_tables.proofs.redeclared.Earlier.new.Goals as goal

pub returns : goal.returns
returns c = λ l all. record {
  plain = λ s h q j. ap (lookup (is_key (number_from s) q.name_number)) c.new-plain.ensures.empty ∙ sym (none_first Plainly _ _);
  singles = λ s h q j. ap (lookup (is_key (number_from s) q.name_number)) c.new-singles.ensures.empty ∙ sym (none_first Singly _ _);
}
