use Rattle.json_text.proofs.Units.{text_of_units-units_of, IsUtf8-text_of_units, units_of-text_of_units}
use Rattle.json_text.proofs.units_give_text_back.Goals as goal

pub returns : goal.returns
returns c = record {
  text = text_of_units-units_of;
  units = λ us bs e. (IsUtf8-text_of_units us bs e, units_of-text_of_units us bs e);
}
