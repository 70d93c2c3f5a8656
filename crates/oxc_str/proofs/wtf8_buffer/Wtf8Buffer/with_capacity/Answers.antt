use Rattle.oxc_str.proofs.Pushes.{none_counted, none_units}
use Rattle.oxc_str.proofs.wtf8_buffer.Wtf8Buffer.with_capacity.Goals as goal

pub invariant_of-result : goal.invariant_of-result
invariant_of-result g c = none_counted _ c.in_ok-with_capacity.ensures.items

pub returns : goal.returns
returns g c = none_units _ c.in_ok-with_capacity.ensures.items
