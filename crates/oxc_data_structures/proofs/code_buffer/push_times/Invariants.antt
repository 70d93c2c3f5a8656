use Rattle.std.proofs.Common.{◌≡◌, ◌+◌, ◌≤◌, ◌++◌, replicate, string_bytes}
use Rattle.std.specs.String.{string_capacity, string_len}
use Rattle.oxc_data_structures.proofs.code_buffer.push_times.Given as goal

abbrev pub invariant-loop : goal.invariant-loop
invariant-loop l = record {
  pushed : string_bytes l.text ≡ string_bytes l.fn.text ++ replicate l.counter l.byte;
  room : string_len l.text + l.count ≤ string_capacity l.text + l.counter;
  capacity : string_capacity l.fn.text ≤ string_capacity l.text;
}
