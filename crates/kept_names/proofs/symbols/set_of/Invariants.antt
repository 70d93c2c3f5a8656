use Rattle.std.specs.Prelude.{◌≡◌, ◌<◌, ◌≤◌, ℕ, false, length, get_or}
use Rattle.kept_names.proofs.symbols.set_of.Given as goal

abbrev pub invariant-loop-i : goal.invariant-loop-i
invariant-loop-i g l = record {
  room : length l.bits ≡ length l.flags;
  told : (k : ℕ) → k < l.i → get_or l.bits k false ≡ get_or l.flags k false;
  off : (k : ℕ) → l.i ≤ k → get_or l.bits k false ≡ false;
}
