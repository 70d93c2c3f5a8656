use Rattle.std.proofs.Common.{◌≡◌, false, length, replicate, take}
use Rattle.place_list.specs.TableViews.{places_in}
use Rattle.scope_marks.specs.Marks.{eval_scopes, mark_each}
use Rattle.scope_marks.proofs.evals.scopes_with_evals.Given as goal

abbrev pub invariant-loop-i : goal.invariant-loop-i
invariant-loop-i g l = record { room : length l.bits ≡ length l.list.scopes.items; so_far : l.bits ≡ mark_each (replicate (length l.list.scopes.items) false) (eval_scopes (take l.i (places_in l.list))) }
