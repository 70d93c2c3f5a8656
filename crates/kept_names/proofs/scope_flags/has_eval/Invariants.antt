use Rattle.std.specs.Prelude.{◌≡◌, false, take}
use Rattle.std.specs.List.{list_any}
use Rattle.place_list.specs.TableViews.{place_in}
use Rattle.scope_rules.specs.Evals.{is_eval}
use Rattle.kept_names.proofs.scope_flags.has_eval.Given as goal

abbrev pub invariant-loop-place : goal.invariant-loop-place
invariant-loop-place l = list_any (λ e. is_eval (place_in l.list e)) (take l.place-index l.places) ≡ false
