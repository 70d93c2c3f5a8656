-- Direct evals, which see all names around them (ECMA-262, PerformEval and EvaluateCall).
use Rattle.std.specs.Prelude.{ℕ, Bool, true, false, ◌&&◌, nat_eq, List, codes}
use Rattle.std.specs.List.{list_any}
use Rattle.tree_nodes.specs.Tree.{Text}
use Rattle.tree_nodes.specs.declared.table.Role.{Role}
use Rattle.tree_nodes.specs.declared.table.Role.TheVariants.{Called}
use Rattle.tree_places.specs.Places.{Place}
use Rattle.tree_places.specs.Scopes.{Scope, is_inside}
use Rattle.scope_rules.specs.Bindings.{same_name}

abbrev pub name_eval : Text
name_eval = codes "eval"

unfoldable pub is_called : Role → Bool
is_called Called = true
is_called _ = false

-- the callee of a direct eval: an Identifier `eval` that is called, and not as `eval?.()`
unfoldable pub is_eval : Place → Bool
is_eval q = is_called q.site.setting.role && same_name q.name name_eval

-- a direct eval stands in this scope or in one inside it
unfoldable pub holds_eval : List Place → Scope → Bool
holds_eval ps s = list_any (λ q. is_eval q && is_inside q.site.setting.scope s) ps

unfoldable pub contains : List ℕ → ℕ → Bool
contains ns n = list_any (nat_eq n) ns

-- a class is open where a direct eval stands in its body, at any depth: evaluated text can name its private members
unfoldable pub is_open : List Place → ℕ → Bool
is_open ps c = list_any (λ q. is_eval q && contains q.site.setting.classes c) ps
