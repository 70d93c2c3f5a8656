-- What a field's mark leaves of a setting, and the setting that holds inside a node.
use Rattle.std.specs.Prelude.{◌≡◌, ℕ, Bool, List, length}
use Rattle.std.proofs.Common.{refl}
use Rattle.tree_nodes.specs.Tree.{Parts}
use Rattle.tree_nodes.specs.declared.table.Mark.{Mark}
use Rattle.tree_nodes.specs.declared.table.Mark.TheVariants.{Usual}
use Rattle.tree_nodes.specs.declared.table.Opens.{Opens}
use Rattle.tree_places.specs.Open.{all_open}
use Rattle.tree_places.specs.Places.{Seen, Setting, opened, with_mark}

pub mark_keeps_scope : (k : Mark) (fields : Parts) (n : ℕ) (o : List ℕ) (e : Setting) → (with_mark k fields n o e).scope ≡ e.scope
unfolding all_open
mark_keeps_scope Usual fields n o e = refl
mark_keeps_scope _ fields n o e = refl

pub mark_keeps_var_scope : (k : Mark) (fields : Parts) (n : ℕ) (o : List ℕ) (e : Setting) → (with_mark k fields n o e).var_scope ≡ e.var_scope
unfolding all_open
mark_keeps_var_scope Usual fields n o e = refl
mark_keeps_var_scope _ fields n o e = refl

pub mark_keeps_role : (k : Mark) (fields : Parts) (n : ℕ) (o : List ℕ) (e : Setting) → (with_mark k fields n o e).role ≡ e.role
unfolding all_open
mark_keeps_role Usual fields n o e = refl
mark_keeps_role _ fields n o e = refl

-- what holds inside a node that opens o where e holds, after what was seen before
abbrev pub inner_setting : Opens → Setting → Bool → Seen → Setting
inner_setting o e strict s = opened o (length s.scopes) s.classes (record e { strict = strict })
