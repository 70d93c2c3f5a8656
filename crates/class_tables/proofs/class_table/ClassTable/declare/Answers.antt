use Rattle.std.specs.Prelude.{ℕ, Bool, ◌++◌, ◌∷◌, [], Some, None, is_some, length, map, if◌then◌else◌}
use Rattle.std.specs.Borrow.{Bor}
use Rattle.std.proofs.Common.{sym, ap, ◌∙◌}
use Rattle.std.proofs.lemmas.List.{length-map, map-append}
use Rattle.std.proofs.lemmas.Map.Text.{btree_map_updates_str}
use Rattle.tree_nodes.specs.Tree.{Text}
use Rattle.scope_rules.specs.Bindings.{or_else, same_name}
use Rattle.class_tables.specs.Tables.{declared_at, names_of}
use Rattle.class_tables.proofs.Puts.{put_absent, put_present}
use Rattle.class_tables.proofs.class_table.ClassTable.declare.Goals as goal

pub returns-in_ok-insert : goal.returns-in_ok-insert
unfolding same_name
returns-in_ok-insert c =
    let t = c.args.self.now in
    let n = c.args.name.now in
    let absent = sym (ap is_some c.declared.ensures) ∙ c.if-is_none.ensures in
    record {
      names = ap (map (λ (k : Bor Text). k.now)) c.in_ok-push.ensures.items ∙ map-append (λ (k : Bor Text). k.now) t.names.items (c.args.name ∷ [])
          ∙ sym (ap (λ (b : Bool). if b then names_of t else names_of t ++ n ∷ []) absent);
      at = λ x. btree_map_updates_str n t.firsts c.insert.new.self _ c.in_ok-insert.ensures.updates x
          ∙ put_absent (declared_at t) n (record { index = length c.as_slice.result.now; node = c.args.node }) absent x
          ∙ ap (λ (k : ℕ). or_else (declared_at t x) (if same_name n x then Some (record { index = k; node = c.args.node }) else None)) (ap length c.as_slice.ensures.value ∙ sym (length-map t.names.items (λ (k : Bor Text). k.now)));
    }

pub returns-else-is_none : goal.returns-else-is_none
returns-else-is_none c =
    let t = c.args.self.now in
    let n = c.args.name.now in
    let present = sym (ap is_some c.declared.ensures) ∙ c.if-is_none.ensures in
    record {
      names = sym (ap (λ (b : Bool). if b then names_of t else names_of t ++ n ∷ []) present);
      at = λ x. put_present (declared_at t) n (record { index = length (names_of t); node = c.args.node }) present x;
    }
