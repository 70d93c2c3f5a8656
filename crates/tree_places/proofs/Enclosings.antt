-- What the walk carries into a place is what its enclosing nodes say.
use Rattle.std.specs.Prelude.{◌≡◌, ℕ, suc, Bool, true, false, cond, ◌&&◌, ◌||◌, List, [], ◌∷◌, ◌++◌, length, map, reverse}
use Rattle.std.proofs.Common.{refl, sym, ap, ap₂, ◌∙◌}
use Rattle.std.proofs.lemmas.List.{append-nil, reverse-reverse}
use Rattle.list_laws.proofs.Mapped.{map_reverse}
use Rattle.tree_nodes.specs.Along.{Along, all, each, first_column, other_columns}
use Rattle.tree_nodes.specs.Table.{Column, row, unlisted}
use Rattle.tree_nodes.specs.Tree.{Parts, atom, child, done, many}
use Rattle.tree_nodes.specs.declared.kind.Kind.{Kind}
use Rattle.tree_nodes.specs.declared.table.Mark.{Mark}
use Rattle.tree_nodes.specs.declared.table.Mark.TheVariants.{Exported, Head}
use Rattle.tree_nodes.specs.declared.table.Opens.{Opens}
use Rattle.tree_nodes.specs.declared.table.Opens.TheVariants.{BareBlock, Block, ClassMembers, Hoisting, NameHere, PrivateNameHere, WithBody}
use Rattle.tree_places.proofs.Lineages.{field_bare, onto, onto_append, onto_reverse}
use Rattle.tree_places.proofs.MarkedSettings.{mark_keeps_scope}
use Rattle.tree_places.specs.Enclosing.{Before, Enclosed, Enclosings, Said, classes_within, enclosed, enclosed_in, exported_within, heads_within, is_class_body, is_exported_field, is_head, past_node, past_run, said, said_by, scope_inside, scope_within, strict_within}
use Rattle.tree_places.specs.Laws.{EnclosingNodesTell}
use Rattle.tree_places.specs.Lineage.{is_bare, opens_scope}
use Rattle.tree_places.specs.Open.{all_open}
use Rattle.tree_places.specs.Places.{Around, Seen, Setting, at_field, before_all, enter, field_setting, hide, is_place, met, nothing_yet, opened, seen, side, strict_in, walk, with_mark}
use Rattle.tree_places.specs.Scopes.{Scope, number_of}

-- ---- what is met is counted

record Counts (s : Seen) (b : Before) : Type 0 where
  nodes : s.nodes ≡ b.nodes
  scopes : length s.scopes ≡ b.scopes
  classes : s.classes ≡ b.bodies

met_counts : (o : Opens) (bare : Bool) (st : ℕ) (e : Setting) (inner : Scope) (s : Seen) (b : Before) → e.bare ≡ bare → Counts s b → Counts (met o st e inner s) (past_node o bare b)
unfolding all_open past_node is_class_body
met_counts Block bare st e inner s b h c = record { nodes = ap suc c.nodes; scopes = ap suc c.scopes; classes = c.classes }
met_counts WithBody bare st e inner s b h c = record { nodes = ap suc c.nodes; scopes = ap suc c.scopes; classes = c.classes }
met_counts Hoisting bare st e inner s b h c = record { nodes = ap suc c.nodes; scopes = ap suc c.scopes; classes = c.classes }
met_counts BareBlock true st e inner s b h c = rw h (record { nodes = ap suc c.nodes; scopes = c.scopes; classes = c.classes })
met_counts BareBlock false st e inner s b h c = rw h (record { nodes = ap suc c.nodes; scopes = ap suc c.scopes; classes = c.classes })
met_counts ClassMembers bare st e inner s b h c = record { nodes = ap suc c.nodes; scopes = c.scopes; classes = ap suc c.classes }
met_counts _ bare st e inner s b h c = record { nodes = ap suc c.nodes; scopes = c.scopes; classes = c.classes }

-- ---- what holds where a place stands

record Tells (e : Setting) (c : Enclosings) : Type 0 where
  scope : e.scope ≡ scope_within c
  classes : e.classes ≡ classes_within c
  heads : e.heads ≡ heads_within c
  strict : e.strict ≡ strict_within c
  exported : e.exported ≡ exported_within c

-- what holds inside a node: this scope, these class bodies, this strictness, and the rest as outside
record Inside (e : Setting) (scope : Scope) (classes heads : List ℕ) (strict exported : Bool) : Type 0 where
  scope_is : e.scope ≡ scope
  classes_are : e.classes ≡ classes
  heads_are : e.heads ≡ heads
  strict_is : e.strict ≡ strict
  exported_is : e.exported ≡ exported

inner_is : (o : Opens) (bare strict : Bool) (n c : ℕ) (e : Setting) → e.bare ≡ bare
    → Inside (opened o n c (record e { strict = strict })) (cond (opens_scope o bare) (n ∷ e.scope) e.scope) (cond (is_class_body o) (c ∷ e.classes) e.classes) e.heads strict e.exported
unfolding all_open is_class_body
inner_is BareBlock true strict n c e h = rw h (record { scope_is = refl; classes_are = refl; heads_are = refl; strict_is = refl; exported_is = refl })
inner_is BareBlock false strict n c e h = rw h (record { scope_is = refl; classes_are = refl; heads_are = refl; strict_is = refl; exported_is = refl })
inner_is _ bare strict n c e h = record { scope_is = refl; classes_are = refl; heads_are = refl; strict_is = refl; exported_is = refl }

-- a mark changes one thing, or none of these
mark_keeps_classes : (k : Mark) (fields : Parts) (n : ℕ) (o : List ℕ) (e : Setting) → (with_mark k fields n o e).classes ≡ e.classes
unfolding all_open
mark_keeps_classes Head fields n o e = refl
mark_keeps_classes _ fields n o e = refl

mark_keeps_strict : (k : Mark) (fields : Parts) (n : ℕ) (o : List ℕ) (e : Setting) → (with_mark k fields n o e).strict ≡ e.strict
unfolding all_open
mark_keeps_strict Head fields n o e = refl
mark_keeps_strict _ fields n o e = refl

marked_heads : (k : Mark) (fields : Parts) (n : ℕ) (o : List ℕ) (e : Setting) → (with_mark k fields n o e).heads ≡ cond (is_head k) (o ++ e.heads) e.heads
unfolding all_open is_head
marked_heads Head fields n o e = refl
marked_heads _ fields n o e = refl

marked_exported : (k : Mark) (fields : Parts) (n : ℕ) (o : List ℕ) (e : Setting) → (with_mark k fields n o e).exported ≡ cond (is_exported_field k) true e.exported
unfolding all_open is_exported_field
marked_exported Exported fields n o e = refl
marked_exported _ fields n o e = refl

-- ---- on a side of a node

on_side : {X : Type 0} (get : Setting → X) (b : Bool) (a : Around) (x y : X) → get a.inside ≡ x → get a.outside ≡ y → get (side b a) ≡ cond b x y
unfolding side
on_side get true a x y p q = p
on_side get false a x y p q = q

on_both : {X : Type 0} (get : Setting → X) (b : Bool) (a : Around) (x : X) → get a.inside ≡ x → get a.outside ≡ x → get (side b a) ≡ x
unfolding side
on_both get true a x p q = p
on_both get false a x p q = q

nested : {X : Type 0} (a b : Bool) (x y : X) → cond a (cond b x y) y ≡ cond (a && b) x y
nested true b x y = refl
nested false b x y = refl

or_else : (a b : Bool) → cond a true b ≡ (a || b)
or_else true b = refl
or_else false b = refl

-- what holds in a field of a node, where e holds around the node
field_tells : (f : Column) (k : Kind) (fields : Parts) (bare : Bool) (b : Before) (e : Setting) (s : Seen) (c : Enclosings) → e.bare ≡ bare → Counts s b → Tells e c
    → Tells (at_field f (enter (row k) fields e s)) (record { before = b; kind = k; fields = fields; bare = bare; column = f } ∷ c)
unfolding at_field field_setting enter scope_inside scope_within classes_within heads_within strict_within exported_within
field_tells f k fields bare b e s c h counts t =
    let o : Opens = (row k).opens in
    let a : Around = enter (row k) fields e s in
    let inner : Inside a.inside (cond (opens_scope o bare) (length s.scopes ∷ e.scope) e.scope) (cond (is_class_body o) (s.classes ∷ e.classes) e.classes) e.heads (strict_in (row k).strict e.strict fields) e.exported =
    inner_is o bare (strict_in (row k).strict e.strict fields) (length s.scopes) s.classes e h in
    let scope : a.inside.scope ≡ cond (opens_scope o bare) (b.scopes ∷ scope_within c) (scope_within c) =
    inner.scope_is ∙ ap₂ (λ (n : ℕ) (x : Scope). cond (opens_scope o bare) (n ∷ x) x) counts.scopes t.scope in
    let classes : a.inside.classes ≡ cond (is_class_body o) (b.bodies ∷ classes_within c) (classes_within c) =
    inner.classes_are ∙ ap₂ (λ (n : ℕ) (x : List ℕ). cond (is_class_body o) (n ∷ x) x) counts.classes t.classes in
    let strict : a.inside.strict ≡ strict_in (row k).strict (strict_within c) fields =
    inner.strict_is ∙ ap (λ (x : Bool). strict_in (row k).strict x fields) t.strict in
    record {
      scope = mark_keeps_scope f.mark _ _ _ _ ∙ on_side (λ (x : Setting). x.scope) f.inside a _ _ scope t.scope;
      classes = mark_keeps_classes f.mark _ _ _ _ ∙ on_side (λ (x : Setting). x.classes) f.inside a _ _ classes t.classes ∙ nested f.inside (is_class_body o) _ _;
      heads = marked_heads f.mark _ _ _ _
          ∙ ap₂ (λ (m : Scope) (x : List ℕ). cond (is_head f.mark) (number_of m ++ x) x) scope
          (on_both (λ (x : Setting). x.heads) f.inside a _ (inner.heads_are ∙ t.heads) t.heads);
      strict = mark_keeps_strict f.mark _ _ _ _ ∙ on_side (λ (x : Setting). x.strict) f.inside a _ _ strict t.strict;
      exported = marked_exported f.mark _ _ _ _
          ∙ ap (λ (x : Bool). cond (is_exported_field f.mark) true x) (on_both (λ (x : Setting). x.exported) f.inside a _ (inner.exported_is ∙ t.exported) t.exported)
          ∙ or_else (is_exported_field f.mark) _;
    }

-- ---- along the columns beside a run

abbrev TellsAlong : Along → Around → (Column → Enclosings) → Type 0
TellsAlong (all c) a around = Tells (at_field c a) (around c)
TellsAlong (each cs) a around = (f : Column) → Tells (at_field f a) (around f)

first_tells : (columns : Along) (a : Around) (around : Column → Enclosings) → TellsAlong columns a around → Tells (at_field (first_column columns) a) (around (first_column columns))
unfolding first_column
first_tells (all c) a around t = t
first_tells (each []) a around t = t unlisted
first_tells (each (c ∷ cs)) a around t = t c

others_tell : (columns : Along) (a : Around) (around : Column → Enclosings) → TellsAlong columns a around → TellsAlong (other_columns columns) a around
unfolding other_columns
others_tell (all c) a around t = t
others_tell (each []) a around t = t
others_tell (each (c ∷ cs)) a around t = t

-- ---- the walk

abbrev own_place : Opens → Before → Enclosings → List Enclosed
own_place o b c = cond (is_place o) (record { node = b.nodes; enclosings = c } ∷ []) []

said_same : (st : ℕ) (private : Bool) (e : Setting) (m n : ℕ) (c : Enclosings) → m ≡ n → Tells e c
    → said (record { node = m; start = st; private = private; setting = e }) ≡ said_by (record { node = n; enclosings = c })
unfolding said said_by
said_same st private e m n c h t = rw (h, t.classes, t.heads, t.strict, t.exported) refl

met_said : (o : Opens) (st : ℕ) (e : Setting) (inner : Scope) (s : Seen) (b : Before) (c : Enclosings) → s.nodes ≡ b.nodes → Tells e c
    → map said (met o st e inner s).sites ≡ onto (map said_by (own_place o b c)) (map said s.sites)
unfolding met is_place
met_said NameHere st e inner s b c h t = ap (λ (x : Said). x ∷ map said s.sites) (said_same st false e s.nodes b.nodes c h t)
met_said PrivateNameHere st e inner s b c h t = ap (λ (x : Said). x ∷ map said s.sites) (said_same st true e s.nodes b.nodes c h t)
met_said _ st e inner s b c h t = refl

-- after a run
record After (b : Before) (es : List Enclosed) (s s' : Seen) : Type 0 where
  counts : Counts s' b
  sites : map said s'.sites ≡ onto (map said_by es) (map said s.sites)

walked : (x : Parts) (columns : Along) (a : Around) (s : Seen) (around : Column → Enclosings) (b : Before) → Counts s b → TellsAlong columns a around
    → After (past_run x columns b) (enclosed x columns around b) s (walk x columns a s)
unfolding walk past_run enclosed
walked done columns a s around b c t = record { counts = c; sites = refl }
walked (atom v more) columns a s around b c t = walked more (other_columns columns) a s around b c (others_tell columns a around t)
walked (many items more) columns a s around b c t =
    let is : Along = all (first_column columns) in
    let others : Along = other_columns columns in
    let s₁ : Seen = walk items is a s in
    let b₁ : Before = past_run items is b in
    let one : After b₁ (enclosed items is around b) s s₁ = walked items is a s around b c (first_tells columns a around t) in
    let two : After (past_run more others b₁) (enclosed more others around b₁) s₁ (walk more others a s₁) =
    walked more others a s₁ around b₁ one.counts (others_tell columns a around t) in
    record {
      counts = two.counts;
      sites = two.sites ∙ ap (onto (map said_by (enclosed more others around b₁))) one.sites
          ∙ sym (onto_append said_by (enclosed items is around b) (enclosed more others around b₁) (map said s.sites));
    }
walked (child k st en fields more) columns a s around b c t =
    let f₁ : Column = first_column columns in
    let o : Opens = (row k).opens in
    let bare : Bool = is_bare f₁.mark in
    let outer : Enclosings = around f₁ in
    let here : Setting = at_field f₁ a in
    let entered : Around = enter (row k) (hide k fields) here s in
    let inner : Column → Enclosings = λ (x : Column). record { before = b; kind = k; fields = hide k fields; bare = bare; column = x } ∷ outer in
    let columns₁ : Along = each (row k).columns in
    let others : Along = other_columns columns in
    let s₁ : Seen = met o st here entered.inside.scope s in
    let b₁ : Before = past_node o bare b in
    let s₂ : Seen = walk fields columns₁ entered s₁ in
    let b₂ : Before = past_run fields columns₁ b₁ in
    let lf : List Enclosed = enclosed fields columns₁ inner b₁ in
    let lm : List Enclosed = enclosed more others around b₂ in
    let tells : Tells here outer = first_tells columns a around t in
    let one : After b₂ lf s₁ s₂ =
    walked fields columns₁ entered s₁ inner b₁ (met_counts o bare st here entered.inside.scope s b (field_bare f₁ a) c)
    (λ (x : Column). field_tells x k (hide k fields) bare b here s outer (field_bare f₁ a) c tells) in
    let two : After (past_run more others b₂) lm s₂ (walk more others a s₂) =
    walked more others a s₂ around b₂ one.counts (others_tell columns a around t) in
    record {
      counts = two.counts;
      sites = two.sites
          ∙ ap (onto (map said_by lm)) (one.sites ∙ ap (onto (map said_by lf)) (met_said o st here entered.inside.scope s b outer c.nodes tells))
          ∙ sym (onto_append said_by (own_place o b outer) (lf ++ lm) (map said s.sites) ∙ onto_append said_by lf lm (onto (map said_by (own_place o b outer)) (map said s.sites)));
    }

pub enclosing_nodes_tell : EnclosingNodesTell
unfolding all_open enclosed_in scope_within classes_within heads_within strict_within exported_within
enclosing_nodes_tell t =
    let xs : List Said = map said_by (enclosed_in t) in
    let start : Before = record { nodes = 0; scopes = 0; bodies = 0 } in
    let told : After (past_run t (all unlisted) start) (enclosed_in t) nothing_yet (seen t) =
    walked t (all unlisted) before_all nothing_yet (λ (c : Column). []) start (record { nodes = refl; scopes = refl; classes = refl })
    (record { scope = refl; classes = refl; heads = refl; strict = refl; exported = refl }) in
    map_reverse said (seen t).sites ∙ ap reverse (told.sites ∙ onto_reverse xs [] ∙ append-nil (reverse xs)) ∙ reverse-reverse xs
