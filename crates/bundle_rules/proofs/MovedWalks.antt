-- A walk that begins where others ended: it meets the same places, with the numbers of nodes, scopes and class bodies moved, but for the root's scope.
use Rattle.std.proofs.Common.{◌≡◌, ℕ, zero, suc, ◌+◌, ◌≤◌, Bool, true, false, cond, List, [], ◌∷◌, ◌++◌, length, map, refl, sym, ap, ap₂, subst, ◌∙◌, arith}
use Rattle.std.proofs.lemmas.List.{map-append}
use Rattle.bundle_rules.specs.Moves.{Moves, moved_number, moved_scope, moved_setting, moved_site}
use Rattle.tree_nodes.specs.Along.{Along, all, each, first_column, other_columns}
use Rattle.tree_nodes.specs.Roles.{role_at}
use Rattle.tree_nodes.specs.Table.{Column, Row, row}
use Rattle.tree_nodes.specs.Tree.{Parts, atom, child, done, many}
use Rattle.tree_nodes.specs.declared.table.Mark.{Mark}
use Rattle.tree_nodes.specs.declared.table.Mark.TheVariants.{Body, Declarator, Exported, Head, Rest, Usual, Valued}
use Rattle.tree_nodes.specs.declared.table.Mode.{Mode}
use Rattle.tree_nodes.specs.declared.table.Mode.TheVariants.{Leaves, Same}
use Rattle.tree_nodes.specs.declared.table.Opens.{Opens}
use Rattle.tree_nodes.specs.declared.table.Opens.TheVariants.{BareBlock, Block, ClassMembers, Hoisting, NameHere, Nothing, PrivateNameHere, WithBody}
use Rattle.tree_places.specs.Open.{all_open}
use Rattle.tree_places.specs.Places.{Around, Seen, Setting, Site, at_field, enter, hide, met, no_value, opened, pattern_on, side, strict_in, walk, with_mark}
use Rattle.tree_places.specs.Scopes.{Scope, number_of}

-- the second walk has met what the first has, moved, after other places
pub record AreMoved (m : Moves) (base : List Site) (s s' : Seen) : Type 0 where
  pub nodes : s'.nodes ≡ m.nodes + s.nodes
  pub bodies : s'.classes ≡ m.bodies + s.classes
  pub scopes : length s'.scopes ≡ m.scopes + length s.scopes
  pub root : 1 ≤ length s.scopes
  pub sites : s'.sites ≡ map (moved_site m) s.sites ++ base

abbrev pub moved_around : Moves → Around → Around
moved_around m a = record { outside = moved_setting m a.outside; inside = moved_setting m a.inside; fields = a.fields; number = m.nodes + a.number }

pub moved_later : (d n : ℕ) → 1 ≤ n → moved_number d n ≡ d + n
moved_later d zero h = absurd (omega (arith, h))
moved_later d (suc n) h = omega arith

number_moved : (d : ℕ) (s : Scope) → number_of (moved_scope d s) ≡ map (moved_number d) (number_of s)
unfolding all_open
number_moved d [] = refl
number_moved d (n ∷ s) = refl

module _ (m : Moves) where
  -- ---- settings

  side_moved : (b : Bool) (a : Around) → side b (moved_around m a) ≡ moved_setting m (side b a)
  unfolding all_open
  side_moved true a = refl
  side_moved false a = refl

  pattern_moved : (o : Mode) (p : List ℕ) → pattern_on o (map (λ n. m.nodes + n) p) ≡ map (λ n. m.nodes + n) (pattern_on o p)
  unfolding all_open
  pattern_moved Same p = refl
  pattern_moved Leaves p = refl
  pattern_moved _ p = refl

  mark_moved : (k : Mark) (fields : Parts) (n : ℕ) (o : List ℕ) (e : Setting)
      → with_mark k fields (m.nodes + n) (map (moved_number m.scopes) o) (moved_setting m e) ≡ moved_setting m (with_mark k fields n o e)
  unfolding all_open
  mark_moved Usual fields n o e = refl
  mark_moved Body fields n o e = refl
  mark_moved Head fields n o e = ap (λ (hs : List ℕ). record (moved_setting m e) { heads = hs }) (sym (map-append (moved_number m.scopes) o e.heads))
  mark_moved Exported fields n o e = refl
  mark_moved (Valued i) fields n o e = refl
  mark_moved (Declarator i) fields n o e = refl
  mark_moved Rest fields n o e = refl

  -- what a field starts with
  plain_setting : Column → Around → Setting → Setting
  plain_setting f a e = record e { role = role_at f.mode a.outside.role a.fields; bare = false; value = no_value; pattern = pattern_on f.mode e.pattern }

  field_moved : (f : Column) (a : Around) → at_field f (moved_around m a) ≡ moved_setting m (at_field f a)
  unfolding all_open plain_setting
  field_moved f a =
      let b = moved_around m a in
      ap₂ (λ (o : List ℕ) (e : Setting). with_mark f.mark a.fields (m.nodes + a.number) o (plain_setting f b e)) (number_moved m.scopes a.inside.scope) (side_moved f.inside a)
      ∙ ap (λ (p : List ℕ). with_mark f.mark a.fields (m.nodes + a.number) (map (moved_number m.scopes) (number_of a.inside.scope)) (record (plain_setting f b (moved_setting m (side f.inside a))) { pattern = p })) (pattern_moved f.mode (side f.inside a).pattern)
      ∙ mark_moved f.mark a.fields a.number (number_of a.inside.scope) (plain_setting f a (side f.inside a))

  opened_moved : (o : Opens) (n c : ℕ) (e : Setting) → 1 ≤ n → opened o (m.scopes + n) (m.bodies + c) (moved_setting m e) ≡ moved_setting m (opened o n c e)
  unfolding all_open
  opened_moved Nothing n c e h = refl
  opened_moved Block n c e h = ap (λ (k : ℕ). record (moved_setting m e) { scope = k ∷ moved_scope m.scopes e.scope }) (sym (moved_later m.scopes n h))
  opened_moved BareBlock n c e h = go e.bare
    where
      go : (b : Bool) → cond b (moved_setting m e) (record (moved_setting m e) { scope = (m.scopes + n) ∷ moved_scope m.scopes e.scope }) ≡ moved_setting m (cond b e (record e { scope = n ∷ e.scope }))
      go true = refl
      go false = ap (λ (k : ℕ). record (moved_setting m e) { scope = k ∷ moved_scope m.scopes e.scope }) (sym (moved_later m.scopes n h))
  opened_moved WithBody n c e h = ap (λ (k : ℕ). record (moved_setting m e) { scope = k ∷ moved_scope m.scopes e.scope }) (sym (moved_later m.scopes n h))
  opened_moved Hoisting n c e h = ap (λ (k : ℕ). record (moved_setting m e) { scope = k ∷ moved_scope m.scopes e.scope; var_scope = k ∷ moved_scope m.scopes e.scope }) (sym (moved_later m.scopes n h))
  opened_moved ClassMembers n c e h = refl
  opened_moved NameHere n c e h = refl
  opened_moved PrivateNameHere n c e h = refl

  -- ---- the walk

  module _ (base : List Site) where
    enter_moved : (r : Row) (fields : Parts) (e : Setting) (s s' : Seen) → AreMoved m base s s' → enter r fields (moved_setting m e) s' ≡ moved_around m (enter r fields e s)
    unfolding all_open
    enter_moved r fields e s s' t =
        ap₂ (λ (n c : ℕ). record { outside = moved_setting m e; inside = opened r.opens n c (moved_setting m (record e { strict = strict_in r.strict e.strict fields })); fields = fields; number = s'.nodes }) t.scopes t.bodies
        ∙ ap (λ (i : Setting). record { outside = moved_setting m e; inside = i; fields = fields; number = s'.nodes }) (opened_moved r.opens (length s.scopes) s.classes (record e { strict = strict_in r.strict e.strict fields }) t.root)
        ∙ ap (λ (n : ℕ). record { outside = moved_setting m e; inside = moved_setting m (opened r.opens (length s.scopes) s.classes (record e { strict = strict_in r.strict e.strict fields })); fields = fields; number = n }) t.nodes

    met_moved : (o : Opens) (b : ℕ) (e : Setting) (inner inner' : Scope) (s s' : Seen) → AreMoved m base s s' → AreMoved m base (met o b e inner s) (met o b (moved_setting m e) inner' s')
    unfolding all_open
    met_moved Nothing b e inner inner' s s' t = record { nodes = omega (arith, t.nodes); bodies = t.bodies; scopes = t.scopes; root = t.root; sites = t.sites }
    met_moved Block b e inner inner' s s' t = record { nodes = omega (arith, t.nodes); bodies = t.bodies; scopes = omega (arith, t.scopes); root = omega arith; sites = t.sites }
    met_moved BareBlock b e inner inner' s s' t = go e.bare
      where
        go : (c : Bool) → AreMoved m base (record s { nodes = suc s.nodes; scopes = cond c s.scopes (inner ∷ s.scopes) }) (record s' { nodes = suc s'.nodes; scopes = cond c s'.scopes (inner' ∷ s'.scopes) })
        go true = record { nodes = omega (arith, t.nodes); bodies = t.bodies; scopes = t.scopes; root = t.root; sites = t.sites }
        go false = record { nodes = omega (arith, t.nodes); bodies = t.bodies; scopes = omega (arith, t.scopes); root = omega arith; sites = t.sites }
    met_moved WithBody b e inner inner' s s' t = record { nodes = omega (arith, t.nodes); bodies = t.bodies; scopes = omega (arith, t.scopes); root = omega arith; sites = t.sites }
    met_moved Hoisting b e inner inner' s s' t = record { nodes = omega (arith, t.nodes); bodies = t.bodies; scopes = omega (arith, t.scopes); root = omega arith; sites = t.sites }
    met_moved ClassMembers b e inner inner' s s' t = record { nodes = omega (arith, t.nodes); bodies = omega (arith, t.bodies); scopes = t.scopes; root = t.root; sites = t.sites }
    met_moved NameHere b e inner inner' s s' t = record {
      nodes = omega (arith, t.nodes);
      bodies = t.bodies;
      scopes = t.scopes;
      root = t.root;
      sites = ap₂ (λ (n : ℕ) (ss : List Site). record { node = n; start = b; private = false; setting = moved_setting m e } ∷ ss) t.nodes t.sites;
    }
    met_moved PrivateNameHere b e inner inner' s s' t = record {
      nodes = omega (arith, t.nodes);
      bodies = t.bodies;
      scopes = t.scopes;
      root = t.root;
      sites = ap₂ (λ (n : ℕ) (ss : List Site). record { node = n; start = b; private = true; setting = moved_setting m e } ∷ ss) t.nodes t.sites;
    }

    pub walk_moved : (x : Parts) (columns : Along) (a : Around) (s s' : Seen) → AreMoved m base s s' → AreMoved m base (walk x columns a s) (walk x columns (moved_around m a) s')
    unfolding all_open
    walk_moved done columns a s s' t = t
    walk_moved (atom v more) columns a s s' t = walk_moved more (other_columns columns) a s s' t
    walk_moved (many items more) columns a s s' t =
        walk_moved more (other_columns columns) a (walk items (all (first_column columns)) a s) (walk items (all (first_column columns)) (moved_around m a) s')
        (walk_moved items (all (first_column columns)) a s s' t)
    walk_moved (child k b e fields more) columns a s s' t =
        let a' : Around = moved_around m a in
        let here : Setting = at_field (first_column columns) a in
        let here' : Setting = at_field (first_column columns) a' in
        let around : Around = enter (row k) (hide k fields) here s in
        let around' : Around = enter (row k) (hide k fields) here' s' in
        let s₁ : Seen = met (row k).opens b here around.inside.scope s in
        let s₁' : Seen = met (row k).opens b (moved_setting m here) (moved_around m around).inside.scope s' in
        let same_here : here' ≡ moved_setting m here = field_moved (first_column columns) a in
        let same_around : around' ≡ moved_around m around = ap (λ (h : Setting). enter (row k) (hide k fields) h s') same_here ∙ enter_moved (row k) (hide k fields) here s s' t in
        let t₁ : AreMoved m base s₁ s₁' = met_moved (row k).opens b here around.inside.scope (moved_around m around).inside.scope s s' t in
        let s₂ : Seen = walk fields (each (row k).columns) around s₁ in
        let t₂ : AreMoved m base s₂ (walk fields (each (row k).columns) (moved_around m around) s₁') = walk_moved fields (each (row k).columns) around s₁ s₁' t₁ in
        let goal = λ (h : Setting) (r : Around). AreMoved m base (walk more (other_columns columns) a s₂) (walk more (other_columns columns) a' (walk fields (each (row k).columns) r (met (row k).opens b h r.inside.scope s'))) in
        let last : goal (moved_setting m here) (moved_around m around) = walk_moved more (other_columns columns) a s₂ (walk fields (each (row k).columns) (moved_around m around) s₁') t₂ in
        subst (λ (r : Around). goal here' r) (sym same_around) (subst (λ (h : Setting). goal h (moved_around m around)) (sym same_here) last)
