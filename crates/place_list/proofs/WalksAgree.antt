-- The walk in tables follows the walk that gives the places: what its numbers stand for is what that walk has.
use Rattle.std.proofs.Common.{◌≡◌, ℕ, suc, ◌+◌, Bool, true, false, List, [], ◌∷◌, ◌++◌, length, reverse, slice_get, if◌then◌else◌, Option, Some, None, refl, sym, ap, subst, ◌∙◌, arith}
use Rattle.std.proofs.lemmas.Grind.{reverse_onto}
use Rattle.std.proofs.lemmas.List.{length-append, length-reverse}
use Rattle.place_list.proofs.HiddenFields.{Agree, MarkAgrees, AlongAgrees, first_agrees, hidden_agrees, hidden_strict, others_agree}
use Rattle.place_list.proofs.NumbersStand.{Beside, Grows, Stands, beside_on, beside_push, grows_not, grows_on, grows_push, has_on, last_is, head_stands, heads_grow, line_stands, lineages_grow, lineages_length, lineages_push, list_is, own_number, stands_on}
use Rattle.place_list.proofs.OuterComesFirst.{AreHeads, RiseFrom, head_joins, head_rises, heads_stay, line_below, line_rises, nothing_rises, parents}
use Rattle.place_list.specs.Bounds.{HasVarScope}
use Rattle.place_list.specs.Open.{all_open}
use Rattle.place_list.specs.ScopeKinds.{scope_kind}
use Rattle.place_list.specs.TableWalk as spec
use Rattle.place_list.specs.TableWalk.{Around, State, lists_of, nothing_met, tables_of, value_from}
use Rattle.place_list.specs.declared.tables.HeadEntry.{HeadEntry}
use Rattle.place_list.specs.Tables.{Entry, head_lists, Lists, lineages, list_at, listed, setting_of, site_of, value_of}
use Rattle.place_list.specs.declared.setting.ScopeKind.{ScopeKind}
use Rattle.place_list.specs.declared.setting.Setting.{Setting}
use Rattle.tree_nodes.specs.Along.{Along, all, each, first_column, other_columns}
use Rattle.tree_nodes.specs.Roles.{role_at}
use Rattle.tree_nodes.specs.Table.{Column, row, unlisted}
use Rattle.tree_nodes.specs.Tree.{Parts, Text, Tree, atom, child, done, many, part, text_of}
use Rattle.tree_nodes.specs.declared.kind.Kind.{Kind}
use Rattle.tree_nodes.specs.declared.table.Mark.{Mark}
use Rattle.tree_nodes.specs.declared.table.Mark.TheVariants.{Body, Declarator, Exported, Head, Rest, Usual, Valued}
use Rattle.tree_nodes.specs.declared.table.Mode.{Mode}
use Rattle.tree_nodes.specs.declared.table.Mode.TheVariants.{Leaves, Same}
use Rattle.tree_nodes.specs.declared.table.Opens.{Opens}
use Rattle.tree_nodes.specs.declared.table.Opens.TheVariants.{BareBlock, Block, ClassMembers, Hoisting, NameHere, Nothing, PrivateNameHere, WithBody}
use Rattle.tree_places.specs.Places as places
use Rattle.tree_places.specs.Places.{Seen, Site, hide, naming_value, scopes, seen, sites, strict_in, withs}
use Rattle.tree_places.specs.Scopes.{Scope, number_of}

-- ---- settings

pub record Fits (d : Lists) (e : Setting) (x : places.Setting) : Type 0 where
  pub role : e.role ≡ x.role
  pub scope : Stands d.scopes e.scope x.scope
  pub var_scope : Stands d.scopes e.var_scope x.var_scope
  pub has_var_scope : HasVarScope d.var_scopes e.scope e.var_scope
  pub classes : Stands d.class_bodies e.class_body x.classes
  pub heads : Stands d.heads e.head x.heads
  pub strict : e.strict ≡ x.strict
  pub exported : e.exported ≡ x.exported
  pub bare : e.bare ≡ x.bare
  pub value : value_of e.value ≡ x.value
  pub pattern : listed e.declarator ≡ x.pattern
  pub in_rest : e.in_rest ≡ x.in_rest

pub setting_is : (d : Lists) (e : Setting) (x : places.Setting) → Fits d e x → setting_of d e ≡ x
unfolding setting_of
setting_is d e x f =
    let scope : list_at d.scopes e.scope ≡ x.scope = list_is d.scopes e.scope x.scope f.scope in
    let var_scope : list_at d.scopes e.var_scope ≡ x.var_scope = list_is d.scopes e.var_scope x.var_scope f.var_scope in
    let classes : list_at d.class_bodies e.class_body ≡ x.classes = list_is d.class_bodies e.class_body x.classes f.classes in
    let heads : list_at d.heads e.head ≡ x.heads = list_is d.heads e.head x.heads f.heads in
    rw (f.role, scope, var_scope, classes, heads, f.strict, f.exported, f.bare, f.value, f.pattern, f.in_rest) refl

pub record AllGrow (d₁ d₂ : Lists) : Type 0 where
  pub scopes : Grows d₁.scopes d₂.scopes
  pub class_bodies : Grows d₁.class_bodies d₂.class_bodies
  pub heads : Grows d₁.heads d₂.heads
  pub var_scopes : Grows d₁.var_scopes d₂.var_scopes

all_grow_not : (d : Lists) → AllGrow d d
all_grow_not d = record { scopes = grows_not d.scopes; class_bodies = grows_not d.class_bodies; heads = grows_not d.heads; var_scopes = grows_not d.var_scopes }

pub all_grow_on : (a b c : Lists) → AllGrow a b → AllGrow b c → AllGrow a c
all_grow_on a b c f g = record {
  scopes = grows_on a.scopes b.scopes c.scopes f.scopes g.scopes;
  class_bodies = grows_on a.class_bodies b.class_bodies c.class_bodies f.class_bodies g.class_bodies;
  heads = grows_on a.heads b.heads c.heads f.heads g.heads;
  var_scopes = grows_on a.var_scopes b.var_scopes c.var_scopes f.var_scopes g.var_scopes;
}

fits_on : (a b : Lists) (e : Setting) (x : places.Setting) → AllGrow a b → Fits a e x → Fits b e x
fits_on a b e x g f = record {
  role = f.role;
  scope = stands_on a.scopes b.scopes e.scope x.scope g.scopes f.scope;
  var_scope = stands_on a.scopes b.scopes e.var_scope x.var_scope g.scopes f.var_scope;
  has_var_scope = has_on a.var_scopes b.var_scopes e.scope e.var_scope g.var_scopes f.has_var_scope;
  classes = stands_on a.class_bodies b.class_bodies e.class_body x.classes g.class_bodies f.classes;
  heads = stands_on a.heads b.heads e.head x.heads g.heads f.heads;
  strict = f.strict;
  exported = f.exported;
  bare = f.bare;
  value = f.value;
  pattern = f.pattern;
  in_rest = f.in_rest;
}

pub record AroundFits (d : Lists) (a : Around) (b : places.Around) : Type 0 where
  pub outside : Fits d a.outside b.outside
  pub inside : Fits d a.inside b.inside
  pub number : a.number ≡ b.number

pub around_on : (c d : Lists) (a : Around) (b : places.Around) → AllGrow c d → AroundFits c a b → AroundFits d a b
around_on c d a b g f = record { outside = fits_on c d a.outside b.outside g f.outside; inside = fits_on c d a.inside b.inside g f.inside; number = f.number }

side_fits : (d : Lists) (a : Around) (b : places.Around) (inside : Bool) → AroundFits d a b → Fits d (spec.side inside a) (places.side inside b)
unfolding all_open
side_fits d a b true f = f.inside
side_fits d a b false f = f.outside

-- ---- what has been met

pub record SiteFits (d : Lists) (e : Entry) (s : Site) : Type 0 where
  pub node : e.node ≡ s.node
  pub start : e.start ≡ s.start
  pub private : e.private ≡ s.private
  pub setting : Fits d e.setting s.setting

pub site_is : (d : Lists) (e : Entry) (s : Site) → SiteFits d e s → site_of d e ≡ s
unfolding site_of
site_is d e s f =
    let setting : setting_of d e.setting ≡ s.setting = setting_is d e.setting s.setting f.setting in
    rw (f.node, f.start, f.private, setting) refl

pub record Rises (os cs : List (Option ℕ)) (hs : List HeadEntry) : Type 0 where
  pub scopes : RiseFrom 0 os
  pub class_bodies : RiseFrom 0 cs
  pub heads : RiseFrom 0 (parents hs)
  pub head_scopes : AreHeads os hs

pub record Matches (l : State) (s : Seen) : Type 0 where
  pub nodes : l.nodes ≡ s.nodes
  pub scopes : lineages l.scopes ≡ reverse s.scopes
  pub class_bodies : length l.class_bodies ≡ s.classes
  pub sites : Beside (SiteFits (lists_of l)) l.places (reverse s.sites)
  pub withs : Beside (Stands (lineages l.scopes)) l.withs (reverse s.withs)
  pub both : length l.var_scopes ≡ length l.scopes
  pub rises : Rises l.scopes l.class_bodies l.heads

sites_on : (a b : Lists) (es : List Entry) (ss : List Site) → AllGrow a b → Beside (SiteFits a) es ss → Beside (SiteFits b) es ss
sites_on a b es ss g h = beside_on (SiteFits a) (SiteFits b) es ss (λ e s f. record { node = f.node; start = f.start; private = f.private; setting = fits_on a b e.setting s.setting g f.setting }) h

withs_on : (a b : List (List ℕ)) (ws : List (Option ℕ)) (ss : List Scope) → Grows a b → Beside (Stands a) ws ss → Beside (Stands b) ws ss
withs_on a b ws ss g h = beside_on (Stands a) (Stands b) ws ss (λ o xs f. stands_on a b o xs g f) h

-- a state that is reached from another, and what holds at a place there
pub record Reached (l m : State) (s : Seen) (e : Setting) (x : places.Setting) : Type 0 where
  pub matches : Matches m s
  pub grows : AllGrow (lists_of l) (lists_of m)
  pub fits : Fits (lists_of m) e x

-- a walk
pub record Walked (l m : State) (s : Seen) : Type 0 where
  pub matches : Matches m s
  pub grows : AllGrow (lists_of l) (lists_of m)

-- ---- a field

pattern_fits : (m : Mode) (o : Option ℕ) (xs : List ℕ) → listed o ≡ xs → listed (spec.pattern_on m o) ≡ places.pattern_on m xs
unfolding all_open
pattern_fits Same o xs e = e
pattern_fits Leaves o xs e = e
pattern_fits m o xs e = refl

value_back : (v : places.Value) → value_of (value_from v) ≡ v
unfolding all_open
value_back places.no_value = refl
value_back places.other_value = refl
value_back places.anonymous_function = refl
value_back places.anonymous_class = refl

value_fits : (v w : places.Value) → v ≡ w → value_of (value_from v) ≡ w
value_fits v w e = value_back v ∙ e

stay : (l : State) (s : Seen) (e : Setting) (x : places.Setting) → Matches l s → Fits (lists_of l) e x → Reached l l s e x
stay l s e x m f = record { matches = m; grows = all_grow_not (lists_of l); fits = f }

-- a head is put: o stands for the scope of the node
head_step : (o : Option ℕ) (sc : Scope) (e : Setting) (x : places.Setting) (l : State) (s : Seen) → Stands (lists_of l).scopes o sc → Fits (lists_of l) e x → Matches l s
    → Reached l (spec.put_entry o e.head l) s (record e { head = spec.next_head o (length l.heads) e.head }) (record x { heads = number_of sc ++ x.heads })
unfolding all_open
head_step None sc e x l s st f m = record {
  matches = m;
  grows = all_grow_not (lists_of l);
  fits = record {
    role = f.role;
    scope = f.scope;
    var_scope = f.var_scope;
    has_var_scope = f.has_var_scope;
    classes = f.classes;
    heads = subst (λ (z : Scope). Stands (lists_of l).heads e.head (number_of z ++ x.heads)) st f.heads;
    strict = f.strict;
    exported = f.exported;
    bare = f.bare;
    value = f.value;
    pattern = f.pattern;
    in_rest = f.in_rest;
  };
}
head_step (Some k) sc e x l s st f m =
    let h : HeadEntry = record { scope = k; parent = e.head } in
    let after : State = record l { heads = l.heads ++ h ∷ [] } in
    let g : AllGrow (lists_of l) (lists_of after) = record {
      scopes = grows_not (lists_of l).scopes;
      class_bodies = grows_not (lists_of l).class_bodies;
      heads = heads_grow l.heads h x.heads f.heads;
      var_scopes = grows_not (lists_of l).var_scopes;
    } in
    record {
      matches = record {
        nodes = m.nodes;
        scopes = m.scopes;
        class_bodies = m.class_bodies;
        sites = sites_on (lists_of l) (lists_of after) l.places (reverse s.sites) g m.sites;
        withs = m.withs;
        both = m.both;
        rises = record {
          scopes = m.rises.scopes;
          class_bodies = m.rises.class_bodies;
          heads = head_rises l.heads h x.heads m.rises.heads f.heads;
          head_scopes = head_joins l.scopes l.heads h m.rises.head_scopes (line_below l.scopes (Some k) sc st);
        };
      };
      grows = g;
      fits = record {
        role = f.role;
        scope = f.scope;
        var_scope = f.var_scope;
        has_var_scope = f.has_var_scope;
        classes = f.classes;
        heads =
            subst (λ (z : List ℕ). Stands (head_lists (l.heads ++ h ∷ [])) (Some (length l.heads)) (z ++ x.heads)) (sym (own_number l.scopes k sc st)) (head_stands l.heads h x.heads f.heads);
        strict = f.strict;
        exported = f.exported;
        bare = f.bare;
        value = f.value;
        pattern = f.pattern;
        in_rest = f.in_rest;
      };
    }

mark_step : (mark : Mark) (xs ys : Parts) (n k : ℕ) (o : Option ℕ) (sc : Scope) (e : Setting) (x : places.Setting) (l : State) (s : Seen)
    → MarkAgrees mark xs ys → n ≡ k → Stands (lists_of l).scopes o sc → Fits (lists_of l) e x → Matches l s
    → Reached l (spec.put_head mark o e.head l) s (spec.with_mark mark xs n o (length l.heads) e) (places.with_mark mark ys k (number_of sc) x)
unfolding all_open
mark_step Usual xs ys n k o sc e x l s g p st f m = stay l s e x m f
mark_step Body xs ys n k o sc e x l s g p st f m = stay l s _ _ m (record {
  role = f.role;
  scope = f.scope;
  var_scope = f.var_scope;
  has_var_scope = f.has_var_scope;
  classes = f.classes;
  heads = f.heads;
  strict = f.strict;
  exported = f.exported;
  bare = refl;
  value = f.value;
  pattern = f.pattern;
  in_rest = f.in_rest;
})
mark_step Head xs ys n k o sc e x l s g p st f m = head_step o sc e x l s st f m
mark_step Exported xs ys n k o sc e x l s g p st f m = stay l s _ _ m (record {
  role = f.role;
  scope = f.scope;
  var_scope = f.var_scope;
  has_var_scope = f.has_var_scope;
  classes = f.classes;
  heads = f.heads;
  strict = f.strict;
  exported = refl;
  bare = f.bare;
  value = f.value;
  pattern = f.pattern;
  in_rest = f.in_rest;
})
mark_step (Valued i) xs ys n k o sc e x l s g p st f m = stay l s _ _ m (record {
  role = f.role;
  scope = f.scope;
  var_scope = f.var_scope;
  has_var_scope = f.has_var_scope;
  classes = f.classes;
  heads = f.heads;
  strict = f.strict;
  exported = f.exported;
  bare = f.bare;
  value = value_fits (naming_value (part xs i)) (naming_value (part ys i)) g;
  pattern = f.pattern;
  in_rest = f.in_rest;
})
mark_step (Declarator i) xs ys n k o sc e x l s g p st f m = stay l s _ _ m (record {
  role = f.role;
  scope = f.scope;
  var_scope = f.var_scope;
  has_var_scope = f.has_var_scope;
  classes = f.classes;
  heads = f.heads;
  strict = f.strict;
  exported = f.exported;
  bare = f.bare;
  value = value_fits (naming_value (part xs i)) (naming_value (part ys i)) g;
  pattern = ap (λ (j : ℕ). j ∷ []) p;
  in_rest = refl;
})
mark_step Rest xs ys n k o sc e x l s g p st f m = stay l s _ _ m (record {
  role = f.role;
  scope = f.scope;
  var_scope = f.var_scope;
  has_var_scope = f.has_var_scope;
  classes = f.classes;
  heads = f.heads;
  strict = f.strict;
  exported = f.exported;
  bare = f.bare;
  value = f.value;
  pattern = f.pattern;
  in_rest = refl;
})

field_step : (c : Column) (a : Around) (b : places.Around) (l : State) (s : Seen) → Agree c a.fields b.fields → AroundFits (lists_of l) a b → Matches l s
    → Reached l (spec.after_field c a l) s (spec.at_field c a (length l.heads)) (places.at_field c b)
unfolding all_open
field_step c a b l s g af m =
    let f : Fits (lists_of l) (spec.side c.inside a) (places.side c.inside b) = side_fits (lists_of l) a b c.inside af in
    mark_step c.mark a.fields b.fields a.number b.number a.inside.scope b.inside.scope _ _ l s g.1 af.number af.inside.scope
    (record {
      role = ap (λ r. role_at c.mode r a.fields) af.outside.role ∙ g.0 b.outside.role;
      scope = f.scope;
      var_scope = f.var_scope;
      has_var_scope = f.has_var_scope;
      classes = f.classes;
      heads = f.heads;
      strict = f.strict;
      exported = f.exported;
      bare = refl;
      value = refl;
      pattern = pattern_fits c.mode (spec.side c.inside a).declarator (places.side c.inside b).pattern f.pattern;
      in_rest = f.in_rest;
    }) m

-- ---- a node

-- the same setting but for its strictness
strict_fits : (d : Lists) (e : Setting) (x : places.Setting) (b c : Bool) → b ≡ c → Fits d e x → Fits d (record e { strict = b }) (record x { strict = c })
strict_fits d e x b c p f = record {
  role = f.role;
  scope = f.scope;
  var_scope = f.var_scope;
  has_var_scope = f.has_var_scope;
  classes = f.classes;
  heads = f.heads;
  strict = p;
  exported = f.exported;
  bare = f.bare;
  value = f.value;
  pattern = f.pattern;
  in_rest = f.in_rest;
}

-- a node that opens nothing
met_nothing : (l : State) (s : Seen) (e : Setting) (x : places.Setting) → Matches l s → Fits (lists_of l) e x
    → Reached l (record l { nodes = suc l.nodes }) (record s { nodes = suc s.nodes }) e x
unfolding all_open
met_nothing l s e x m f = record {
  matches = record { nodes = ap suc m.nodes; scopes = m.scopes; class_bodies = m.class_bodies; sites = m.sites; withs = m.withs; both = m.both; rises = m.rises };
  grows = all_grow_not (lists_of l);
  fits = f;
}

-- a node that is a place
met_place : (private : Bool) (b : ℕ) (name : Text) (l : State) (s : Seen) (e inner_e : Setting) (x inner_x : places.Setting) → Matches l s → Fits (lists_of l) e x → Fits (lists_of l) inner_e inner_x
    → Reached l (record l { nodes = suc l.nodes; places = l.places ++ record { node = l.nodes; start = b; private = private; setting = e; name = name } ∷ [] })
    (record s { nodes = suc s.nodes; sites = record { node = s.nodes; start = b; private = private; setting = x } ∷ s.sites }) inner_e inner_x
unfolding all_open
met_place private b name l s e inner_e x inner_x m f g = record {
  matches = record {
    nodes = ap suc m.nodes;
    scopes = m.scopes;
    class_bodies = m.class_bodies;
    sites =
        let site : Site = record { node = s.nodes; start = b; private = private; setting = x } in
        subst (λ (ys : List Site). Beside (SiteFits (lists_of l)) (l.places ++ record { node = l.nodes; start = b; private = private; setting = e; name = name } ∷ []) ys) (sym (reverse_onto s.sites site []))
        (beside_push (SiteFits (lists_of l)) l.places (reverse s.sites) _ site m.sites (record { node = m.nodes; start = refl; private = refl; setting = f }));
    withs = m.withs;
    both = m.both;
    rises = m.rises;
  };
  grows = all_grow_not (lists_of l);
  fits = g;
}

-- a node that opens a class body
met_class : (l : State) (s : Seen) (e inner_e : Setting) (x inner_x : places.Setting) → Matches l s → Fits (lists_of l) e x → Fits (lists_of l) inner_e inner_x
    → Reached l (record l { nodes = suc l.nodes; class_bodies = l.class_bodies ++ e.class_body ∷ [] })
    (record s { nodes = suc s.nodes; classes = suc s.classes }) (record inner_e { class_body = Some (length l.class_bodies) }) (record inner_x { classes = s.classes ∷ x.classes })
unfolding all_open
met_class l s e inner_e x inner_x m f g =
    let after : State = record l { nodes = suc l.nodes; class_bodies = l.class_bodies ++ e.class_body ∷ [] } in
    let grown : AllGrow (lists_of l) (lists_of after) = record {
      scopes = grows_not (lists_of l).scopes;
      class_bodies = lineages_grow l.class_bodies e.class_body x.classes f.classes;
      heads = grows_not (lists_of l).heads;
      var_scopes = grows_not (lists_of l).var_scopes;
    } in
    let h : Fits (lists_of after) inner_e inner_x = fits_on (lists_of l) (lists_of after) inner_e inner_x grown g in
    record {
      matches = record {
        nodes = ap suc m.nodes;
        scopes = m.scopes;
        class_bodies = let e : length (l.class_bodies ++ e.class_body ∷ []) ≡ length l.class_bodies + 1 = length-append l.class_bodies (e.class_body ∷ []) in omega (arith, e, m.class_bodies);
        sites = sites_on (lists_of l) (lists_of after) l.places (reverse s.sites) grown m.sites;
        withs = m.withs;
        both = m.both;
        rises = record {
          scopes = m.rises.scopes;
          class_bodies = line_rises l.class_bodies e.class_body x.classes m.rises.class_bodies f.classes;
          heads = m.rises.heads;
          head_scopes = m.rises.head_scopes;
        };
      };
      grows = grown;
      fits = record {
        role = h.role;
        scope = h.scope;
        var_scope = h.var_scope;
        has_var_scope = h.has_var_scope;
        classes = line_stands l.class_bodies e.class_body x.classes f.classes s.classes (sym m.class_bodies);
        heads = h.heads;
        strict = h.strict;
        exported = h.exported;
        bare = h.bare;
        value = h.value;
        pattern = h.pattern;
        in_rest = h.in_rest;
      };
    }

-- a node that opens a scope
module _ (l : State) (s : Seen) (e inner_e : Setting) (x inner_x : places.Setting) (m : Matches l s) (f : Fits (lists_of l) e x) (g : Fits (lists_of l) inner_e inner_x) (v : Option ℕ) where
  many_scopes : length s.scopes ≡ length l.scopes
  many_scopes = sym (length-reverse s.scopes) ∙ ap (λ (ys : List Scope). length ys) (sym m.scopes) ∙ lineages_length l.scopes

  abbrev scoped : State
  scoped = record l { nodes = suc l.nodes; scopes = l.scopes ++ e.scope ∷ []; var_scopes = l.var_scopes ++ v ∷ [] }

  scope_grow : AllGrow (lists_of l) (lists_of scoped)
  unfolding all_open
  scope_grow = record {
    scopes = lineages_grow l.scopes e.scope x.scope f.scope;
    class_bodies = grows_not (lists_of l).class_bodies;
    heads = grows_not (lists_of l).heads;
    var_scopes = grows_push l.var_scopes v;
  }

  scope_matches : Matches scoped (record s { nodes = suc s.nodes; scopes = (length s.scopes ∷ x.scope) ∷ s.scopes })
  unfolding all_open
  scope_matches = record {
    nodes = ap suc m.nodes;
    scopes =
        lineages_push l.scopes e.scope x.scope f.scope (length s.scopes) many_scopes
        ∙ ap (λ (ys : List Scope). ys ++ (length s.scopes ∷ x.scope) ∷ []) m.scopes
        ∙ sym (reverse_onto s.scopes (length s.scopes ∷ x.scope) []);
    class_bodies = m.class_bodies;
    sites = sites_on (lists_of l) (lists_of scoped) l.places (reverse s.sites) scope_grow m.sites;
    withs = withs_on (lineages l.scopes) (lineages scoped.scopes) l.withs (reverse s.withs) scope_grow.scopes m.withs;
    both = let p : length (l.var_scopes ++ v ∷ []) ≡ length l.var_scopes + 1 = length-append l.var_scopes (v ∷ []) in let q : length (l.scopes ++ e.scope ∷ []) ≡ length l.scopes + 1 = length-append l.scopes (e.scope ∷ []) in omega (arith, p, q, m.both);
    rises = record {
      scopes = line_rises l.scopes e.scope x.scope m.rises.scopes f.scope;
      class_bodies = m.rises.class_bodies;
      heads = m.rises.heads;
      head_scopes = heads_stay l.scopes e.scope l.heads m.rises.head_scopes;
    };
  }

  scope_stands : Stands (lineages scoped.scopes) (Some (length l.scopes)) (length s.scopes ∷ x.scope)
  unfolding all_open
  scope_stands = line_stands l.scopes e.scope x.scope f.scope (length s.scopes) many_scopes

  scope_has : slice_get (l.var_scopes ++ v ∷ []) (length l.scopes) ≡ Some v
  scope_has = ap (slice_get (l.var_scopes ++ v ∷ [])) (sym m.both) ∙ last_is l.var_scopes v

  scope_fits : v ≡ inner_e.var_scope → Fits (lists_of scoped) (record inner_e { scope = Some (length l.scopes) }) (record inner_x { scope = length s.scopes ∷ x.scope })
  unfolding all_open
  scope_fits same =
      let h : Fits (lists_of scoped) inner_e inner_x = fits_on (lists_of l) (lists_of scoped) inner_e inner_x scope_grow g in
      record {
        role = h.role;
        scope = scope_stands;
        var_scope = h.var_scope;
        has_var_scope = scope_has ∙ ap (λ (w : Option ℕ). Some w) same;
        classes = h.classes;
        heads = h.heads;
        strict = h.strict;
        exported = h.exported;
        bare = h.bare;
        value = h.value;
        pattern = h.pattern;
        in_rest = h.in_rest;
      }

  hoisting_fits : v ≡ Some (length l.scopes) → Fits (lists_of scoped) (record inner_e { scope = Some (length l.scopes); var_scope = Some (length l.scopes) }) (record inner_x { scope = length s.scopes ∷ x.scope; var_scope = length s.scopes ∷ x.scope })
  unfolding all_open
  hoisting_fits same =
      let h : Fits (lists_of scoped) inner_e inner_x = fits_on (lists_of l) (lists_of scoped) inner_e inner_x scope_grow g in
      record {
        role = h.role;
        scope = scope_stands;
        var_scope = scope_stands;
        has_var_scope = scope_has ∙ ap (λ (w : Option ℕ). Some w) same;
        classes = h.classes;
        heads = h.heads;
        strict = h.strict;
        exported = h.exported;
        bare = h.bare;
        value = h.value;
        pattern = h.pattern;
        in_rest = h.in_rest;
      }

  with_matches : Matches (record scoped { withs = l.withs ++ e.scope ∷ [] }) (record s { nodes = suc s.nodes; scopes = (length s.scopes ∷ x.scope) ∷ s.scopes; withs = x.scope ∷ s.withs })
  unfolding all_open
  with_matches = record {
    nodes = scope_matches.nodes;
    scopes = scope_matches.scopes;
    class_bodies = m.class_bodies;
    sites = scope_matches.sites;
    withs =
        subst (λ (ys : List Scope). Beside (Stands (lineages scoped.scopes)) (l.withs ++ e.scope ∷ []) ys) (sym (reverse_onto s.withs x.scope []))
        (beside_push (Stands (lineages scoped.scopes)) l.withs (reverse s.withs) e.scope x.scope scope_matches.withs (stands_on (lineages l.scopes) (lineages scoped.scopes) e.scope x.scope scope_grow.scopes f.scope));
    both = scope_matches.both;
    rises = scope_matches.rises;
  }

bare_reached : (l : State) (s : Seen) (e inner_e : Setting) (x inner_x : places.Setting) (m : Matches l s) (f : Fits (lists_of l) e x) (g : Fits (lists_of l) inner_e inner_x) (b : Bool)
    → Reached l (record l { nodes = suc l.nodes; scopes = if b then l.scopes else l.scopes ++ e.scope ∷ []; var_scopes = if b then l.var_scopes else l.var_scopes ++ (if b then inner_e else record inner_e { scope = Some (length l.scopes) }).var_scope ∷ [] })
    (record s { nodes = suc s.nodes; scopes = if b then s.scopes else (if b then inner_x else record inner_x { scope = length s.scopes ∷ x.scope }).scope ∷ s.scopes })
    (if b then inner_e else record inner_e { scope = Some (length l.scopes) }) (if b then inner_x else record inner_x { scope = length s.scopes ∷ x.scope })
unfolding all_open
bare_reached l s e inner_e x inner_x m f g true = met_nothing l s inner_e inner_x m g
bare_reached l s e inner_e x inner_x m f g false =
    record { matches = scope_matches l s e inner_e x inner_x m f g inner_e.var_scope; grows = scope_grow l s e inner_e x inner_x m f g inner_e.var_scope; fits = scope_fits l s e inner_e x inner_x m f g inner_e.var_scope refl }

met_step : (o : Opens) (b : ℕ) (e : Setting) (x : places.Setting) (name : Text) (p q : Bool) (l : State) (s : Seen) → p ≡ q → Fits (lists_of l) e x → Matches l s
    → Reached l (spec.met o b e (spec.opened o (length l.scopes) (length l.class_bodies) (record e { strict = p })).var_scope name l) (places.met o b x (places.opened o (length s.scopes) s.classes (record x { strict = q })).scope s)
    (spec.opened o (length l.scopes) (length l.class_bodies) (record e { strict = p })) (places.opened o (length s.scopes) s.classes (record x { strict = q }))
unfolding all_open
met_step Nothing b e x name p q l s same f m = met_nothing l s _ _ m (strict_fits (lists_of l) e x p q same f)
met_step Block b e x name p q l s same f m =
    let g : Fits (lists_of l) (record e { strict = p }) (record x { strict = q }) = strict_fits (lists_of l) e x p q same f in
    record { matches = scope_matches l s e _ x _ m f g e.var_scope; grows = scope_grow l s e _ x _ m f g e.var_scope; fits = scope_fits l s e _ x _ m f g e.var_scope refl }
met_step BareBlock b e x name p q l s same f m =
    let g : Fits (lists_of l) (record e { strict = p }) (record x { strict = q }) = strict_fits (lists_of l) e x p q same f in
    subst (λ (z : Bool). Reached l (record l { nodes = suc l.nodes; scopes = if e.bare then l.scopes else l.scopes ++ e.scope ∷ []; var_scopes = if e.bare then l.var_scopes else l.var_scopes ++ (if e.bare then record e { strict = p } else record e { strict = p; scope = Some (length l.scopes) }).var_scope ∷ [] })
    (record s { nodes = suc s.nodes; scopes = if z then s.scopes else (if z then record x { strict = q } else record x { strict = q; scope = length s.scopes ∷ x.scope }).scope ∷ s.scopes })
    (if e.bare then record e { strict = p } else record e { strict = p; scope = Some (length l.scopes) }) (if z then record x { strict = q } else record x { strict = q; scope = length s.scopes ∷ x.scope }))
    f.bare (bare_reached l s e (record e { strict = p }) x (record x { strict = q }) m f g e.bare)
met_step WithBody b e x name p q l s same f m =
    let g : Fits (lists_of l) (record e { strict = p }) (record x { strict = q }) = strict_fits (lists_of l) e x p q same f in
    record { matches = with_matches l s e _ x _ m f g e.var_scope; grows = scope_grow l s e _ x _ m f g e.var_scope; fits = scope_fits l s e _ x _ m f g e.var_scope refl }
met_step Hoisting b e x name p q l s same f m =
    let g : Fits (lists_of l) (record e { strict = p }) (record x { strict = q }) = strict_fits (lists_of l) e x p q same f in
    record { matches = scope_matches l s e _ x _ m f g (Some (length l.scopes)); grows = scope_grow l s e _ x _ m f g (Some (length l.scopes)); fits = hoisting_fits l s e _ x _ m f g (Some (length l.scopes)) refl }
met_step ClassMembers b e x name p q l s same f m = met_class l s e _ x _ m f (strict_fits (lists_of l) e x p q same f)
met_step NameHere b e x name p q l s same f m = met_place false b name l s e _ x _ m f (strict_fits (lists_of l) e x p q same f)
met_step PrivateNameHere b e x name p q l s same f m = met_place true b name l s e _ x _ m f (strict_fits (lists_of l) e x p q same f)

-- ---- a node in its field

abbrev pub here_at : Column → Around → State → Setting
here_at c a l = spec.at_field c a (length l.heads)

abbrev pub entered : Kind → Parts → Column → Around → State → Around
entered k fields c a l = spec.enter k fields (here_at c a l) (spec.after_field c a l)

abbrev pub noted : Tree → Column → Around → State → State
noted t c a l = spec.put_scope (row t.kind).opens (scope_kind t.kind c a.value_scope) (here_at c a l) (entered t.kind t.fields c a l).inside (spec.listed_node a (here_at c a l) t (spec.after_field c a l))

abbrev pub after_node : Tree → Column → Around → State → State
after_node t c a l = spec.met (row t.kind).opens t.start (here_at c a l) (entered t.kind t.fields c a l).inside.var_scope (text_of t.fields) (noted t c a l)

abbrev pub entered_there : Kind → Parts → Column → places.Around → Seen → places.Around
entered_there k fields c b s = places.enter (row k) (hide k fields) (places.at_field c b) s

abbrev pub met_there : Tree → Column → places.Around → Seen → Seen
met_there t c b s = places.met (row t.kind).opens t.start (places.at_field c b) (entered_there t.kind t.fields c b s).inside.scope s

pub record NodeReached (t : Tree) (c : Column) (a : Around) (b : places.Around) (l : State) (s : Seen) : Type 0 where
  pub field : Reached l (spec.after_field c a l) s (here_at c a l) (places.at_field c b)
  pub node : Reached (noted t c a l) (after_node t c a l) (met_there t c b s) (entered t.kind t.fields c a l).inside (entered_there t.kind t.fields c b s).inside
  pub grows : AllGrow (lists_of l) (lists_of (after_node t c a l))
  pub around : AroundFits (lists_of (after_node t c a l)) (entered t.kind t.fields c a l) (entered_there t.kind t.fields c b s)

-- what is noted of a node changes nothing that matches
noted_matches : (o : Opens) (k : ScopeKind) (e inner : Setting) (a : Around) (here : Setting) (t : Tree) (l : State) (s : Seen) → Matches l s → Matches (spec.put_scope o k e inner (spec.listed_node a here t l)) s
unfolding all_open
noted_matches o k e inner a here t l s m = record { nodes = m.nodes; scopes = m.scopes; class_bodies = m.class_bodies; sites = m.sites; withs = m.withs; both = m.both; rises = m.rises }

pub node_step : (t : Tree) (c : Column) (a : Around) (b : places.Around) (l : State) (s : Seen) → Agree c a.fields b.fields → AroundFits (lists_of l) a b → Matches l s → NodeReached t c a b l s
unfolding all_open
node_step t c a b l s g af m =
    let here : Setting = here_at c a l in
    let there : places.Setting = places.at_field c b in
    let l₁ : State = spec.after_field c a l in
    let f : Reached l l₁ s here there = field_step c a b l s g af m in
    let h : Reached (noted t c a l) (after_node t c a l) (met_there t c b s) (entered t.kind t.fields c a l).inside (entered_there t.kind t.fields c b s).inside =
    met_step (row t.kind).opens t.start here there (text_of t.fields) (strict_in (row t.kind).strict here.strict t.fields) (strict_in (row t.kind).strict there.strict (hide t.kind t.fields)) (noted t c a l) s
    (ap (λ (z : Bool). strict_in (row t.kind).strict z t.fields) f.fits.strict ∙ hidden_strict t.kind there.strict t.fields) f.fits
    (noted_matches (row t.kind).opens (scope_kind t.kind c a.value_scope) here (entered t.kind t.fields c a l).inside a here t l₁ s f.matches) in
    record {
      field = f;
      node = h;
      grows = all_grow_on (lists_of l) (lists_of l₁) (lists_of (after_node t c a l)) f.grows h.grows;
      around = record { outside = fits_on (lists_of l₁) (lists_of (after_node t c a l)) here there h.grows f.fits; inside = h.fits; number = f.matches.nodes };
    }

-- ---- the walk

pub walk_follows : (ps : Parts) (columns : Along) (a : Around) (b : places.Around) (l : State) (s : Seen)
    → AlongAgrees columns a.fields b.fields → AroundFits (lists_of l) a b → Matches l s → Walked l (spec.walk ps columns a l) (places.walk ps columns b s)
unfolding all_open
walk_follows done columns a b l s g af m = record { matches = m; grows = all_grow_not (lists_of l) }
walk_follows (atom v more) columns a b l s g af m = walk_follows more (other_columns columns) a b l s (others_agree columns _ _ g) af m
walk_follows (many items more) columns a b l s g af m =
    let l₁ : State = spec.walk items (all (first_column columns)) a l in
    let s₁ : Seen = places.walk items (all (first_column columns)) b s in
    let w : Walked l l₁ s₁ = walk_follows items (all (first_column columns)) a b l s (first_agrees columns _ _ g) af m in
    let v : Walked l₁ (spec.walk more (other_columns columns) a l₁) (places.walk more (other_columns columns) b s₁) =
    walk_follows more (other_columns columns) a b l₁ s₁ (others_agree columns _ _ g) (around_on (lists_of l) (lists_of l₁) a b w.grows af) w.matches in
    record { matches = v.matches; grows = all_grow_on (lists_of l) (lists_of l₁) _ w.grows v.grows }
walk_follows (child k start stop fields more) columns a b l s g af m =
    let c : Column = first_column columns in
    let t : Tree = record { kind = k; start = start; stop = stop; fields = fields } in
    let r : NodeReached t c a b l s = node_step t c a b l s (first_agrees columns _ _ g) af m in
    let l₂ : State = after_node t c a l in
    let s₂ : Seen = met_there t c b s in
    let l₃ : State = spec.walk fields (each (row k).columns) (entered k fields c a l) l₂ in
    let s₃ : Seen = places.walk fields (each (row k).columns) (entered_there k fields c b s) s₂ in
    let w : Walked l₂ l₃ s₃ = walk_follows fields (each (row k).columns) (entered k fields c a l) (entered_there k fields c b s) l₂ s₂ (hidden_agrees k fields) r.around r.node.matches in
    let grown : AllGrow (lists_of l) (lists_of l₃) = all_grow_on (lists_of l) (lists_of l₂) (lists_of l₃) r.grows w.grows in
    let v : Walked l₃ (spec.walk more (other_columns columns) a l₃) (places.walk more (other_columns columns) b s₃) =
    walk_follows more (other_columns columns) a b l₃ s₃ (others_agree columns _ _ g) (around_on (lists_of l) (lists_of l₃) a b grown af) w.matches in
    record { matches = v.matches; grows = all_grow_on (lists_of l) (lists_of l₃) _ grown v.grows }

-- ---- from the root

pub root_agrees : AlongAgrees (all unlisted) spec.before_all.fields places.before_all.fields
unfolding all_open
root_agrees = (λ own. refl, tt)

pub root_fits : (b : Bool) → AroundFits (lists_of (nothing_met b)) spec.before_all places.before_all
unfolding all_open
root_fits b = record { outside = nowhere_fits; inside = nowhere_fits; number = refl }
  where
    nowhere_fits : Fits (lists_of (nothing_met b)) spec.nowhere places.nowhere
    nowhere_fits = record { role = refl; scope = refl; var_scope = refl; has_var_scope = refl; classes = refl; heads = refl; strict = refl; exported = refl; bare = refl; value = refl; pattern = refl; in_rest = refl }

pub root_matches : (b : Bool) → Matches (nothing_met b) places.nothing_yet
unfolding all_open
root_matches b = record { nodes = refl; scopes = refl; class_bodies = refl; sites = tt; withs = tt; both = refl; rises = record { scopes = nothing_rises; class_bodies = nothing_rises; heads = nothing_rises; head_scopes = tt } }

pub tables_match : (b : Bool) (t : Parts) → Matches (tables_of b t) (seen t)
unfolding tables_of seen
tables_match b t = (walk_follows t (all unlisted) spec.before_all places.before_all (nothing_met b) places.nothing_yet root_agrees (root_fits b) (root_matches b)).matches
