-- A walk looks at no name and no shorthand mark: a tree and the same tree without these have one list of sites.
use Rattle.std.specs.Prelude.{◌≡◌, ℕ, zero, suc, Bool, true, false, ◌||◌, List, reverse, bytes_eq}
use Rattle.std.proofs.Common.{refl, sym, ap, ◌∙◌}
use Rattle.tree_places.specs.Open.{all_open}
use Rattle.tree_nodes.specs.Along.{Along, all, each, first_column, other_columns}
use Rattle.tree_places.specs.Places.{Around, Setting, Seen, at_field, before_all, block_items, directs, enter, field_setting, hide, list_items, met, naming_value, nothing_yet, scopes, seen, side, sites, strict_in, unmarked, unnamed, use_strict, walk, with_mark, withs}
use Rattle.tree_places.specs.Renaming.{IsRenamed, blind}
use Rattle.tree_nodes.specs.Roles.{role_at}
use Rattle.tree_nodes.specs.Table.{Column, Row, row, unlisted}
use Rattle.tree_nodes.specs.Tree.{Parts, atom, child, done, empty, flag, flag_of, is_empty, many, part, text, word, word_of}
use Rattle.tree_nodes.specs.declared.kind.Kind.{Kind}
use Rattle.tree_nodes.specs.declared.kind.Kind.TheVariants.{ArrowFunctionExpression, BlockStatement, ClassExpression, ExpressionStatement, FunctionExpression, Identifier, PrivateIdentifier, Property}
use Rattle.tree_nodes.specs.declared.table.Mark.{Mark}
use Rattle.tree_nodes.specs.declared.table.Mark.TheVariants.{Declarator, Valued}
use Rattle.tree_nodes.specs.declared.table.Mode.{Mode}
use Rattle.tree_nodes.specs.declared.table.Mode.TheVariants.{ByKind, ByOperator, Gives, Leaves, NamesExpression, NamesFunction, Same, UnlessComputed, UnlessOptional, UnlessSource}
use Rattle.tree_nodes.specs.declared.table.Role.{Role}
use Rattle.tree_nodes.specs.declared.table.Strict.{Strict}
use Rattle.tree_nodes.specs.declared.table.Strict.TheVariants.{Always, AsOutside, ByBlock, ByList}

pub part-blind : (xs : Parts) (i : ℕ) → part (blind xs) i ≡ blind (part xs i)
unfolding all_open
part-blind done i = refl
part-blind (atom a more) zero = refl
part-blind (atom a more) (suc i) = part-blind more i
part-blind (many items more) zero = refl
part-blind (many items more) (suc i) = part-blind more i
part-blind (child k s e fields more) zero = refl
part-blind (child k s e fields more) (suc i) = part-blind more i

pub flag_blind : (x : Parts) → flag_of (blind x) ≡ flag_of x
unfolding all_open
flag_blind (atom (flag b) more) = refl
flag_blind _ = refl

word_blind : (x : Parts) → word_of (blind x) ≡ word_of x
unfolding all_open
word_blind (atom (word n) more) = refl
word_blind _ = refl

pub blank-blind : (x : Parts) → is_empty (blind x) ≡ is_empty x
unfolding all_open
blank-blind (atom empty more) = refl
blank-blind _ = refl

pub flag_at : (xs : Parts) (i : ℕ) → flag_of (part (blind xs) i) ≡ flag_of (part xs i)
unfolding all_open
flag_at xs i = ap flag_of (part-blind xs i) ∙ flag_blind (part xs i)

pub word_at : (xs : Parts) (i : ℕ) → word_of (part (blind xs) i) ≡ word_of (part xs i)
unfolding all_open
word_at xs i = ap word_of (part-blind xs i) ∙ word_blind (part xs i)

pub blank_at : (xs : Parts) (i : ℕ) → is_empty (part (blind xs) i) ≡ is_empty (part xs i)
unfolding all_open
blank_at xs i = ap is_empty (part-blind xs i) ∙ blank-blind (part xs i)

value_blind : (x : Parts) → naming_value (blind x) ≡ naming_value x
unfolding all_open
value_blind (child ArrowFunctionExpression s e fields more) = refl
value_blind (child FunctionExpression s e fields more) = rw (blank_at fields 0)
value_blind (child ClassExpression s e fields more) = rw (blank_at fields 0)
value_blind _ = refl

value_at : (xs : Parts) (i : ℕ) → naming_value (part (blind xs) i) ≡ naming_value (part xs i)
unfolding all_open
value_at xs i = ap naming_value (part-blind xs i) ∙ value_blind (part xs i)

items_blind : (x : Parts) → list_items (blind x) ≡ blind (list_items x)
unfolding all_open
items_blind (many items more) = refl
items_blind _ = refl

block_blind : (x : Parts) → block_items (blind x) ≡ blind (block_items x)
unfolding all_open
block_blind (child BlockStatement s e fields more) = ap list_items (part-blind fields 0) ∙ items_blind (part fields 0)
block_blind _ = refl

abbrev directive : Parts → Bool → Bool
directive x later = elim x [ atom (text t) r ↦ bytes_eq t use_strict || later | _ ↦ false ]

directive_blind : (x : Parts) (later : Bool) → directive (blind x) later ≡ directive x later
unfolding all_open
directive_blind (atom (text t) more) later = refl
directive_blind _ later = refl

directs_blind : (x : Parts) → directs (blind x) ≡ directs x
unfolding all_open
directs_blind (child ExpressionStatement s e fields more) =
    ap (λ d. directive (part (blind fields) 1) d) (directs_blind more) ∙ ap (λ p. directive p (directs more)) (part-blind fields 1) ∙ directive_blind (part fields 1) (directs more)
directs_blind _ = refl

strict_blind : (r : Strict) (b : Bool) (xs : Parts) → strict_in r b (blind xs) ≡ strict_in r b xs
unfolding all_open
strict_blind AsOutside b xs = refl
strict_blind Always b xs = refl
strict_blind (ByList i j) b xs = rw (word_at xs i, part-blind xs j, items_blind (part xs j), directs_blind (list_items (part xs j)))
strict_blind (ByBlock i) b xs = rw (part-blind xs i, block_blind (part xs i), directs_blind (block_items (part xs i)))

pub role-blind : (m : Mode) (own : Role) (xs : Parts) → role_at m own (blind xs) ≡ role_at m own xs
unfolding all_open
role-blind (Gives r) own xs = refl
role-blind Same own xs = refl
role-blind Leaves own xs = refl
role-blind (UnlessComputed i r) own xs = rw (flag_at xs i)
role-blind (ByKind i) own xs = rw (word_at xs i)
role-blind (UnlessOptional i) own xs = rw (flag_at xs i)
role-blind (ByOperator i) own xs = rw (word_at xs i)
role-blind (UnlessSource i) own xs = rw (blank_at xs i)
role-blind (NamesFunction i j) own xs = rw (flag_at xs i, flag_at xs j)
role-blind (NamesExpression i j) own xs = rw (flag_at xs i, flag_at xs j)

mark_blind : (k : Mark) (xs : Parts) (n : ℕ) (opened : List ℕ) (e : Setting) → with_mark k (blind xs) n opened e ≡ with_mark k xs n opened e
unfolding all_open
mark_blind (Valued i) xs n opened e = rw (value_at xs i)
mark_blind (Declarator i) xs n opened e = rw (value_at xs i)
mark_blind _ xs n opened e = refl

-- a node's two sides with its fields blind
abbrev blinded : Around → Around
blinded a = record a { fields = blind a.fields }

side_blind : (b : Bool) (a : Around) → side b (blinded a) ≡ side b a
unfolding all_open
side_blind true a = refl
side_blind false a = refl

field_blind : (f : Column) (a : Around) (e : Setting) → field_setting f (blinded a) e ≡ field_setting f a e
unfolding all_open
field_blind f a e = rw (role-blind f.mode a.outside.role a.fields, mark_blind f.mark a.fields)

at_field_blind : (f : Column) (a : Around) → at_field f (blinded a) ≡ at_field f a
unfolding all_open
at_field_blind f a = ap (field_setting f (blinded a)) (side_blind f.inside a) ∙ field_blind f a (side f.inside a)

unmarked_blind : (xs : Parts) → unmarked (unmarked (blind xs)) ≡ blind (unmarked xs)
unfolding all_open
unmarked_blind (atom kind (child k s e key (child k' s' e' value (atom method (atom (flag mark) more))))) = refl
unmarked_blind _ = refl

unnamed_blind : (xs : Parts) → unnamed (unnamed (blind xs)) ≡ blind (unnamed xs)
unfolding all_open
unnamed_blind (atom (text x) more) = refl
unnamed_blind _ = refl

hide_blind : (k : Kind) (xs : Parts) → hide k (hide k (blind xs)) ≡ blind (hide k xs)
unfolding all_open
hide_blind Identifier xs = unnamed_blind xs
hide_blind PrivateIdentifier xs = unnamed_blind xs
hide_blind Property xs = unmarked_blind xs
hide_blind _ xs = refl

enter_blind : (r : Row) (xs : Parts) (e : Setting) (s : Seen) → enter r (blind xs) e s ≡ blinded (enter r xs e s)
unfolding all_open
enter_blind r xs e s = rw (strict_blind r.strict e.strict xs)

walk_unnamed : (x : Parts) (rows : Along) (a : Around) (s : Seen) → walk (unnamed x) rows a s ≡ walk x rows a s
unfolding all_open
walk_unnamed (atom (text n) more) rows a s = refl
walk_unnamed _ rows a s = refl

walk_unmarked : (x : Parts) (rows : Along) (a : Around) (s : Seen) → walk (unmarked x) rows a s ≡ walk x rows a s
unfolding all_open
walk_unmarked (atom kind (child k b e key (child k' b' e' value (atom method (atom (flag mark) more))))) rows a s = refl
walk_unmarked _ rows a s = refl

walk_hide : (k : Kind) (x : Parts) (rows : Along) (a : Around) (s : Seen) → walk (hide k x) rows a s ≡ walk x rows a s
unfolding all_open
walk_hide Identifier x rows a s = walk_unnamed x rows a s
walk_hide PrivateIdentifier x rows a s = walk_unnamed x rows a s
walk_hide Property x rows a s = walk_unmarked x rows a s
walk_hide _ x rows a s = refl

-- a node of the walk, where e holds, from what its fields look like
abbrev at_node : Kind → ℕ → Parts → Setting → Seen → Around → Seen
at_node k b fields e s around = walk fields (each (row k).columns) around (met (row k).opens b e around.inside.scope s)

node_blind : (k : Kind) (b : ℕ) (fields : Parts) (e : Setting) (s : Seen)
    → ((a : Around) (s' : Seen) → walk (blind fields) (each (row k).columns) (blinded a) s' ≡ walk fields (each (row k).columns) a s')
    → at_node k b (hide k (blind fields)) e s (enter (row k) (hide k (hide k (blind fields))) e s) ≡ at_node k b fields e s (enter (row k) (hide k fields) e s)
unfolding all_open
node_blind k b fields e s ih =
    let around : Around = enter (row k) (hide k fields) e s in
    let s' : Seen = met (row k).opens b e around.inside.scope s in
    ap (λ xs. at_node k b (hide k (blind fields)) e s (enter (row k) xs e s)) (hide_blind k fields)
    ∙ ap (at_node k b (hide k (blind fields)) e s) (enter_blind (row k) (hide k fields) e s)
    ∙ walk_hide k (blind fields) (each (row k).columns) (blinded around) s'
    ∙ ih around s'

walk_blind : (x : Parts) (rows : Along) (a : Around) (s : Seen) → walk (blind x) rows (blinded a) s ≡ walk x rows a s
unfolding all_open
walk_blind done rows a s = refl
walk_blind (atom x more) rows a s = walk_blind more (other_columns rows) a s
walk_blind (many items more) rows a s =
    ap (walk (blind more) (other_columns rows) (blinded a)) (walk_blind items (all (first_column rows)) a s) ∙ walk_blind more (other_columns rows) a (walk items (all (first_column rows)) a s)
walk_blind (child k b e fields more) rows a s =
    let here : Setting = at_field (first_column rows) a in
    ap (λ h. walk (blind more) (other_columns rows) (blinded a) (at_node k b (hide k (blind fields)) h s (enter (row k) (hide k (hide k (blind fields))) h s))) (at_field_blind (first_column rows) a)
    ∙ ap (walk (blind more) (other_columns rows) (blinded a)) (node_blind k b fields here s (λ a' s'. walk_blind fields (each (row k).columns) a' s'))
    ∙ walk_blind more (other_columns rows) a (at_node k b fields here s (enter (row k) (hide k fields) here s))

pub seen-blind : (t : Parts) → seen (blind t) ≡ seen t
unfolding all_open
seen-blind t = walk_blind t (all unlisted) before_all nothing_yet

pub withs_renamed : (t u : Parts) → IsRenamed t u → withs u ≡ withs t
unfolding all_open
withs_renamed t u r = ap (λ s. reverse s.withs) (sym (seen-blind u) ∙ ap seen r.alike ∙ seen-blind t)

-- the fact: renamed trees have one list of sites, and one list of scopes
pub sites_renamed : (t u : Parts) → IsRenamed t u → sites u ≡ sites t
unfolding all_open
sites_renamed t u r = ap (λ s. reverse s.sites) (sym (seen-blind u) ∙ ap seen r.alike ∙ seen-blind t)

pub scopes_renamed : (t u : Parts) → IsRenamed t u → scopes u ≡ scopes t
unfolding all_open
scopes_renamed t u r = ap (λ s. reverse s.scopes) (sym (seen-blind u) ∙ ap seen r.alike ∙ seen-blind t)
