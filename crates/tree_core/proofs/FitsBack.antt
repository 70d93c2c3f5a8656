-- A tree that fits the node table is read from its value, and that value has a text.
use Rattle.std.proofs.Common.{◌≡◌, ℕ, ◌^◌, ◌<◌, pos, List, [], ◌∷◌, Bool, true, false, not, ◌||◌, Option, Some, None, option_map, option_and_then, refl, sym, ap, ◌∙◌, subst, arith, bytes_eq, codes, lt-ltb}
use Rattle.json_text.specs.Json.{Json, null, truth, whole as number, string, list, Items, item, Members, member}
use Rattle.json_text.specs.HasText.{HasText, ItemsHaveText, MembersHaveText}
use Rattle.json_text.proofs.Units.{AreCodeUnits-are_code_units, AreCodeUnits-text_of_units}
use Rattle.tree_nodes.specs.Look.{onto}
use Rattle.tree_core.specs.Reading.{are_distinct, find_member, is_listed, is_null_value, is_object, is_paired, items_from, list_of, offset_of, one, only_known, or_hole, part_from, part_in, row_for, run_of, shape_from, shape_of}
use Rattle.tree_nodes.specs.Table.{Column, Row, row, row_named}
use Rattle.tree_nodes.specs.Tree.{Atom, Parts, Tree, alone, atom, child, done, empty, flag, many, text, units, whole, word}
use Rattle.tree_core.specs.Values.{atom_value, fields_value, items_value, node_value, value_of}
use Rattle.tree_nodes.specs.declared.kind.Kind.{Kind}
use Rattle.tree_nodes.specs.declared.kind.Kind.TheVariants.{Literal}
use Rattle.tree_nodes.specs.declared.table.Class.{Class as FieldClass}
use Rattle.tree_nodes.specs.declared.table.Class.TheVariants.{LiteralValue}
use Rattle.tree_core.proofs.AsciiTexts.{text_of_ascii}
use Rattle.tree_nodes.proofs.Cases.{bytes_turned}
use Rattle.tree_core.proofs.ObjectEntries.{AreEntries, Entry, all_columns, all_members, all_parts, entries_distinct, entries_known, entries_read, entries_text, listed_apart, not_found}
use Rattle.tree_core.proofs.FieldClasses.{sort_of}
use Rattle.tree_core.proofs.Fits.{FitFields, FitItems, Fits, FitsHead, TakesList, TakesNode}
use Rattle.tree_core.proofs.FieldsAsEntries.{Listed, Tail, atom_listed, nothing, one_more, plain_ordered}
use Rattle.tree_core.proofs.RowFacts.{are_ordered, row_sound}
use Rattle.tree_nodes.proofs.RowNames.{row_kind, row_named-name}

-- ---- a node

node_from : (ms : Members) (part : Column → Option Parts) (r : Row) (s e : ℕ) (ps : Parts) → row_for ms ≡ Some r
    → offset_of (find_member (codes "start") ms) ≡ Some s → offset_of (find_member (codes "end") ms) ≡ Some e
    → are_distinct ms ≡ true → only_known r.columns ms ≡ true → is_paired r.kind ms ≡ true
    → run_of part r.columns ≡ Some ps
    → shape_from ms part ≡ Some (record { kind = r.kind; start = s; stop = e; fields = ps })
node_from ms part r s e ps row starts ends distinct known paired run = rw (row, starts, ends, distinct, known, paired, run) refl

is_paired-kind : (k : Kind) (ms : Members) → (k ≡ Literal → is_object (find_member (codes "value") ms) ≡ false)
    → is_paired k ms ≡ true
is_paired-kind Literal ms h = ap (λ b. not b || is_object (find_member (codes "regex") ms)) (h refl)
is_paired-kind _ ms h = refl

-- a node's members, before its fields
abbrev head : Kind → ℕ → ℕ → Members → Members
head k s e fields =
    member (codes "type") (string (row k).name) (member (codes "start") (number (pos s)) (member (codes "end") (number (pos e)) fields))

row_of_head : (k : Kind) (s e : ℕ) (fields : Members) → row_for (head k s e fields) ≡ Some (row k)
row_of_head k s e fields = ap (option_and_then row_named) (text_of_ascii (row k).name (row_sound k).ascii) ∙ row_named-name k

offset_again : (n : ℕ) → n < 2 ^ 32 → offset_of (Some (number (pos n))) ≡ Some n
offset_again n h = rw (lt-ltb n (2 ^ 32) h) refl

past_head : (k : Kind) (s e : ℕ) (l : List ℕ) (fields : Members) → bytes_eq (codes "type") l ≡ false
    → bytes_eq (codes "start") l ≡ false → bytes_eq (codes "end") l ≡ false
    → find_member l (head k s e fields) ≡ find_member l fields
past_head k s e l fields a b c = rw (a, b, c) refl

node_entries : (k : Kind) (s e : ℕ) (es : List Entry) → FitsHead s e → AreEntries es
    → all_columns es ≡ (row k).columns
    → (k ≡ Literal → is_object (find_member (codes "value") (all_members es)) ≡ false)
    → shape_of (node_value k s e (all_members es)) ≡ Some (record { kind = k; start = s; stop = e; fields = all_parts es })
node_entries k s e es h good columns literal =
    let r = row k in
    let fields = all_members es in
    let ms = head k s e fields in
    let sound = row_sound k in
    let typed = ap (is_listed (codes "type")) columns ∙ sound.typed in
    let starts = ap (is_listed (codes "start")) columns ∙ sound.starts in
    let ends = ap (is_listed (codes "end")) columns ∙ sound.ends in
    let no_type = not_found (codes "type") es good typed in
    let no_start = not_found (codes "start") es good starts in
    let no_end = not_found (codes "end") es good ends in
    let distinct : are_distinct ms ≡ true = rw (no_type, no_start, no_end) (entries_distinct es good) in
    let known : only_known r.columns ms ≡ true = entries_known r.columns es good (λ l x. sym (ap (is_listed l) columns) ∙ x) in
    let paired : is_paired r.kind ms ≡ true = ap (λ x. is_paired x ms) (row_kind k) ∙ is_paired-kind k ms literal in
    let run : run_of (λ c. part_in ms c) (all_columns es) ≡ Some (all_parts es) =
    entries_read es ms good (λ l x. past_head k s e l fields
    (bytes_turned l (codes "type") (listed_apart l (codes "type") (all_columns es) x typed))
    (bytes_turned l (codes "start") (listed_apart l (codes "start") (all_columns es) x starts))
    (bytes_turned l (codes "end") (listed_apart l (codes "end") (all_columns es) x ends))) in
    node_from ms (λ c. part_in ms c) r s e (all_parts es) (row_of_head k s e fields) (offset_again s h.0) (offset_again e h.1)
    distinct known paired (sym (ap (run_of (λ c. part_in ms c)) columns) ∙ run)
    ∙ ap (λ x. Some (record { kind = x; start = s; stop = e; fields = all_parts es })) (row_kind k)

-- the value of a literal is no object
value_no_object : (class : FieldClass) (a : Atom) → is_object (Some (atom_value class a)) ≡ false
value_no_object class empty = refl
value_no_object class (flag b) = refl
value_no_object class (word n) = refl
value_no_object class (text x) = refl
value_no_object class (units us) = refl
value_no_object class (whole n) = refl

literal_value : (fs : Parts) → FitFields fs (row Literal).columns
    → is_object (find_member (codes "value") (fields_value fs (row Literal).columns)) ≡ false
literal_value done f = absurd f
literal_value (atom a more) f = value_no_object LiteralValue a
literal_value (child k s e fields more) f =
    let t : Tree = record { kind = k; start = s; stop = e; fields = fields } in
    absurd (cc (f.0.1 [] (truth true) t (λ h. None) refl))
literal_value (many items more) f = refl

literal_fields : (k : Kind) (fs : Parts) → FitFields fs (row k).columns → k ≡ Literal
    → is_object (find_member (codes "value") (fields_value fs (row k).columns)) ≡ false
literal_fields k fs f same =
    ap (λ x. is_object (find_member (codes "value") (fields_value fs (row x).columns))) same
    ∙ literal_value fs (subst (λ x. FitFields fs (row x).columns) same f)

short_below : (n : ℕ) → n < 2 ^ 32 → n < 10 ^ 64
short_below n h = omega arith

-- a node is read from its value, which has a text
abbrev NodeBack : Kind → ℕ → ℕ → Parts → Type 0
NodeBack k s e fs =
    (shape_of (node_value k s e (fields_value fs (row k).columns)) ≡ Some (record { kind = k; start = s; stop = e; fields = fs }))
    × HasText (node_value k s e (fields_value fs (row k).columns))

node_back : (k : Kind) (s e : ℕ) (fs : Parts) → FitsHead s e → FitFields fs (row k).columns
    → Listed fs (row k).columns → NodeBack k s e fs
node_back k s e fs h f l =
    let name = text_of_ascii (row k).name (row_sound k).ascii in
    let literal : k ≡ Literal → is_object (find_member (codes "value") (all_members l.entries)) ≡ false =
    λ same. ap (λ m. is_object (find_member (codes "value") m)) l.members ∙ literal_fields k fs f same in (
      ap (λ m. shape_of (node_value k s e m)) (sym l.members)
          ∙ node_entries k s e l.entries h l.good l.columns literal
          ∙ ap (λ ps. Some (record { kind = k; start = s; stop = e; fields = ps })) l.parts,
      (
        AreCodeUnits-are_code_units (codes "type") refl,
        AreCodeUnits-text_of_units (row k).name (row k).name name,
        (
          AreCodeUnits-are_code_units (codes "start") refl,
          short_below s h.0,
          (
            AreCodeUnits-are_code_units (codes "end") refl,
            short_below e h.1,
            subst MembersHaveText l.members (entries_text l.entries l.good),
          ),
        ),
      ),
    )

-- ---- all fields, all items

node_listed : (c : Column) (cs : List Column) (k : Kind) (s e : ℕ) (fields more : Parts) → TakesNode c.class
    → are_ordered (c ∷ cs) ≡ true → NodeBack k s e fields
    → (are_ordered cs ≡ true → Listed more cs) → Listed (child k s e fields more) (c ∷ cs)
node_listed c cs k s e fields more takes o back r =
    let v = node_value k s e (fields_value fields (row k).columns) in
    let t : Tree = record { kind = k; start = s; stop = e; fields = fields } in
    let outer = plain_ordered c cs takes.0 o in
    one_more c cs (alone t) more (child k s e fields more) (Some v) takes.0 outer
    (ap (λ x. part_from c.class c.key v x (list_of v)) back.0 ∙ takes.1 c.key v t (list_of v) refl)
    back.1 refl refl (r outer.rest)

abbrev ItemsBack : Parts → Bool → Type 0
ItemsBack ps holes = (items_from (items_value ps) holes ≡ Some ps) × ItemsHaveText (items_value ps)

list_listed : (c : Column) (cs : List Column) (holes : Bool) (items more : Parts) → TakesList c.class holes
    → are_ordered (c ∷ cs) ≡ true → ItemsBack items holes
    → (are_ordered cs ≡ true → Listed more cs) → Listed (many items more) (c ∷ cs)
list_listed c cs holes items more takes o back r =
    let v = list (items_value items) in
    let outer = plain_ordered c cs takes.0 o in
    one_more c cs (many items done) more (many items more) (Some v) takes.0 outer
    (takes.1 c.key v (shape_of v) (list_of v) ∙ ap (option_map (λ us. many us done)) back.0)
    back.1 refl refl (r outer.rest)

item_from : (holes : Bool) (d : Json) (ds : Items) (p more : Parts)
    → or_hole holes d (option_map alone (shape_of d)) ≡ Some p → items_from ds holes ≡ Some more
    → items_from (item d ds) holes ≡ Some (onto p more)
item_from holes d ds p more e f = ap (option_and_then (λ q. option_map (onto q) (items_from ds holes))) e
    ∙ ap (option_map (onto p)) f

or_hole_other : (holes : Bool) (d : Json) (o : Option Parts) → is_null_value d ≡ false → or_hole holes d o ≡ o
or_hole_other true d o e = rw e refl
or_hole_other false d o e = refl

hole_back : (holes : Bool) (a : Atom) (more : Parts) → holes ≡ true → a ≡ empty → ItemsBack more holes
    → ItemsBack (atom a more) holes
hole_back holes a more h same back = (
  item_from holes null (items_value more) (one empty) more (ap (λ b. or_hole b null None) h) back.0
      ∙ ap (λ x. Some (atom x more)) (sym same),
  (tt, back.1),
)

item_back : (k : Kind) (s e : ℕ) (fields more : Parts) (holes : Bool) → NodeBack k s e fields → ItemsBack more holes
    → ItemsBack (child k s e fields more) holes
item_back k s e fields more holes node back =
    let v = node_value k s e (fields_value fields (row k).columns) in
    let t : Tree = record { kind = k; start = s; stop = e; fields = fields } in
    let read = or_hole_other holes v (option_map alone (shape_of v)) refl ∙ ap (option_map alone) node.0 in (
      item_from holes v (items_value more) (alone t) more read back.0,
      (node.1, back.1),
    )

mutual
  -- of any fields, and of those after the next one, since a field may take the next into its object
  both_listed : (ps : Parts) (cs : List Column) → FitFields ps cs → (are_ordered cs ≡ true → Listed ps cs) × Tail ps cs
  both_listed done [] f = (λ o. nothing, tt)
  both_listed done (c ∷ cs) f = absurd f
  both_listed (atom a more) [] f = absurd f
  both_listed (atom a more) (c ∷ cs) f =
      let r = both_listed more cs f.2 in
      (λ o. atom_listed c cs a more (sort_of c.class) o f.0 f.1 f.2 r.0 r.1, r.0)
  both_listed (child k s e fields more) [] f = absurd f
  both_listed (child k s e fields more) (c ∷ cs) f =
      let inner = both_listed fields (row k).columns f.2 in
      let back = node_back k s e fields f.1 f.2 (inner.0 (row_sound k).ordered) in
      (λ o. node_listed c cs k s e fields more f.0 o back (both_listed more cs f.3).0, tt)
  both_listed (many items more) [] f = absurd f
  both_listed (many items more) (c ∷ cs) f =
      let back = items_back items f.0 f.2 in
      (λ o. list_listed c cs f.0 items more f.1 o back (both_listed more cs f.3).0, tt)

  items_back : (ps : Parts) (holes : Bool) → FitItems ps holes → ItemsBack ps holes
  items_back done holes f = (refl, tt)
  items_back (atom a more) holes f = hole_back holes a more f.0 f.1 (items_back more holes f.2)
  items_back (child k s e fields more) holes f =
      let inner = both_listed fields (row k).columns f.1 in
      let back = node_back k s e fields f.0 f.1 (inner.0 (row_sound k).ordered) in
      item_back k s e fields more holes back (items_back more holes f.2)
  items_back (many items more) holes f = absurd f

pub tree_back : (t : Tree) → Fits t → (shape_of (value_of t) ≡ Some t) × HasText (value_of t)
tree_back t f =
    let fields = both_listed t.fields (row t.kind).columns f.1 in
    node_back t.kind t.start t.stop t.fields f.0 f.1 (fields.0 (row_sound t.kind).ordered)
