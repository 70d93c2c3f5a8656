-- The members of a node's object, entry by entry: what is under a key, and the fields that are read from it.
use Rattle.std.proofs.Common.{◌≡◌, ℕ, List, [], ◌∷◌, ◌++◌, Bool, true, false, ◌||◌, Option, Some, None, option_map, option_and_then, refl, sym, ap, ◌∙◌, bytes_eq, true≢false}
use Rattle.json_text.specs.Json.{Json, Members, no_members, member}
use Rattle.json_text.specs.HasText.{AreCodeUnits, HasText, MembersHaveText}
use Rattle.tree_nodes.specs.Look.{onto}
use Rattle.tree_core.specs.Reading.{are_distinct, find_member, is_listed, only_known, outer_key, part_in, run_of}
use Rattle.tree_nodes.specs.Table.{Column}
use Rattle.tree_nodes.specs.Tree.{Parts, done}
use Rattle.tree_nodes.proofs.Cases.{bytes_differ, bytes_same, bytes_turned, map_some, neither, or_true, some_same, then_some}
use Rattle.tree_nodes.proofs.Onto.{onto_assoc}
use Rattle.tree_core.proofs.FieldUnderKey.{part_found, part_in-part_found}

-- a column, and what is read from it
pub record Cell : Type 0 where
  pub column : Column
  pub part : Parts

-- the cells that are read from what is under a key
pub record Entry : Type 0 where
  pub key : List ℕ
  pub value : Option Json
  pub cells : List Cell

abbrev pub columns_of : List Cell → List Column
columns_of [] = []
columns_of (c ∷ cs) = c.column ∷ columns_of cs

abbrev pub parts_of : List Cell → Parts
parts_of [] = done
parts_of (c ∷ cs) = onto c.part (parts_of cs)

abbrev pub put : List ℕ → Option Json → Members → Members
put k None more = more
put k (Some d) more = member k d more

abbrev pub all_columns : List Entry → List Column
all_columns [] = []
all_columns (e ∷ es) = columns_of e.cells ++ all_columns es

abbrev pub all_parts : List Entry → Parts
all_parts [] = done
all_parts (e ∷ es) = onto (parts_of e.cells) (all_parts es)

abbrev pub all_members : List Entry → Members
all_members [] = no_members
all_members (e ∷ es) = put e.key e.value (all_members es)

-- each cell lies under the key, and its part is read from there
abbrev pub AreRead : List ℕ → Option Json → List Cell → Type 0
AreRead k o [] = Unit {0}
AreRead k o (c ∷ cs) = (outer_key c.column ≡ k) × (part_found c.column o ≡ Some c.part) × AreRead k o cs

abbrev pub HasOptionText : Option Json → Type 0
HasOptionText None = Unit {0}
HasOptionText (Some d) = HasText d

pub record IsEntry (e : Entry) : Type 0 where
  pub read : AreRead e.key e.value e.cells
  pub listed : is_listed e.key (columns_of e.cells) ≡ true
  pub key_text : AreCodeUnits e.key
  pub value_text : HasOptionText e.value

-- entries, each with a key of its own
abbrev pub AreEntries : List Entry → Type 0
AreEntries [] = Unit {0}
AreEntries (e ∷ es) = IsEntry e × (is_listed e.key (all_columns es) ≡ false) × AreEntries es

-- ---- runs

run_of-append : (part : Column → Option Parts) (xs ys : List Column) (p q : Parts) → run_of part xs ≡ Some p
    → run_of part ys ≡ Some q → run_of part (xs ++ ys) ≡ Some (onto p q)
run_of-append part [] ys p q e f = f ∙ ap (λ x. Some (onto x q)) (some_same done p e)
run_of-append part (x ∷ xs) ys p q e f =
    let a = then_some (λ y. option_map (onto y) (run_of part xs)) (part x) p e in
    let m = map_some (onto a.0) (run_of part xs) p a.2 in
    ap (option_and_then (λ y. option_map (onto y) (run_of part (xs ++ ys)))) a.1
    ∙ ap (option_map (onto a.0)) (run_of-append part xs ys m.0 q m.1 f)
    ∙ ap Some (sym (onto_assoc a.0 m.0 q) ∙ ap (λ x. onto x q) m.2)

or_assoc : (a b c : Bool) → (a || (b || c)) ≡ ((a || b) || c)
or_assoc true b c = refl
or_assoc false b c = refl

is_listed-append : (k : List ℕ) (xs ys : List Column) → is_listed k (xs ++ ys) ≡ (is_listed k xs || is_listed k ys)
is_listed-append k [] ys = refl
is_listed-append k (x ∷ xs) ys = ap (λ b. bytes_eq (outer_key x) k || b) (is_listed-append k xs ys)
    ∙ or_assoc (bytes_eq (outer_key x) k) (is_listed k xs) (is_listed k ys)

listed_first : (k : List ℕ) (xs ys : List Column) → is_listed k xs ≡ true → is_listed k (xs ++ ys) ≡ true
listed_first k xs ys e = is_listed-append k xs ys ∙ ap (λ b. b || is_listed k ys) e

listed_later : (k : List ℕ) (xs ys : List Column) → is_listed k ys ≡ true → is_listed k (xs ++ ys) ≡ true
listed_later k xs ys e = is_listed-append k xs ys ∙ ap (λ b. is_listed k xs || b) e ∙ or_true (is_listed k xs)

-- ---- one key

-- a listed key is none that isn't listed
pub listed_apart : (k l : List ℕ) (cs : List Column) → is_listed k cs ≡ true → is_listed l cs ≡ false
    → bytes_eq k l ≡ false
listed_apart k l cs here away = bytes_differ k l (λ same. true≢false (sym here ∙ ap (λ x. is_listed x cs) same ∙ away))

find_put : (k : List ℕ) (o : Option Json) (more : Members) → find_member k more ≡ None
    → find_member k (put k o more) ≡ o
find_put k None more e = e
find_put k (Some d) more e = rw (bytes_same k) refl

find_past : (k l : List ℕ) (o : Option Json) (more : Members) → bytes_eq l k ≡ false
    → find_member k (put l o more) ≡ find_member k more
find_past k l None more e = refl
find_past k l (Some d) more e = rw e refl

cells_read : (k : List ℕ) (o : Option Json) (cs : List Cell) (ms : Members) → AreRead k o cs → find_member k ms ≡ o
    → run_of (λ c. part_in ms c) (columns_of cs) ≡ Some (parts_of cs)
cells_read k o [] ms r e = refl
cells_read k o (c ∷ cs) ms r e =
    let here : part_in ms c.column ≡ Some c.part =
    part_in-part_found ms c.column ∙ ap (λ x. part_found c.column (find_member x ms)) r.0 ∙ ap (part_found c.column) e ∙ r.1 in
    rw (here, cells_read k o cs ms r.2 e) refl

-- ---- all keys

pub not_found : (k : List ℕ) (es : List Entry) → AreEntries es → is_listed k (all_columns es) ≡ false
    → find_member k (all_members es) ≡ None
not_found k [] a h = refl
not_found k (e ∷ es) a h =
    let one = is_listed k (columns_of e.cells) in
    let n = neither one (is_listed k (all_columns es)) (sym (is_listed-append k (columns_of e.cells) (all_columns es)) ∙ h) in
    find_past k e.key e.value (all_members es) (listed_apart e.key k (columns_of e.cells) a.0.listed n.0)
    ∙ not_found k es a.2 n.1

-- the fields are read from an object that has these members under their keys
pub entries_read : (es : List Entry) (ms : Members) → AreEntries es
    → ((k : List ℕ) → is_listed k (all_columns es) ≡ true → find_member k ms ≡ find_member k (all_members es))
    → run_of (λ c. part_in ms c) (all_columns es) ≡ Some (all_parts es)
entries_read [] ms a h = refl
entries_read (e ∷ es) ms a h =
    let found : find_member e.key ms ≡ e.value =
    h e.key (listed_first e.key (columns_of e.cells) (all_columns es) a.0.listed)
    ∙ find_put e.key e.value (all_members es) (not_found e.key es a.2 a.1) in
    let later : (k : List ℕ) → is_listed k (all_columns es) ≡ true → find_member k ms ≡ find_member k (all_members es) =
    λ k l. h k (listed_later k (columns_of e.cells) (all_columns es) l)
    ∙ find_past k e.key e.value (all_members es) (bytes_turned k e.key (listed_apart k e.key (all_columns es) l a.1)) in
    run_of-append (λ c. part_in ms c) (columns_of e.cells) (all_columns es) (parts_of e.cells) (all_parts es)
    (cells_read e.key e.value e.cells ms a.0.read found) (entries_read es ms a.2 later)

put_distinct : (k : List ℕ) (o : Option Json) (more : Members) → find_member k more ≡ None → are_distinct more ≡ true
    → are_distinct (put k o more) ≡ true
put_distinct k None more n d = d
put_distinct k (Some v) more n d = rw n d

pub entries_distinct : (es : List Entry) → AreEntries es → are_distinct (all_members es) ≡ true
entries_distinct [] a = refl
entries_distinct (e ∷ es) a = put_distinct e.key e.value (all_members es) (not_found e.key es a.2 a.1) (entries_distinct es a.2)

put_known : (cs : List Column) (k : List ℕ) (o : Option Json) (more : Members) → is_listed k cs ≡ true
    → only_known cs more ≡ true → only_known cs (put k o more) ≡ true
put_known cs k None more l n = n
put_known cs k (Some v) more l n = rw (l, or_true) n

pub entries_known : (cs : List Column) (es : List Entry) → AreEntries es
    → ((k : List ℕ) → is_listed k (all_columns es) ≡ true → is_listed k cs ≡ true)
    → only_known cs (all_members es) ≡ true
entries_known cs [] a h = refl
entries_known cs (e ∷ es) a h =
    put_known cs e.key e.value (all_members es) (h e.key (listed_first e.key (columns_of e.cells) (all_columns es) a.0.listed))
    (entries_known cs es a.2 (λ k l. h k (listed_later k (columns_of e.cells) (all_columns es) l)))

put_text : (k : List ℕ) (o : Option Json) (more : Members) → AreCodeUnits k → HasOptionText o → MembersHaveText more
    → MembersHaveText (put k o more)
put_text k None more t u m = m
put_text k (Some v) more t u m = (t, u, m)

pub entries_text : (es : List Entry) → AreEntries es → MembersHaveText (all_members es)
entries_text [] a = tt
entries_text (e ∷ es) a = put_text e.key e.value (all_members es) a.0.key_text a.0.value_text (entries_text es a.2)
