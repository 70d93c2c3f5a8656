-- A run that looks like one whose nodes stand where they may has its nodes where they may stand, if each shorthand mark in it stood there before and the names of key and value agree.
use Rattle.std.proofs.Common.{◌≡◌, ℕ, suc, ◌+◌, Bool, true, false, not, ◌&&◌, ◌||◌, List, [], ◌∷◌, ◌++◌, length, refl, sym, ap, ap₂, ◌∙◌}
use Rattle.std.proofs.lemmas.List.{length-append}
use Rattle.tree_nodes.proofs.Cases.{both as both_true}
use Rattle.tree_nodes.specs.Along.{Along, all, each, first_column, other_columns}
use Rattle.tree_nodes.specs.Literals.{has_case}
use Rattle.tree_nodes.specs.Roles.{role_at}
use Rattle.tree_nodes.specs.Standing.{group_admits, is_identifier, is_placed, is_short, is_sound, root_column, stands}
use Rattle.tree_nodes.specs.Table.{row}
use Rattle.tree_nodes.specs.Tree.{Parts, Tree, alone, atom, child, done, flag, flag_of, many, part, text}
use Rattle.tree_nodes.specs.declared.kind.Kind.{Kind}
use Rattle.tree_nodes.specs.declared.kind.Kind.TheVariants.{Identifier, Literal, PrivateIdentifier, Property}
use Rattle.tree_nodes.specs.declared.table.Role.{Role}
use Rattle.tree_nodes.specs.declared.table.Role.TheVariants.{Plain}
use Rattle.tree_places.proofs.Blind.{flag_at, part-blind, role-blind}
use Rattle.tree_places.specs.Open.{all_open}
use Rattle.tree_places.specs.Places.{hide, unmarked, unnamed}
use Rattle.tree_places.specs.Renaming.{agreements, blind, both, is_property, marks}
use Rattle.tree_rename.specs.Formed.{AreFormed}
use Rattle.tree_rename.proofs.FitsAlike.{child_same, renamed_child}
use Rattle.tree_rename.proofs.RenamedMarks.{agrees, both_append, mark_of}
use Rattle.tree_rename.proofs.OwnFirst.{length_own, one_more, with_own}
use Rattle.tree_rename.proofs.IdentifierNames.{Named}
use Rattle.tree_rename.proofs.AdmitsBlind.{group_admits_blind, has_case_blind}

-- ---- how many Properties there are

properties : Parts → ℕ
properties done = 0
properties (atom a more) = properties more
properties (many items more) = properties items + properties more
properties (child k s e fields more) = one_more (is_property k) (properties fields) + properties more

properties_unnamed : (x : Parts) → properties (unnamed x) ≡ properties x
unfolding properties all_open
properties_unnamed (atom (text t) more) = refl
properties_unnamed _ = refl

properties_unmarked : (x : Parts) → properties (unmarked x) ≡ properties x
unfolding properties all_open
properties_unmarked (atom kind (child k s e key (child k' s' e' value (atom method (atom (flag mark) more))))) = refl
properties_unmarked _ = refl

properties_hide : (k : Kind) (x : Parts) → properties (hide k x) ≡ properties x
unfolding hide
properties_hide Identifier x = properties_unnamed x
properties_hide PrivateIdentifier x = properties_unnamed x
properties_hide Property x = properties_unmarked x
properties_hide _ x = refl

properties_blind : (x : Parts) → properties (blind x) ≡ properties x
unfolding properties blind
properties_blind done = refl
properties_blind (atom a more) = properties_blind more
properties_blind (many items more) = ap₂ (λ a b. a + b) (properties_blind items) (properties_blind more)
properties_blind (child k s e fields more) =
    ap₂ (λ a b. one_more (is_property k) a + b) (properties_hide k (blind fields) ∙ properties_blind fields) (properties_blind more)

length_marks : (x : Parts) → length (marks x) ≡ properties x
unfolding properties marks
length_marks done = refl
length_marks (atom a more) = length_marks more
length_marks (many items more) = length-append (marks items) (marks more) ∙ ap₂ (λ a b. a + b) (length_marks items) (length_marks more)
length_marks (child k s e fields more) =
    length-append (with_own mark_of marks (is_property k) fields) (marks more)
    ∙ ap₂ (λ a b. a + b) (length_own mark_of marks (is_property k) fields (properties fields) (length_marks fields)) (length_marks more)

length_agreements : (x : Parts) → length (agreements x) ≡ properties x
unfolding properties agreements
length_agreements done = refl
length_agreements (atom a more) = length_agreements more
length_agreements (many items more) =
    length-append (agreements items) (agreements more) ∙ ap₂ (λ a b. a + b) (length_agreements items) (length_agreements more)
length_agreements (child k s e fields more) =
    length-append (with_own agrees agreements (is_property k) fields) (agreements more)
    ∙ ap₂ (λ a b. a + b) (length_own agrees agreements (is_property k) fields (properties fields) (length_agreements fields)) (length_agreements more)

-- ---- marks of two runs

append_split : (a b c d : List Bool) → length a ≡ length c → a ++ b ≡ c ++ d → (a ≡ c) × (b ≡ d)
append_split [] b [] d e f = (refl, f)
append_split [] b (y ∷ c) d e f = absurd (cc)
append_split (x ∷ a) b [] d e f = absurd (cc)
append_split (x ∷ a) b (y ∷ c) d e f =
    let rest = append_split a b c d (cc) (cc) in
    ((let head : x ≡ y = cc in ap₂ (λ z zs. z ∷ zs) head rest.0), rest.1)

length_both : (a b : List Bool) → length a ≡ length b → length (both a b) ≡ length a
unfolding both
length_both [] [] e = refl
length_both [] (y ∷ b) e = refl
length_both (x ∷ a) [] e = absurd (cc)
length_both (x ∷ a) (y ∷ b) e = ap suc (length_both a b (cc))

marks_split : (a b c d e f : List Bool) → length a ≡ length c → length c ≡ length e → a ++ b ≡ both (c ++ d) (e ++ f)
    → (a ≡ both c e) × (b ≡ both d f)
marks_split a b c d e f p q same =
    append_split a b (both c e) (both d f) (p ∙ sym (length_both c e q)) (same ∙ both_append c d e f q)

length_alike : (u t : Parts) → blind u ≡ blind t → length (marks u) ≡ length (marks t)
length_alike u t e = length_marks u ∙ sym (properties_blind u) ∙ ap properties e ∙ properties_blind t ∙ sym (length_marks t)

length_own_alike : (k : Kind) (u t : Parts) → hide k (blind u) ≡ hide k (blind t)
    → (length (with_own mark_of marks (is_property k) u) ≡ length (with_own mark_of marks (is_property k) t)) × (length (with_own mark_of marks (is_property k) t) ≡ length (with_own agrees agreements (is_property k) u))
length_own_alike k u t e =
    let n = properties u in
    let counted : properties t ≡ n =
    sym (properties_blind t) ∙ sym (properties_hide k (blind t)) ∙ sym (ap properties e) ∙ properties_hide k (blind u) ∙ properties_blind u in
    let mine = length_own mark_of marks (is_property k) u n (length_marks u) in
    let yours = length_own mark_of marks (is_property k) t n (length_marks t ∙ counted) in
    (mine ∙ sym yours, yours ∙ sym (length_own agrees agreements (is_property k) u n (length_agreements u)))

-- ---- whether a node is sound

sound_mark : (f f' c i a a' : Bool) → f ≡ (f' && a) → (not f' || not c && i && a') ≡ true → (not f || not c && i && a) ≡ true
sound_mark f false c i a a' e h = ap (λ x. not x || not c && i && a) e
sound_mark f true c i false a' e h = ap (λ x. not x || not c && i && false) e
sound_mark f true true i true a' e h = absurd (cc)
sound_mark f true false false true a' e h = absurd (cc)
sound_mark f true false true true a' e h = ap (λ x. not x || true) e

part_unmarked : (x : Parts) → (part (unmarked x) 1 ≡ part x 1) × (part (unmarked x) 5 ≡ part x 5)
unfolding unmarked
part_unmarked (atom kind (child k s e key (child k' s' e' value (atom method (atom (flag mark) more))))) = (refl, refl)
part_unmarked _ = (refl, refl)

identifier_blind : (x : Parts) → is_identifier (blind x) ≡ is_identifier x
unfolding all_open
identifier_blind (child Identifier s e fields more) = refl
identifier_blind _ = refl

computed_alike : (g f : Parts) → unmarked (blind g) ≡ unmarked (blind f) → flag_of (part g 5) ≡ flag_of (part f 5)
computed_alike g f e =
    sym (flag_at g 5) ∙ ap flag_of (sym (part_unmarked (blind g)).1 ∙ ap (λ x. part x 5) e ∙ (part_unmarked (blind f)).1) ∙ flag_at f 5

key_alike : (g f : Parts) → unmarked (blind g) ≡ unmarked (blind f) → is_identifier (part g 1) ≡ is_identifier (part f 1)
key_alike g f e =
    sym (identifier_blind (part g 1)) ∙ ap is_identifier (sym (part-blind g 1) ∙ sym (part_unmarked (blind g)).0 ∙ ap (λ x. part x 1) e ∙ (part_unmarked (blind f)).0 ∙ part-blind f 1)
    ∙ identifier_blind (part f 1)

property_sound : (g f : Parts) → unmarked (blind g) ≡ unmarked (blind f) → flag_of (part g 4) ≡ (flag_of (part f 4) && agrees g)
    → is_sound Property f ≡ true → is_sound Property g ≡ true
unfolding is_sound is_short
property_sound g f e m h =
    ap₂ (λ c i. not (flag_of (part g 4)) || not c && i && agrees g) (computed_alike g f e) (key_alike g f e)
    ∙ sound_mark (flag_of (part g 4)) (flag_of (part f 4)) (flag_of (part f 5)) (is_identifier (part f 1)) (agrees g) (agrees f) m h

-- a node is as sound as it was, and so are the marks below it
own_sound : (k : Kind) (g f : Parts) → hide k (blind g) ≡ hide k (blind f)
    → with_own mark_of marks (is_property k) g ≡ both (with_own mark_of marks (is_property k) f) (with_own agrees agreements (is_property k) g) → is_sound k f ≡ true
    → (is_sound k g ≡ true) × (marks g ≡ both (marks f) (agreements g))
unfolding both hide is_property is_sound
own_sound Property g f e m h = (property_sound g f e (cc) h, cc)
own_sound Literal g f e m h = (sym (has_case_blind g) ∙ ap has_case e ∙ has_case_blind f ∙ h, m)
own_sound _ g f e m h = (refl, m)

-- ---- a run

all_true : (a b c d : Bool) → a ≡ true → b ≡ true → c ≡ true → d ≡ true → (a && b && c && d) ≡ true
all_true a b c d p q r s = rw (p, q, r, s) refl

pub stand_alike : (u t : Parts) (cs : Along) (own : Role) (within before : Parts) → blind u ≡ blind t → blind within ≡ blind before
    → AreFormed t → Named u → marks u ≡ both (marks t) (agreements u) → stands t cs own before ≡ true → stands u cs own within ≡ true
unfolding agreements blind marks stands
stand_alike done t cs own within before same around w n m h = refl
stand_alike (atom b more) (atom a rest) cs own within before same around w n m h =
    stand_alike more rest (other_columns cs) own within before (cc) around w n m h
stand_alike (atom b more) _ cs own within before same around w n m h = absurd (cc)
stand_alike (many items more) (many others rest) cs own within before same around w n m h =
    let below : blind items ≡ blind others = cc in
    let later : blind more ≡ blind rest = cc in
    let split = marks_split (marks items) (marks more) (marks others) (marks rest) (agreements items) (agreements more)
    (length_alike items others below) (sym (length_alike items others below) ∙ length_marks items ∙ sym (length_agreements items)) m in
    let parts = both_true (stands others (all (first_column cs)) own before) (stands rest (other_columns cs) own before) h in
    ap₂ (λ a b. a && b)
    (stand_alike items others (all (first_column cs)) own within before below around w.0 n.0 split.0 parts.0)
    (stand_alike more rest (other_columns cs) own within before later around w.1 n.1 split.1 parts.1)
stand_alike (many items more) _ cs own within before same around w n m h = absurd (cc)
stand_alike (child k s e fields more) (child k' s' e' others rest) cs own within before same around w n m h =
    let p = child_same k k' s s' e e' _ _ _ _ same in
    let o = renamed_child k k' fields others p.0 p.3 w.0 n.0 in
    let column = first_column cs in
    let r = role_at column.mode own within in
    let r' = role_at column.mode own before in
    let role : r ≡ r' = sym (role-blind column.mode own within) ∙ ap (role_at column.mode own) around ∙ role-blind column.mode own before in
    let admits = group_admits column.class r' before k' others in
    let stood_below = stands others (each (row k').columns) r' others in
    let a = both_true (admits && is_sound k' others && stood_below) (stands rest (other_columns cs) own before) h in
    let b = both_true (admits && is_sound k' others) stood_below a.0 in
    let c = both_true admits (is_sound k' others) b.0 in
    let looks : hide k (blind fields) ≡ hide k (blind others) = p.3 ∙ ap (λ x. hide x (blind others)) (sym p.0) in
    let admitted : group_admits column.class r within k fields ≡ true =
    sym (group_admits_blind column.class r within k fields) ∙ ap₂ (λ x y. group_admits column.class r x k y) around looks
    ∙ group_admits_blind column.class r before k others ∙ ap₂ (λ x y. group_admits column.class x before y others) role p.0 ∙ c.0 in
    let kinds = ap is_property (sym p.0) in
    let lengths = length_own_alike k fields others looks in
    let split = marks_split (with_own mark_of marks (is_property k) fields) (marks more) (with_own mark_of marks (is_property k) others) (marks rest) (with_own agrees agreements (is_property k) fields) (agreements more)
    lengths.0 lengths.1 (m ∙ ap (λ x. both (with_own mark_of marks x others ++ marks rest) (with_own agrees agreements (is_property k) fields ++ agreements more)) kinds) in
    let sound = own_sound k fields others looks split.0 (ap (λ x. is_sound x others) p.0 ∙ c.1) in
    let stood : stands others (each (row k).columns) r others ≡ true = ap₂ (λ x y. stands others (each (row x).columns) y others) p.0 role ∙ b.1 in
    let below = stand_alike fields o.fields (each (row k).columns) r fields o.fields o.alike o.alike (o.formed w.1) n.1
    (sound.1 ∙ ap (λ x. both x (agreements fields)) (sym o.mark)) (o.stand r ∙ stood) in
    all_true _ _ _ _ admitted sound.0 below
    (stand_alike more rest (other_columns cs) own within before p.4 around w.2 n.2 split.1 a.1)
stand_alike (child k s e fields more) _ cs own within before same around w n m h = absurd (cc)

-- the fact, of a tree
pub tree_placed_alike : (u t : Tree) → blind (alone u) ≡ blind (alone t) → AreFormed (alone t) → Named (alone u)
    → marks (alone u) ≡ both (marks (alone t)) (agreements (alone u)) → is_placed t ≡ true → is_placed u ≡ true
unfolding is_placed
tree_placed_alike u t same w n m h = stand_alike (alone u) (alone t) (all root_column) Plain done done same refl w n m h
