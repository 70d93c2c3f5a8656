-- A run that fits the node table is formed: each place has a name alone, and each Property a key, a value and three flags.
use Rattle.std.proofs.Common.{◌≡◌, ℕ, Bool, true, List, [], ◌∷◌, Option, Some, None, if◌then◌else◌, refl, sym, ap, ◌∙◌, subst}
use Rattle.json_text.proofs.Units.{AreCodeUnits-units_of, IsUtf8-text_of_units, text_of_units-units_of}
use Rattle.json_text.specs.Json.{null, truth}
use Rattle.json_text.specs.Units.{text_of_units, units_of}
use Rattle.syntax_lex.specs.Identifier.{is_identifier_name}
use Rattle.tree_core.proofs.Fits.{FitFields, FitItems, Fits, FitsAtom, TakesList, TakesNode}
use Rattle.tree_core.specs.Reading.{one, text_in}
use Rattle.tree_core.specs.Values.{atom_value}
use Rattle.tree_nodes.proofs.Cases.{if_some, none_some, then_some}
use Rattle.tree_nodes.specs.Table.{Column, row}
use Rattle.tree_nodes.specs.Tree.{Atom, Parts, Text, Tree, alone, atom, child, done, empty, flag, many, text, text_of, units, whole, word}
use Rattle.tree_nodes.specs.declared.kind.Kind.{Kind}
use Rattle.tree_nodes.specs.declared.kind.Kind.TheVariants.{Identifier, PrivateIdentifier, Property}
use Rattle.tree_nodes.specs.declared.table.Class.TheVariants.{Flag, Name, One, Word}
use Rattle.tree_nodes.specs.declared.table.Group.{Group}
use Rattle.tree_nodes.specs.declared.table.Group.TheVariants.{Keys, PropertyValues}
use Rattle.tree_nodes.specs.declared.table.Words.{Words}
use Rattle.tree_nodes.specs.declared.table.Words.TheVariants.{PropertyKinds}
use Rattle.tree_rename.proofs.IdentifierNames.{Named, NamedHere}
use Rattle.tree_rename.specs.Formed.{AreFormed, HasPair, HasText, IsFormed}
use Rattle.tree_rename.specs.Laws.{IsName}

-- ---- one field

abbrev if_name : Text → Option Parts
if_name x = if is_identifier_name x then Some (one (text x)) else None

-- a field of the class Name is an identifier name
pub name_atom : (a : Atom) → FitsAtom Name a → (x : Text) × (a ≡ text x) × IsName x
name_atom a f =
    let found = then_some if_name (text_in (atom_value Name a)) (one a) (f.0 None (λ h. None)) in
    let test = if_some (is_identifier_name found.0) (Some (one (text found.0))) (one a) found.2 in
    let same : a ≡ text found.0 = let e = test.1 in cc in
    let read : text_of_units (units_of found.0) ≡ Some found.0 = sym (ap (λ b. text_in (atom_value Name b)) same) ∙ found.1 in
    (found.0, same, (IsUtf8-text_of_units (units_of found.0) found.0 read, test.0))

pub name_fits : (x : Text) → IsName x → FitsAtom Name (text x)
name_fits x h = ((λ o ts. rw (text_of_units-units_of x h.0, h.1) refl), AreCodeUnits-units_of x h.0)

flag_atom : (a : Atom) → FitsAtom Flag a → (b : Bool) × (a ≡ flag b)
flag_atom empty f = none_some _ (f.0 None (λ h. None))
flag_atom (flag b) f = (b, refl)
flag_atom (word n) f = none_some _ (f.0 None (λ h. None))
flag_atom (text x) f = none_some _ (f.0 None (λ h. None))
flag_atom (units us) f = none_some _ (f.0 None (λ h. None))
flag_atom (whole n) f = none_some _ (f.0 None (λ h. None))

abbrev no_list : (holes : Bool) → Option Parts
no_list holes = Some done

-- a class takes no node, or no list, or no field else
flag_no_node : {A : Type 0} (t : Tree) → TakesNode Flag → A
flag_no_node t f = absurd (let e = f.1 [] (truth true) t no_list refl in cc)

flag_no_list : {A : Type 0} (holes : Bool) → TakesList Flag holes → A
flag_no_list holes f = none_some _ (f.1 [] null None no_list)

word_no_node : {A : Type 0} (w : Words) (t : Tree) → TakesNode (Word w) → A
word_no_node w t f = none_some _ (f.1 [] (truth true) t no_list refl)

word_no_list : {A : Type 0} (w : Words) (holes : Bool) → TakesList (Word w) holes → A
word_no_list w holes f = none_some _ (f.1 [] null None no_list)

one_no_atom : {A : Type 0} (g : Group) (a : Atom) → FitsAtom (One g) a → A
one_no_atom g a f = none_some _ (f.0 None no_list)

one_no_list : {A : Type 0} (g : Group) (holes : Bool) → TakesList (One g) holes → A
one_no_list g holes f = none_some _ (f.1 [] null None no_list)

name_no_node : {A : Type 0} (t : Tree) → TakesNode Name → A
name_no_node t f = none_some _ (f.1 [] (truth true) t no_list refl)

name_no_list : {A : Type 0} (holes : Bool) → TakesList Name holes → A
name_no_list holes f = none_some _ (f.1 [] null None no_list)

-- ---- the first of the columns

abbrev here : Kind → ℕ → ℕ → Parts → Tree
here k s e fields = record { kind = k; start = s; stop = e; fields = fields }

record Leaf (cs : List Column) (p : Parts) : Type 0 where
  pub a : Atom
  pub more : Parts
  pub is : p ≡ atom a more
  pub rest : FitFields more cs

record Inner (cs : List Column) (p : Parts) : Type 0 where
  pub k : Kind
  pub s : ℕ
  pub e : ℕ
  pub fields : Parts
  pub more : Parts
  pub is : p ≡ child k s e fields more
  pub rest : FitFields more cs

first_word : (w : Words) (c : Column) (cs : List Column) (p : Parts) → c.class ≡ Word w → FitFields p (c ∷ cs) → Leaf cs p
first_word w c cs done e f = absurd f
first_word w c cs (atom a more) e f = record { a = a; more = more; is = refl; rest = f.2 }
first_word w c cs (child k s t fields more) e f = word_no_node w (here k s t fields) (subst TakesNode e f.0)
first_word w c cs (many items more) e f = word_no_list w f.0 (subst (λ x. TakesList x f.0) e f.1)

record Switch (cs : List Column) (p : Parts) : Type 0 where
  pub b : Bool
  pub more : Parts
  pub is : p ≡ atom (flag b) more
  pub rest : FitFields more cs

first_flag : (c : Column) (cs : List Column) (p : Parts) → c.class ≡ Flag → FitFields p (c ∷ cs) → Switch cs p
first_flag c cs done e f = absurd f
first_flag c cs (atom a more) e f =
    let found = flag_atom a (subst (λ x. FitsAtom x a) e f.0) in
    record { b = found.0; more = more; is = ap (λ x. atom x more) found.1; rest = f.2 }
first_flag c cs (child k s t fields more) e f = flag_no_node (here k s t fields) (subst TakesNode e f.0)
first_flag c cs (many items more) e f = flag_no_list f.0 (subst (λ x. TakesList x f.0) e f.1)

first_node : (g : Group) (c : Column) (cs : List Column) (p : Parts) → c.class ≡ One g → FitFields p (c ∷ cs) → Inner cs p
first_node g c cs done e f = absurd f
first_node g c cs (atom a more) e f = one_no_atom g a (subst (λ x. FitsAtom x a) e f.0)
first_node g c cs (child k s t fields more) e f = record { k = k; s = s; e = t; fields = fields; more = more; is = refl; rest = f.3 }
first_node g c cs (many items more) e f = one_no_list g f.0 (subst (λ x. TakesList x f.0) e f.1)

nothing_more : (p : Parts) → FitFields p [] → p ≡ done
nothing_more done f = refl
nothing_more (atom a more) f = absurd f
nothing_more (child k s e fields more) f = absurd f
nothing_more (many items more) f = absurd f

-- ---- a node

name_formed : (p : Parts) → FitFields p (row Identifier).columns → (x : Text) × (p ≡ atom (text x) done) × IsName x
name_formed done f = absurd f
name_formed (atom a more) f =
    let name = name_atom a f.0 in
    (name.0, ap (λ b. atom b more) name.1 ∙ ap (atom (text name.0)) (nothing_more more f.2), name.2)
name_formed (child k s e fields more) f = name_no_node (here k s e fields) f.0
name_formed (many items more) f = name_no_list f.0 f.1

pair_formed : (p : Parts) → FitFields p (row Property).columns → HasPair p
pair_formed p f =
    let a = first_word PropertyKinds _ _ p refl f in
    let k = first_node (Keys 5) _ _ a.more refl a.rest in
    let v = first_node PropertyValues _ _ k.more refl k.rest in
    let m = first_flag _ _ v.more refl v.rest in
    let s = first_flag _ _ m.more refl m.rest in
    let c = first_flag _ _ s.more refl s.rest in
    let flags = m.is ∙ ap (atom (flag m.b)) (s.is ∙ ap (atom (flag s.b)) (c.is ∙ ap (atom (flag c.b)) (nothing_more c.more c.rest))) in
    let whole = a.is ∙ ap (atom a.a) (k.is ∙ ap (child k.k k.s k.e k.fields) (v.is ∙ ap (child v.k v.s v.e v.fields) flags)) in
    subst HasPair (sym whole) tt

text_formed : (p : Parts) → FitFields p (row Identifier).columns → HasText p × IsName (text_of p)
text_formed p f =
    let name = name_formed p f in
    (subst HasText (sym name.1) tt, subst (λ q. IsName (text_of q)) (sym name.1) name.2)

node_formed : (k : Kind) (fields : Parts) → FitFields fields (row k).columns → IsFormed k fields × NamedHere k fields
node_formed Identifier fields f = text_formed fields f
node_formed PrivateIdentifier fields f = text_formed fields f
node_formed Property fields f = (pair_formed fields f, tt)
node_formed _ fields f = (tt, tt)

mutual
  fields_formed : (p : Parts) (cs : List Column) → FitFields p cs → AreFormed p × Named p
  fields_formed done cs f = (tt, tt)
  fields_formed (atom a more) [] f = absurd f
  fields_formed (atom a more) (c ∷ cs) f = fields_formed more cs f.2
  fields_formed (child k s e fields more) [] f = absurd f
  fields_formed (child k s e fields more) (c ∷ cs) f =
      let own = node_formed k fields f.2 in
      let below = fields_formed fields (row k).columns f.2 in
      let rest = fields_formed more cs f.3 in
      ((own.0, below.0, rest.0), (own.1, below.1, rest.1))
  fields_formed (many items more) [] f = absurd f
  fields_formed (many items more) (c ∷ cs) f =
      let below = items_formed items f.0 f.2 in
      let rest = fields_formed more cs f.3 in
      ((below.0, rest.0), (below.1, rest.1))

  items_formed : (p : Parts) (holes : Bool) → FitItems p holes → AreFormed p × Named p
  items_formed done holes f = (tt, tt)
  items_formed (atom a more) holes f = items_formed more holes f.2
  items_formed (child k s e fields more) holes f =
      let own = node_formed k fields f.1 in
      let below = fields_formed fields (row k).columns f.1 in
      let rest = items_formed more holes f.2 in
      ((own.0, below.0, rest.0), (own.1, below.1, rest.1))
  items_formed (many items more) holes f = absurd f

-- the fact: a tree that fits is formed, and its names are identifier names
pub tree_formed : (t : Tree) → Fits t → AreFormed (alone t) × Named (alone t)
tree_formed t f =
    let own = node_formed t.kind t.fields f.1 in
    let below = fields_formed t.fields (row t.kind).columns f.1 in
    ((own.0, below.0, tt), (own.1, below.1, tt))
