-- What is read of a field that holds no node is one atom, or nothing: it measures 0 in any measure of nodes and lists.
use Rattle.std.proofs.Common.{◌≡◌, ℕ, ◌^◌, List, [], Bool, true, false, ◌&&◌, Option, Some, None, option_map, option_and_then, if◌then◌else◌, sym, ap, ◌∙◌}
use Rattle.json_text.specs.Json.{Json, null, truth, whole as number, other_number, string, list, object, no_members, member}
use Rattle.syntax_lex.specs.Identifier.{is_identifier_name}
use Rattle.tree_nodes.specs.Tree.{Atom, Parts, done, empty, flag, many, text, units, whole, word}
use Rattle.tree_nodes.specs.declared.table.Class.{Class as FieldClass}
use Rattle.tree_nodes.specs.declared.table.Class.TheVariants.{Cooked, Flag, Flags, Holes, LiteralValue, Many, ManyOr, Maybe, Name, One, Pattern, Raw, Text as TextClass, TextOr, Word}
use Rattle.tree_core.specs.Reading.{absent, below, find_member, is_null_value, list_of, one, part_from, regex_part, shape_of, template_part, text_in, units_in, value_part}
use Rattle.tree_nodes.proofs.Cases.{if_some, map_some, none_some, some_same, then_some}

-- a class of fields that hold no node
abbrev pub is_datum : FieldClass → Bool
is_datum (One g) = false
is_datum (Maybe g) = false
is_datum (Many g) = false
is_datum (ManyOr g) = false
is_datum (Holes g) = false
is_datum _ = true

module _ (m : Parts → ℕ) (of_one : (a : Atom) → m (one a) ≡ 0) (of_none : m (many done done) ≡ 0) where
  pub same_none : (p q : Parts) → Some p ≡ Some q → m p ≡ 0 → m q ≡ 0
  same_none p q e z = ap m (sym (some_same p q e)) ∙ z

  atom_none : {A : Type 0} (f : A → Atom) (o : Option A) (p : Parts) → option_map (λ x. one (f x)) o ≡ Some p → m p ≡ 0
  atom_none f o p e = let a = map_some (λ x. one (f x)) o p e in ap m (sym a.2) ∙ of_one (f a.0)

  -- null in place of a field that holds no node
  null_none : (b : Bool) (o : Option Parts) (p : Parts) → (if b then Some (one empty) else o) ≡ Some p → (o ≡ Some p → m p ≡ 0) → m p ≡ 0
  null_none true o p e some = same_none (one empty) p e (of_one empty)
  null_none false o p e some = some e

  flag_none : (d : Json) (p : Parts) → part_from Flag [] d None (λ holes. None) ≡ Some p → m p ≡ 0
  flag_none null p e = none_some p e
  flag_none (truth b) p e = same_none (one (flag b)) p e (of_one (flag b))
  flag_none (number n) p e = none_some p e
  flag_none other_number p e = none_some p e
  flag_none (string us) p e = none_some p e
  flag_none (list ds) p e = none_some p e
  flag_none (object ms) p e = none_some p e

  name_none : (o : Option (List ℕ)) (p : Parts) → option_and_then (λ x. if is_identifier_name x then Some (one (text x)) else None) o ≡ Some p → m p ≡ 0
  name_none o p e =
      let a = then_some (λ x. if is_identifier_name x then Some (one (text x)) else None) o p e in
      let b = if_some (is_identifier_name a.0) (Some (one (text a.0))) p a.2 in
      same_none (one (text a.0)) p b.1 (of_one (text a.0))

  value_none : (d : Json) (p : Parts) → value_part d ≡ Some p → m p ≡ 0
  value_none null p e = same_none (one empty) p e (of_one empty)
  value_none (truth b) p e = same_none (one (flag b)) p e (of_one (flag b))
  value_none (number n) p e = atom_none whole (below (2 ^ 64) (number n)) p e
  value_none other_number p e = none_some p e
  value_none (string us) p e = atom_none units (units_in (string us)) p e
  value_none (list ds) p e = atom_none units (units_in (list ds)) p e
  value_none (object no_members) p e = same_none (one empty) p e (of_one empty)
  value_none (object (member k d ms)) p e = none_some p e

  regex_none : (k : List ℕ) (d : Json) (p : Parts) → regex_part k d ≡ Some p → m p ≡ 0
  regex_none k null p e = same_none (one empty) p e (of_one empty)
  regex_none k (truth b) p e = none_some p e
  regex_none k (number n) p e = none_some p e
  regex_none k other_number p e = none_some p e
  regex_none k (string us) p e = none_some p e
  regex_none k (list ds) p e = none_some p e
  regex_none k (object ms) p e = atom_none text (option_and_then text_in (find_member k ms)) p (if_some _ _ p e).1

  half_none : (optional : Bool) (o : Option Json) (p : Parts)
      → (elim o [ None ↦ (if optional then Some (one empty) else None) | Some d ↦ (if optional && is_null_value d then Some (one empty) else option_map (λ us. one (units us)) (units_in d)) ]) ≡ Some p
      → m p ≡ 0
  half_none optional None p e = same_none (one empty) p (if_some optional (Some (one empty)) p e).1 (of_one empty)
  half_none optional (Some d) p e = null_none (optional && is_null_value d) _ p e (λ f. atom_none units (units_in d) p f)

  template_none : (optional : Bool) (k : List ℕ) (d : Json) (p : Parts) → template_part optional k d ≡ Some p → m p ≡ 0
  template_none optional k null p e = none_some p e
  template_none optional k (truth b) p e = none_some p e
  template_none optional k (number n) p e = none_some p e
  template_none optional k other_number p e = none_some p e
  template_none optional k (string us) p e = none_some p e
  template_none optional k (list ds) p e = none_some p e
  template_none optional k (object ms) p e = half_none optional (find_member k ms) p (if_some _ _ p e).1

  pub absent_none : (class : FieldClass) (p : Parts) → absent class ≡ Some p → m p ≡ 0
  absent_none Flag p e = same_none (one (flag false)) p e (of_one (flag false))
  absent_none (Word w) p e = none_some p e
  absent_none TextClass p e = none_some p e
  absent_none TextOr p e = same_none (one empty) p e (of_one empty)
  absent_none Name p e = none_some p e
  absent_none LiteralValue p e = same_none (one empty) p e (of_one empty)
  absent_none Pattern p e = same_none (one empty) p e (of_one empty)
  absent_none Flags p e = same_none (one empty) p e (of_one empty)
  absent_none Raw p e = none_some p e
  absent_none Cooked p e = none_some p e
  absent_none (One g) p e = none_some p e
  absent_none (Maybe g) p e = same_none (one empty) p e (of_one empty)
  absent_none (Many g) p e = none_some p e
  absent_none (ManyOr g) p e = same_none (many done done) p e of_none
  absent_none (Holes g) p e = none_some p e

  pub datum_none : (class : FieldClass) (k : List ℕ) (d : Json) (p : Parts) → is_datum class ≡ true → part_from class k d (shape_of d) (list_of d) ≡ Some p → m p ≡ 0
  datum_none Flag k d p h e = flag_none d p e
  datum_none (Word w) k d p h e = atom_none word _ p e
  datum_none TextClass k d p h e = atom_none text (text_in d) p e
  datum_none TextOr k d p h e = null_none (is_null_value d) _ p e (λ f. atom_none text (text_in d) p f)
  datum_none Name k d p h e = name_none (text_in d) p e
  datum_none LiteralValue k d p h e = value_none d p e
  datum_none Pattern k d p h e = regex_none k d p e
  datum_none Flags k d p h e = regex_none k d p e
  datum_none Raw k d p h e = template_none false k d p e
  datum_none Cooked k d p h e = template_none true k d p e
  datum_none (One g) k d p h e = absurd (cc)
  datum_none (Maybe g) k d p h e = absurd (cc)
  datum_none (Many g) k d p h e = absurd (cc)
  datum_none (ManyOr g) k d p h e = absurd (cc)
  datum_none (Holes g) k d p h e = absurd (cc)
