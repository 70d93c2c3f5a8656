-- The fields of a node that is renamed, beside fields that look the same and fit where the old ones did.
use Rattle.std.proofs.Common.{◌≡◌, ℕ, Bool, true, false, [], refl, sym, ap, subst, ◌∙◌}
use Rattle.tree_core.proofs.Fits.{FitFields}
use Rattle.tree_nodes.specs.Along.{Along, each}
use Rattle.tree_nodes.specs.Standing.{stands}
use Rattle.tree_nodes.specs.Table.{row}
use Rattle.tree_nodes.specs.Tree.{Atom, Parts, Text, atom, child, done, flag, text, text_of}
use Rattle.tree_nodes.specs.declared.kind.Kind.{Kind}
use Rattle.tree_nodes.specs.declared.kind.Kind.TheVariants.{Identifier, PrivateIdentifier, Property}
use Rattle.tree_nodes.specs.declared.table.Role.{Role}
use Rattle.tree_places.specs.Open.{all_open}
use Rattle.tree_places.specs.Places.{hide, unmarked, unnamed}
use Rattle.tree_places.specs.Renaming.{blind, marks}
use Rattle.tree_rename.specs.Formed.{AreFormed, HasPair, HasText, IsFormed}
use Rattle.tree_rename.specs.Laws.{IsName}
use Rattle.tree_rename.proofs.FormedFits.{name_fits}
use Rattle.tree_rename.proofs.IdentifierNames.{NamedHere}
use Rattle.tree_rename.proofs.AdmitsBlind.{text_of_blind}

-- the fields g of a node of kind k, which are the fields f renamed
pub record RenamedFields (k : Kind) (g f : Parts) : Type 0 where
  pub fields : Parts
  pub alike : blind g ≡ blind fields
  pub fits : FitFields f (row k).columns → FitFields fields (row k).columns
  pub stand : (r : Role) → stands fields (each (row k).columns) r fields ≡ stands f (each (row k).columns) r f
  pub formed : AreFormed f → AreFormed fields
  pub mark : marks fields ≡ marks f

-- ---- a place

name_at : (g : Parts) → unnamed g ≡ atom (text []) done → (y : Text) × (g ≡ atom (text y) done)
unfolding all_open
name_at (atom (text y) more) e = (y, cc)
name_at _ e = absurd (cc)

name_found : (g f : Parts) → HasText f → unnamed (blind g) ≡ unnamed (blind f) → (y : Text) × (blind g ≡ atom (text y) done)
unfolding all_open
name_found g (atom (text x) done) h e = name_at (blind g) e
name_found g _ h e = absurd h

name_stands : (f : Parts) (cs : Along) (r : Role) (within : Parts) → HasText f → stands f cs r within ≡ true
unfolding all_open
name_stands (atom (text x) done) cs r within h = refl
name_stands _ cs r within h = absurd h

name_marks : (f : Parts) → HasText f → marks f ≡ []
unfolding all_open
name_marks (atom (text x) done) h = refl
name_marks _ h = absurd h

renamed_identifier : (g f : Parts) → HasText f → unnamed (blind g) ≡ unnamed (blind f) → IsName (text_of g) → RenamedFields Identifier g f
unfolding all_open
renamed_identifier g f h e n =
    let found = name_found g f h e in
    let name : IsName found.0 = subst IsName (sym (text_of_blind g) ∙ ap text_of found.1) n in
    record {
      fields = atom (text found.0) done;
      alike = found.1;
      fits = λ x. (name_fits found.0 name, tt, tt);
      stand = λ r. sym (name_stands f (each (row Identifier).columns) r f h);
      formed = λ x. tt;
      mark = sym (name_marks f h);
    }

renamed_private : (g f : Parts) → HasText f → unnamed (blind g) ≡ unnamed (blind f) → IsName (text_of g) → RenamedFields PrivateIdentifier g f
unfolding all_open
renamed_private g f h e n =
    let found = name_found g f h e in
    let name : IsName found.0 = subst IsName (sym (text_of_blind g) ∙ ap text_of found.1) n in
    record {
      fields = atom (text found.0) done;
      alike = found.1;
      fits = λ x. (name_fits found.0 name, tt, tt);
      stand = λ r. sym (name_stands f (each (row PrivateIdentifier).columns) r f h);
      formed = λ x. tt;
      mark = sym (name_marks f h);
    }

-- ---- a Property

abbrev with_mark : Bool → Parts → Parts
with_mark b (atom kind (child k s e key (child k' s' e' value (atom method (atom (flag mark) (atom computed done)))))) =
    atom kind (child k s e key (child k' s' e' value (atom method (atom (flag b) (atom computed done)))))
with_mark b fields = fields

pair_at : (g : Parts) (a : Atom) (k : Kind) (s e : ℕ) (key : Parts) (k' : Kind) (s' e' : ℕ) (value : Parts) (m c : Atom)
    → unmarked g ≡ atom a (child k s e key (child k' s' e' value (atom m (atom (flag false) (atom c done)))))
    → (b : Bool) × (g ≡ atom a (child k s e key (child k' s' e' value (atom m (atom (flag b) (atom c done))))))
unfolding all_open
pair_at (atom a' (child l t f key' (child l' t' f' value' (atom m' (atom (flag b) more))))) a k s e key k' s' e' value m c same = (b, cc)
pair_at _ a k s e key k' s' e' value m c same = absurd (cc)

pair_found : (g f : Parts) → HasPair f → unmarked (blind g) ≡ unmarked (blind f) → (b : Bool) × (blind g ≡ blind (with_mark b f))
unfolding all_open
pair_found g (atom kind (child k s e key (child k' s' e' value (atom method (atom (flag mark) (atom computed done)))))) h same =
    pair_at (blind g) kind k s e (hide k (blind key)) k' s' e' (hide k' (blind value)) method computed same
pair_found g _ h same = absurd h

pair_fits : (b : Bool) (f : Parts) → HasPair f → FitFields f (row Property).columns → FitFields (with_mark b f) (row Property).columns
pair_fits b (atom kind (child k s e key (child k' s' e' value (atom method (atom (flag mark) (atom computed done)))))) h x =
    let key_on = x.2 in
    let value_on = key_on.3 in
    let method_on = value_on.3 in
    let mark_on = method_on.2 in
    (x.0, x.1, (key_on.0, key_on.1, key_on.2, (value_on.0, value_on.1, value_on.2, (method_on.0, method_on.1, (((λ t ts. refl), tt), tt, mark_on.2)))))
pair_fits b _ h x = absurd h

pair_stands : (b : Bool) (f : Parts) (r : Role) → HasPair f
    → stands (with_mark b f) (each (row Property).columns) r (with_mark b f) ≡ stands f (each (row Property).columns) r f
unfolding all_open
pair_stands b (atom kind (child k s e key (child k' s' e' value (atom method (atom (flag mark) (atom computed done)))))) r h = refl
pair_stands b _ r h = absurd h

pair_formed_too : (b : Bool) (f : Parts) → HasPair f → AreFormed f → AreFormed (with_mark b f)
pair_formed_too b (atom kind (child k s e key (child k' s' e' value (atom method (atom (flag mark) (atom computed done)))))) h x = x
pair_formed_too b _ h x = absurd h

pair_marks : (b : Bool) (f : Parts) → HasPair f → marks (with_mark b f) ≡ marks f
unfolding all_open
pair_marks b (atom kind (child k s e key (child k' s' e' value (atom method (atom (flag mark) (atom computed done)))))) h = refl
pair_marks b _ h = absurd h

renamed_property : (g f : Parts) → HasPair f → unmarked (blind g) ≡ unmarked (blind f) → RenamedFields Property g f
renamed_property g f h e =
    let found = pair_found g f h e in
    record {
      fields = with_mark found.0 f;
      alike = found.1;
      fits = pair_fits found.0 f h;
      stand = λ r. pair_stands found.0 f r h;
      formed = pair_formed_too found.0 f h;
      mark = pair_marks found.0 f h;
    }

-- ---- any node

pub renamed_fields : (k : Kind) (g f : Parts) → IsFormed k f → hide k (blind g) ≡ hide k (blind f) → NamedHere k g → RenamedFields k g f
unfolding hide
renamed_fields Identifier g f h e n = renamed_identifier g f h e n
renamed_fields PrivateIdentifier g f h e n = renamed_private g f h e n
renamed_fields Property g f h e n = renamed_property g f h e
renamed_fields _ g f h e n = record { fields = f; alike = e; fits = λ x. x; stand = λ r. refl; formed = λ x. x; mark = refl }
