-- The case of a Literal, by tests on its fields.
use Rattle.std.proofs.Common.{◌≡◌, Bool, true, false, true≢false, ◌&&◌, refl, sym}
use Rattle.tree_nodes.specs.declared.literals.LiteralCase.TheVariants as case
use Rattle.tree_nodes.specs.Literals.{by_raw, case_from, holds_text, with_value, without_value}
use Rattle.tree_nodes.specs.Tree.{Atom, Parts, Text, done, atom, child, many, empty, flag, word, text, units, whole, is_empty}

empty_is : (p : Parts) → is_empty p ≡ true → (more : Parts) × (p ≡ atom empty more)
empty_is (atom empty more) e = (more, refl)
empty_is (atom (flag b) more) e = absurd (true≢false (sym e))
empty_is (atom (word n) more) e = absurd (true≢false (sym e))
empty_is (atom (text t) more) e = absurd (true≢false (sym e))
empty_is (atom (units t) more) e = absurd (true≢false (sym e))
empty_is (atom (whole n) more) e = absurd (true≢false (sym e))
empty_is done e = absurd (true≢false (sym e))
empty_is (child k s t fields more) e = absurd (true≢false (sym e))
empty_is (many items more) e = absurd (true≢false (sym e))

text_is : (p : Parts) → holds_text p ≡ true → (t : Text) × (more : Parts) × (p ≡ atom (text t) more)
text_is (atom empty more) e = absurd (true≢false (sym e))
text_is (atom (flag b) more) e = absurd (true≢false (sym e))
text_is (atom (word n) more) e = absurd (true≢false (sym e))
text_is (atom (text t) more) e = (t, more, refl)
text_is (atom (units t) more) e = absurd (true≢false (sym e))
text_is (atom (whole n) more) e = absurd (true≢false (sym e))
text_is done e = absurd (true≢false (sym e))
text_is (child k s t fields more) e = absurd (true≢false (sym e))
text_is (many items more) e = absurd (true≢false (sym e))

module _ (value raw pattern bigint : Parts) where
  pub case_by_raw : true ≡ is_empty value → true ≡ is_empty pattern → true ≡ is_empty bigint → by_raw raw ≡ case_from value raw pattern bigint
  unfolding case_from without_value
  case_by_raw v p b = rw ((empty_is value (sym v)).1, (empty_is pattern (sym p)).1, (empty_is bigint (sym b)).1) refl

  pub case_RegExp : true ≡ is_empty value → true ≡ is_empty bigint → true ≡ holds_text pattern → case.RegExp ≡ case_from value raw pattern bigint
  unfolding case_from without_value
  case_RegExp v b p = rw ((empty_is value (sym v)).1, (empty_is bigint (sym b)).1, (text_is pattern (sym p)).2) refl

  pub case_BigInt : true ≡ is_empty value → true ≡ is_empty pattern → true ≡ holds_text bigint → case.BigInt ≡ case_from value raw pattern bigint
  unfolding case_from without_value
  case_BigInt v p b = rw ((empty_is value (sym v)).1, (empty_is pattern (sym p)).1, (text_is bigint (sym b)).2) refl

case_of_value : (value raw x y : Parts) → is_empty value ≡ false → case_from value done (atom empty done) (atom empty done) ≡ case_from value raw (atom empty x) (atom empty y)
unfolding case_from without_value with_value
case_of_value (atom empty more) raw x y v = absurd (true≢false v)
case_of_value _ raw x y v = refl

pub case_by_value : (value raw pattern bigint : Parts) → false ≡ is_empty value → true ≡ is_empty pattern → true ≡ is_empty bigint → case_from value done (atom empty done) (atom empty done) ≡ case_from value raw pattern bigint
case_by_value value raw pattern bigint v p b =
    rw ((empty_is pattern (sym p)).1, (empty_is bigint (sym b)).1) (case_of_value value raw _ _ (sym v))

no_case_with : (a : Atom) (pattern bigint : Parts) → (is_empty pattern && is_empty bigint) ≡ false → case.NoCase ≡ with_value a pattern bigint
unfolding with_value
no_case_with (units u) (atom empty x) (atom empty y) h = absurd (true≢false h)
no_case_with (flag b) (atom empty x) (atom empty y) h = absurd (true≢false h)
no_case_with (whole n) (atom empty x) (atom empty y) h = absurd (true≢false h)
no_case_with _ _ _ h = refl

no_case_without : (raw pattern bigint : Parts) → (is_empty pattern && is_empty bigint) ≡ false → (is_empty bigint && holds_text pattern) ≡ false → (is_empty pattern && holds_text bigint) ≡ false → case.NoCase ≡ without_value raw pattern bigint
unfolding without_value
no_case_without raw (atom (text p) x) (atom empty y) h r b = absurd (true≢false r)
no_case_without raw (atom empty x) (atom (text t) y) h r b = absurd (true≢false b)
no_case_without raw (atom empty x) (atom empty y) h r b = absurd (true≢false h)
no_case_without raw _ _ h r b = refl

no_case_by : (value raw pattern bigint : Parts) → (is_empty pattern && is_empty bigint) ≡ false → ((is_empty value && is_empty bigint) && holds_text pattern) ≡ false → ((is_empty value && is_empty pattern) && holds_text bigint) ≡ false
    → case.NoCase ≡ case_from value raw pattern bigint
unfolding case_from
no_case_by (atom empty more) raw pattern bigint h r b = no_case_without raw pattern bigint h r b
no_case_by (atom (flag t) more) raw pattern bigint h r b = no_case_with (flag t) pattern bigint h
no_case_by (atom (word t) more) raw pattern bigint h r b = no_case_with (word t) pattern bigint h
no_case_by (atom (text t) more) raw pattern bigint h r b = no_case_with (text t) pattern bigint h
no_case_by (atom (units t) more) raw pattern bigint h r b = no_case_with (units t) pattern bigint h
no_case_by (atom (whole t) more) raw pattern bigint h r b = no_case_with (whole t) pattern bigint h
no_case_by done raw pattern bigint h r b = refl
no_case_by (child k s t fields more) raw pattern bigint h r b = refl
no_case_by (many items more) raw pattern bigint h r b = refl

-- by what the tests on the fields gave
pub no_case : (value raw pattern bigint : Parts) (v p b r i : Bool) → v ≡ is_empty value → p ≡ is_empty pattern → b ≡ is_empty bigint → r ≡ holds_text pattern → i ≡ holds_text bigint
    → (p && b) ≡ false → ((v && b) && r) ≡ false → ((v && p) && i) ≡ false → case.NoCase ≡ case_from value raw pattern bigint
no_case value raw pattern bigint v p b r i hv hp hb hr hi plain regexp bigints =
    no_case_by value raw pattern bigint (rw (← hp, ← hb) plain) (rw (← hv, ← hb, ← hr) regexp) (rw (← hv, ← hp, ← hi) bigints)
