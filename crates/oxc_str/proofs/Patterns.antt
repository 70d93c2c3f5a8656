-- The first and the last match.
use Rattle.std.proofs.Common.{◌≡◌, ℕ, ◌<◌, ◌≤◌, ◌+◌, ◌-◌, ◌↔◌, IsTrue, List, [], ◌∷◌, ◌++◌, append_assoc, append-nil, true≢false, length, length-append, Bool, true, false, Option, Some, None, arith, sym, ap, ◌∙◌, refl, subst}
use Rattle.std.specs.Char.{IsScalar}
use Rattle.std.specs.Str.{chars}
use Rattle.std.proofs.lemmas.Str.{encodes-append, length-encode, len_utf8_bounds}
use lib.Utf8.{encode, encodes}
use Rattle.memchr.specs.Find.{OccursAt, FindsNeedle, FindsLastNeedle}
use Rattle.oxc_str.specs.JSStrPattern.{IsLeast, IsGreatest, IsOneAnswer, OccursAtEnd, PassesAt, Answers}

-- ---- a text

occurs_within : (hay needle : List ℕ) (k : ℕ) → OccursAt hay needle k → k < length hay + 1
occurs_within hay needle k o = omega (arith, o.fits)

pub least : (hay needle : List ℕ) (r : Option ℕ) → FindsNeedle hay needle 0 r → IsLeast (OccursAt hay needle) r
least hay needle None f = λ k o. f k (omega arith) (occurs_within hay needle k o) o
least hay needle (Some k) f = (f.1, λ i l o. f.0.before i (omega arith) l o)

pub greatest : (hay needle : List ℕ) (r : Option ℕ) → FindsLastNeedle hay needle r → IsGreatest (OccursAt hay needle) r
greatest hay needle None f = λ k o. f k (omega arith) (occurs_within hay needle k o) o
greatest hay needle (Some k) f = (f.1, λ i l o. f.0.after i (omega arith) (occurs_within hay needle i o) o)

-- ---- a test of characters

module _ (post : ℕ → Bool → Type 0) where
  -- no character among these passes
  abbrev pub Fail : List ℕ → Type 0
  Fail [] = Unit {0}
  Fail (c ∷ cs) = (IsScalar c → post c false) × Fail cs

  fail_at : IsOneAnswer post → (before after : List ℕ) (c : ℕ) → Fail (before ++ c ∷ after) → IsScalar c → post c true → ⊥
  fail_at one [] after c f s p = one c s p (f.0 s)
  fail_at one (b ∷ before) after c f s p = fail_at one before after c f.1 s p

  pub Fail-append : (cs ds : List ℕ) → Fail cs → Fail ds → Fail (cs ++ ds)
  Fail-append [] ds f g = g
  Fail-append (c ∷ cs) ds f g = (f.0, Fail-append cs ds f.1 g)

  head_same : (c d : ℕ) (cs ds : List ℕ) → c ∷ cs ≡ d ∷ ds → c ≡ d
  head_same c d cs ds e = cc

  tail_same : (c d : ℕ) (cs ds : List ℕ) → c ∷ cs ≡ d ∷ ds → cs ≡ ds
  tail_same c d cs ds e = cc

  -- a character before those that were not tried yet
  earlier : IsOneAnswer post → (tried rest before after : List ℕ) (c : ℕ) → Fail tried → before ++ c ∷ after ≡ tried ++ rest → length (encodes before) < length (encodes tried) → IsScalar c → post c true → ⊥
  earlier one [] rest before after c f e l s p = omega arith
  earlier one (t ∷ tried) rest [] after c f e l s p =
      let same = head_same c t after (tried ++ rest) e in
      one c s p (subst (λ (d : ℕ). post d false) (sym same) (f.0 (subst IsScalar same s)))
  earlier one (t ∷ tried) rest (b ∷ before) after c f e l s p =
      let same = head_same b t (before ++ c ∷ after) (tried ++ rest) e in
      earlier one tried rest before after c f.1 (tail_same b t (before ++ c ∷ after) (tried ++ rest) e)
      (omega (arith, l, length-append (encode b) (encodes before), length-append (encode t) (encodes tried), ap (λ (d : ℕ). length (encode d)) same)) s p

  -- a character after the one that was tried last
  later : IsOneAnswer post → (left tried before after : List ℕ) (x c : ℕ) → Fail tried → before ++ c ∷ after ≡ left ++ x ∷ tried → length (encodes left) < length (encodes before) → IsScalar c → post c true → ⊥
  later one left tried [] after x c f e l s p = omega arith
  later one [] tried (b ∷ before) after x c f e l s p = fail_at one before after c (subst Fail (sym (tail_same b x (before ++ c ∷ after) tried e)) f) s p
  later one (y ∷ left) tried (b ∷ before) after x c f e l s p =
      let same = head_same b y (before ++ c ∷ after) (left ++ x ∷ tried) e in
      later one left tried before after x c f (tail_same b y (before ++ c ∷ after) (left ++ x ∷ tried) e)
      (omega (arith, l, length-append (encode b) (encodes before), length-append (encode y) (encodes left), ap (λ (d : ℕ). length (encode d)) same)) s p

  abbrev Passes : ℕ → Type 0
  Passes c = post c true

  pub none_passes : IsOneAnswer post → (bytes : List ℕ) → Fail (chars bytes) → (k : ℕ) → PassesAt Passes bytes k → ⊥
  none_passes one bytes f k q = fail_at one q.before q.after q.char (subst Fail q.split f) q.scalar q.passing

  -- What was tried from the front, and what is left.
  pub record FromFront (bytes left : List ℕ) (offset : ℕ) : Type 0 where
    pub tried : List ℕ
    pub split : chars bytes ≡ tried ++ left
    pub offset_is : offset ≡ length (encodes tried)
    pub fail : Fail tried

  pub front_start : (bytes left : List ℕ) → left ≡ chars bytes → FromFront bytes left 0
  front_start bytes left e = record { tried = []; split = sym e; offset_is = refl; fail = tt }

  pub front_step : (bytes left rest : List ℕ) (c offset size : ℕ) → FromFront bytes left offset → left ≡ c ∷ rest → size ≡ length (encode c) → (IsScalar c → post c false) → FromFront bytes rest (offset + size)
  front_step bytes left rest c offset size w e z f = record {
    tried = w.tried ++ c ∷ [];
    split = w.split ∙ ap (λ (l : List ℕ). w.tried ++ l) e ∙ sym (append_assoc w.tried (c ∷ []) rest);
    offset_is = omega (arith, w.offset_is, z, ap length (encodes-append w.tried (c ∷ [])), length-append (encodes w.tried) (encode c ++ []), length-append {A = ℕ} (encode c) []);
    fail = Fail-append w.tried (c ∷ []) w.fail (f, tt);
  }

  pub front_found : IsOneAnswer post → (bytes left rest : List ℕ) (c offset : ℕ) → FromFront bytes left offset → left ≡ c ∷ rest → IsScalar c → post c true → IsLeast (PassesAt Passes bytes) (Some offset)
  front_found one bytes left rest c offset w e s p =
      let split = w.split ∙ ap (λ (l : List ℕ). w.tried ++ l) e in (
        record { before = w.tried; char = c; after = rest; split = split; offset = w.offset_is; scalar = s; passing = p },
        λ i l q. earlier one w.tried left q.before q.after q.char w.fail (sym q.split ∙ w.split) (omega (arith, l, q.offset, w.offset_is)) q.scalar q.passing,
      )

  pub front_none : IsOneAnswer post → (bytes left : List ℕ) (offset : ℕ) → FromFront bytes left offset → left ≡ [] → IsLeast (PassesAt Passes bytes) None
  front_none one bytes left offset w e =
      λ k q. none_passes one bytes (subst Fail (sym (w.split ∙ ap (λ (l : List ℕ). w.tried ++ l) e)) (Fail-append w.tried [] w.fail tt)) k q

  -- the offset stays within the bytes
  pub front_fits : (bytes left rest : List ℕ) (c offset size : ℕ) → FromFront bytes left offset → left ≡ c ∷ rest → size ≡ length (encode c) → encodes (chars bytes) ≡ bytes → offset + size ≤ length bytes
  front_fits bytes left rest c offset size w e z b =
      let split = w.split ∙ ap (λ (l : List ℕ). w.tried ++ l) e in
      omega (arith, w.offset_is, z, ap length b, ap (λ (l : List ℕ). length (encodes l)) split, ap length (encodes-append w.tried (c ∷ rest)), length-append (encodes w.tried) (encode c ++ encodes rest), length-append (encode c) (encodes rest))

  -- What was tried from the back, and what is left.
  pub record FromBack (bytes left : List ℕ) (offset : ℕ) : Type 0 where
    pub tried : List ℕ
    pub split : chars bytes ≡ left ++ tried
    pub offset_is : offset ≡ length (encodes left)
    pub fail : Fail tried

  pub back_start : (bytes left : List ℕ) (offset : ℕ) → left ≡ chars bytes → encodes (chars bytes) ≡ bytes → offset ≡ length bytes → FromBack bytes left offset
  back_start bytes left offset e w l = record {
    tried = [];
    split = sym e ∙ sym (append-nil left);
    offset_is = l ∙ sym (ap length (ap encodes e ∙ w));
    fail = tt;
  }

  -- how far back the last one begins
  pub back_size : (bytes left rest : List ℕ) (c offset size : ℕ) → FromBack bytes left offset → left ≡ rest ++ c ∷ [] → size ≡ length (encode c) → offset ≡ length (encodes rest) + size
  back_size bytes left rest c offset size w e z =
      omega (arith, w.offset_is, z, ap (λ (l : List ℕ). length (encodes l)) e, ap length (encodes-append rest (c ∷ [])), length-append (encodes rest) (encode c ++ []), length-append {A = ℕ} (encode c) [])

  back_split : (bytes left rest tried : List ℕ) (c : ℕ) → chars bytes ≡ left ++ tried → left ≡ rest ++ c ∷ [] → chars bytes ≡ rest ++ c ∷ tried
  back_split bytes left rest tried c s e = s ∙ ap (λ (l : List ℕ). l ++ tried) e ∙ append_assoc rest (c ∷ []) tried

  pub back_step : (bytes left rest : List ℕ) (c offset size : ℕ) → FromBack bytes left offset → left ≡ rest ++ c ∷ [] → size ≡ length (encode c) → (IsScalar c → post c false) → FromBack bytes rest (offset - size)
  back_step bytes left rest c offset size w e z f = record {
    tried = c ∷ w.tried;
    split = back_split bytes left rest w.tried c w.split e;
    offset_is = omega (arith, back_size bytes left rest c offset size w e z);
    fail = (f, w.fail);
  }

  pub back_found : IsOneAnswer post → (bytes left rest : List ℕ) (c offset size : ℕ) → FromBack bytes left offset → left ≡ rest ++ c ∷ [] → size ≡ length (encode c) → IsScalar c → post c true → IsGreatest (PassesAt Passes bytes) (Some (offset - size))
  back_found one bytes left rest c offset size w e z s p =
      let split = back_split bytes left rest w.tried c w.split e in
      let at : offset - size ≡ length (encodes rest) = omega (arith, back_size bytes left rest c offset size w e z) in (
        record { before = rest; char = c; after = w.tried; split = split; offset = at; scalar = s; passing = p },
        λ i l q. later one rest w.tried q.before q.after c q.char w.fail (sym q.split ∙ split) (omega (arith, l, q.offset, at)) q.scalar q.passing,
      )

  pub back_none : IsOneAnswer post → (bytes left : List ℕ) (offset : ℕ) → FromBack bytes left offset → left ≡ [] → IsGreatest (PassesAt Passes bytes) None
  back_none one bytes left offset w e =
      λ k q. none_passes one bytes (subst Fail (sym (w.split ∙ ap (λ (l : List ℕ). l ++ w.tried) e)) w.fail) k q

  -- ---- at the front

  none_before : (before after : List ℕ) (c d : ℕ) (rest : List ℕ) → 0 ≡ length (encodes before) → d ∷ rest ≡ before ++ c ∷ after → d ≡ c
  none_before [] after c d rest z e = head_same d c rest after e
  none_before (b ∷ before) after c d rest z e = absurd (omega (arith, z, length-append (encode b) (encodes before), length-encode b, (len_utf8_bounds b).0))

  pub front_answer : IsOneAnswer post → (bytes rest : List ℕ) (c : ℕ) (r : Bool) → chars bytes ≡ c ∷ rest → Answers post c r → IsTrue r ↔ PassesAt Passes bytes 0
  front_answer one bytes rest c true e a =
      (λ _. record { before = []; char = c; after = rest; split = e; offset = refl; scalar = a.0; passing = a.1 }, λ _. refl)
  front_answer one bytes rest c false e a = (
    λ t. absurd (true≢false (sym t)),
    λ q. let same = none_before q.before q.after q.char c rest q.offset (sym e ∙ q.split) in
        let scalar = subst IsScalar (sym same) q.scalar in
        absurd (one c scalar (subst (λ (d : ℕ). post d true) (sym same) q.passing) (a scalar)),
  )

-- ---- a text at the end

pub at_end : (hay needle : List ℕ) → (length needle ≤ length hay) × OccursAt hay needle (length hay - length needle) → OccursAtEnd hay needle
at_end hay needle p = (length hay - length needle, p.1, omega (arith, p.0))

pub end_at : (hay needle : List ℕ) → OccursAtEnd hay needle → (length needle ≤ length hay) × OccursAt hay needle (length hay - length needle)
end_at hay needle o =
    let k : o.0 ≡ length hay - length needle = omega (arith, o.2) in
    (omega (arith, o.2), subst (OccursAt hay needle) k o.1)

pub shorter : (left rest : List ℕ) (c : ℕ) → left ≡ rest ++ c ∷ [] → length rest < length left
shorter left rest c e = omega (arith, ap length e, length-append rest (c ∷ []))
