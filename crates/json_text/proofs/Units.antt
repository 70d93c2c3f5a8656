-- A text and its code units give each other back.
use Rattle.std.proofs.Common.{◌≡◌, ℕ, suc, ◌<◌, ◌≤◌, ◌+◌, ◌-◌, ◌/◌, ◌%◌, ◌⊎◌, ⊎_elim, inl, inr, List, [], ◌∷◌, ◌++◌, get_or, Bool, true, false, not, ◌&&◌, Option, Some, None, is_some, map, flat_map, arith, sym, ap, ap₂, ◌∙◌, refl, subst, encode_utf8, encode_utf8_all, bytes_eq, IsUtf8, IsAscii, chars, true≢false, if◌then◌else◌, nat_lt, lt-ltb, le-ltb, ltb-true}
use Rattle.std.specs.Char.{IsScalar}
use Rattle.std.specs.Char.Escape.{encode_utf16}
use Rattle.std.specs.Char.Utf16.{utf16_chars, has_unpaired_surrogate, lone_unit_char, surrogate_pair_char}
use Rattle.std.specs.List.{list_any}
use Rattle.std.specs.Str.{all_scalars}
use Rattle.std.proofs.lemmas.Bool.{and_parts, cases_lt, not-true}
use Rattle.std.proofs.lemmas.Bool.Decides.{Decides-like, nat_tests, same_from_decides}
use Rattle.std.proofs.lemmas.Option.{cond_some, same_Some}
use Rattle.std.proofs.lemmas.Slice.Eq.{bytes_eq-Decides}
use Rattle.std.proofs.lemmas.Str.{IsUtf8-from_ascii, chars-encodes, chars-IsAscii, encodes-chars, scalars-chars, utf16_chars-nil, utf16_chars_lone, utf16_chars_pair}
use Rattle.std.proofs.str.Utf16.{IsPair}
use lib.Utf8.{scalar_cases}
use Rattle.json_text.specs.HasText.{AreCodeUnits}
use Rattle.json_text.specs.Units.{units_of, bytes_of, text_of_units, are_code_units}

-- ---- one character

-- a character is no surrogate, and below 2^20 + 2^16
abbrev IsCharacter : ℕ → Type 0
IsCharacter c = (c < 55296) ⊎ ((57344 ≤ c) × (c < 1114112))

pub encode_utf16-short : (c : ℕ) → c < 65536 → encode_utf16 c ≡ c ∷ []
encode_utf16-short c h = rw (lt-ltb c 65536 h)

pub encode_utf16-long : (c : ℕ) → 65536 ≤ c → encode_utf16 c ≡ (55296 + (c - 65536) / 1024) ∷ (56320 + (c - 65536) % 1024) ∷ []
encode_utf16-long c h = rw (le-ltb c 65536 h)

alone : (c : ℕ) → (c < 55296) ⊎ (57344 ≤ c) → lone_unit_char c ≡ Some c
alone c s = ⊎_elim (λ (h : c < 55296). grind (arith, nat_tests)) (λ (h : 57344 ≤ c). grind (arith, nat_tests)) s

not_in_pair : (u v : ℕ) → (u < 55296) ⊎ (57344 ≤ u) → IsPair u v → ⊥
not_in_pair u v s p = ⊎_elim (λ (h : u < 55296). omega arith) (λ (h : 57344 ≤ u). omega arith) s

no_surrogate : (c : ℕ) → IsCharacter c → (c < 55296) ⊎ (57344 ≤ c)
no_surrogate c s = ⊎_elim (λ (h : c < 55296). inl h) (λ (h : (57344 ≤ c) × (c < 1114112)). inr h.0) s

below_top : (c : ℕ) → IsCharacter c → c < 1114112
below_top c s = ⊎_elim (λ (h : c < 55296). omega arith) (λ (h : (57344 ≤ c) × (c < 1114112)). h.1) s

-- the units of a character, before others, spell it
spells : (c : ℕ) (us : List ℕ) → IsCharacter c → utf16_chars (encode_utf16 c ++ us) ≡ Some c ∷ utf16_chars us
spells c us s = ⊎_elim short long (cases_lt c 65536)
  where
    short : c < 65536 → utf16_chars (encode_utf16 c ++ us) ≡ Some c ∷ utf16_chars us
    short h =
        let low = no_surrogate c s in
        rw (encode_utf16-short c h) (utf16_chars_lone c us (λ p. not_in_pair c _ low p) ∙ ap (λ (o : Option ℕ). o ∷ utf16_chars us) (alone c low))

    long : 65536 ≤ c → utf16_chars (encode_utf16 c ++ us) ≡ Some c ∷ utf16_chars us
    long h =
        let top = below_top c s in
        let same : surrogate_pair_char (55296 + (c - 65536) / 1024) (56320 + (c - 65536) % 1024) ≡ c = omega arith in
        rw (encode_utf16-long c h)
        (utf16_chars_pair _ _ us (omega arith, omega arith, omega arith, omega arith) ∙ ap (λ (d : ℕ). Some d ∷ utf16_chars us) same)

pub AreCodeUnits-append : (us vs : List ℕ) → AreCodeUnits us → AreCodeUnits vs → AreCodeUnits (us ++ vs)
AreCodeUnits-append [] vs a b = b
AreCodeUnits-append (u ∷ us) vs a b = (a.0, AreCodeUnits-append us vs a.1 b)

AreCodeUnits-encode_utf16 : (c : ℕ) → IsCharacter c → AreCodeUnits (encode_utf16 c)
AreCodeUnits-encode_utf16 c s = ⊎_elim
    (λ (h : c < 65536). subst AreCodeUnits (sym (encode_utf16-short c h)) (h, tt))
    (λ (h : 65536 ≤ c). let top = below_top c s in subst AreCodeUnits (sym (encode_utf16-long c h)) (omega arith, (omega arith, tt)))
    (cases_lt c 65536)

-- ---- all characters of a text

spell_all : (cs : List ℕ) → all_scalars cs ≡ true → utf16_chars (flat_map encode_utf16 cs) ≡ map Some cs
spell_all [] s = utf16_chars-nil
spell_all (c ∷ cs) s =
    let b = and_parts _ (all_scalars cs) s in
    spells c (flat_map encode_utf16 cs) (scalar_cases c b.0) ∙ ap (λ (os : List (Option ℕ)). Some c ∷ os) (spell_all cs b.1)

pub are_code_units-AreCodeUnits : (us : List ℕ) → AreCodeUnits us → are_code_units us ≡ true
are_code_units-AreCodeUnits [] a = refl
are_code_units-AreCodeUnits (u ∷ us) a = rw (lt-ltb u 65536 a.0) (are_code_units-AreCodeUnits us a.1)

pub AreCodeUnits-are_code_units : (us : List ℕ) → are_code_units us ≡ true → AreCodeUnits us
AreCodeUnits-are_code_units [] e = tt
AreCodeUnits-are_code_units (u ∷ us) e = let b = and_parts (nat_lt u 65536) (are_code_units us) e in (ltb-true u 65536 b.0, AreCodeUnits-are_code_units us b.1)

all_paired : (cs : List ℕ) → list_any (λ (o : Option ℕ). not (is_some o)) (map Some cs) ≡ false
all_paired [] = refl
all_paired (c ∷ cs) = all_paired cs

bytes_of-characters : (cs : List ℕ) → bytes_of (map Some cs) ≡ encode_utf8_all cs
bytes_of-characters [] = refl
bytes_of-characters (c ∷ cs) = ap (λ (bs : List ℕ). encode_utf8 c ++ bs) (bytes_of-characters cs)

text_of_characters : (us cs : List ℕ) → AreCodeUnits us → utf16_chars us ≡ map Some cs → text_of_units us ≡ Some (encode_utf8_all cs)
text_of_characters us cs a e = rw (are_code_units-AreCodeUnits us a, e, all_paired cs, bytes_of-characters cs)

units_below : (cs : List ℕ) → all_scalars cs ≡ true → AreCodeUnits (flat_map encode_utf16 cs)
units_below [] s = tt
units_below (c ∷ cs) s =
    let b = and_parts _ (all_scalars cs) s in
    AreCodeUnits-append (encode_utf16 c) (flat_map encode_utf16 cs) (AreCodeUnits-encode_utf16 c (scalar_cases c b.0)) (units_below cs b.1)

pub AreCodeUnits-units_of : (bs : List ℕ) → IsUtf8 bs → AreCodeUnits (units_of bs)
AreCodeUnits-units_of bs u = units_below (chars bs) (scalars-chars bs u)

-- the code units of a text give it back
pub text_of_units-units_of : (bs : List ℕ) → IsUtf8 bs → text_of_units (units_of bs) ≡ Some bs
text_of_units-units_of bs u =
    text_of_characters (units_of bs) (chars bs) (AreCodeUnits-units_of bs u) (spell_all (chars bs) (scalars-chars bs u)) ∙ ap Some (encodes-chars bs u)

-- two texts of the same code units are one
pub units_of-injective : (a b : List ℕ) → IsUtf8 a → IsUtf8 b → units_of a ≡ units_of b → a ≡ b
units_of-injective a b u v e =
    same_Some a b (sym (text_of_units-units_of a u) ∙ ap text_of_units e ∙ text_of_units-units_of b v)

ascii_units : (bs : List ℕ) → IsAscii bs → flat_map encode_utf16 bs ≡ bs
ascii_units [] a = refl
ascii_units (b ∷ bs) a =
    let low : b < 65536 = omega (arith, a 0) in
    rw (encode_utf16-short b low) (ap (λ (t : List ℕ). b ∷ t) (ascii_units bs (λ i. a (suc i))))

-- an ASCII text is its own code units
pub units_of-IsAscii : (key : List ℕ) → IsAscii key → units_of key ≡ key
units_of-IsAscii key a = rw (chars-IsAscii key a) (ascii_units key a)

-- a text is compared with an ASCII word by its code units
pub bytes_eq-units_of : (bs key : List ℕ) → IsUtf8 bs → IsAscii key → bytes_eq (units_of bs) key ≡ bytes_eq bs key
bytes_eq-units_of bs key u a = same_from_decides _ _
    (Decides-like _ (λ (e : units_of bs ≡ key). units_of-injective bs key u (IsUtf8-from_ascii key a) (e ∙ sym (units_of-IsAscii key a)))
    (λ (e : bs ≡ key). ap units_of e ∙ units_of-IsAscii key a) (bytes_eq-Decides (units_of bs) key))
    (bytes_eq-Decides bs key)

-- ---- from code units to a text

-- these characters are what the units spell, and they give the units back
abbrev Spells : List ℕ → List ℕ → Type 0
Spells us cs = (utf16_chars us ≡ map Some cs) × (all_scalars cs ≡ true) × (flat_map encode_utf16 cs ≡ us)

spells_pair : (u v : ℕ) (us cs : List ℕ) → IsPair u v → Spells us cs → Spells (u ∷ v ∷ us) (surrogate_pair_char u v ∷ cs)
spells_pair u v us cs p s =
    let c = surrogate_pair_char u v in
    let top : c < 1114112 = omega arith in
    let scalar : IsScalar c = grind (arith, nat_tests) in
    let long : 65536 ≤ c = omega arith in
    let first : 55296 + (c - 65536) / 1024 ≡ u = omega arith in
    let second : 56320 + (c - 65536) % 1024 ≡ v = omega arith in (
      utf16_chars_pair u v us p ∙ ap (λ (os : List (Option ℕ)). Some c ∷ os) s.0,
      rw (scalar, s.1) refl,
      rw (encode_utf16-long c long, first, second, s.2) refl,
    )

spells_alone : (u : ℕ) (us cs : List ℕ) → u < 65536 → (u < 55296) ⊎ (57344 ≤ u) → Spells us cs → Spells (u ∷ us) (u ∷ cs)
spells_alone u us cs h l s =
    let scalar : IsScalar u = ⊎_elim (λ (k : u < 55296). grind (arith, nat_tests)) (λ (k : 57344 ≤ u). grind (arith, nat_tests)) l in (
      utf16_chars_lone u us (λ p. not_in_pair u _ l p) ∙ ap₂ (λ (o : Option ℕ) (os : List (Option ℕ)). o ∷ os) (alone u l) s.0,
      rw (scalar, s.1) refl,
      rw (encode_utf16-short u h, s.2) refl,
    )

-- a surrogate that is in no pair
abbrev IsStray : ℕ → ℕ → Type 0
IsStray u v = (55296 ≤ u) × (u < 57344) × (IsPair u v → ⊥)

-- what a unit is, before the unit v
unit_kind : (u v : ℕ) → ((u < 55296) ⊎ (57344 ≤ u)) ⊎ ((IsPair u v) ⊎ (IsStray u v))
unit_kind u v =
    ⊎_elim (λ (a : u < 55296). inl (inl a)) (λ (a : 55296 ≤ u).
    ⊎_elim (λ (b : u < 57344).
    ⊎_elim (λ (c : u < 56320).
    ⊎_elim (λ (d : v < 56320). inr (inr (a, b, λ p. omega arith))) (λ (d : 56320 ≤ v).
    ⊎_elim (λ (e : v < 57344). inr (inl (a, c, d, e))) (λ (e : 57344 ≤ v). inr (inr (a, b, λ p. omega arith)))
    (cases_lt v 57344)) (cases_lt v 56320))
    (λ (c : 56320 ≤ u). inr (inr (a, b, λ p. omega arith)))
    (cases_lt u 56320))
    (λ (b : 57344 ≤ u). inl (inr b))
    (cases_lt u 57344))
    (cases_lt u 55296)

stray : (u : ℕ) → 55296 ≤ u → u < 57344 → lone_unit_char u ≡ None
stray u a b = grind (arith, nat_tests)

is_unpaired : (u : ℕ) (us : List ℕ) → IsStray u (get_or us 0 0) → has_unpaired_surrogate (u ∷ us) ≡ true
is_unpaired u us s = rw (utf16_chars_lone u us s.2, stray u s.0 s.1) refl

abbrev SomeSpell : List ℕ → Type 0
SomeSpell us = (cs : List ℕ) × Spells us cs

rest_paired : (us vs : List ℕ) (c : ℕ) → utf16_chars us ≡ Some c ∷ utf16_chars vs → has_unpaired_surrogate us ≡ false → has_unpaired_surrogate vs ≡ false
rest_paired us vs c e n = sym (ap (λ os. list_any (λ (o : Option ℕ). not (is_some o)) os) e) ∙ n

alone_first : (u : ℕ) (us : List ℕ) → u < 65536 → (u < 55296) ⊎ (57344 ≤ u) → has_unpaired_surrogate (u ∷ us) ≡ false
    → (has_unpaired_surrogate us ≡ false → SomeSpell us) → SomeSpell (u ∷ us)
alone_first u us h l n more =
    let e = utf16_chars_lone u us (λ p. not_in_pair u _ l p) ∙ ap (λ (o : Option ℕ). o ∷ utf16_chars us) (alone u l) in
    let r = more (rest_paired (u ∷ us) us u e n) in
    (u ∷ r.0, spells_alone u us r.0 h l r.1)

pair_first : (u v : ℕ) (us : List ℕ) → IsPair u v → has_unpaired_surrogate (u ∷ v ∷ us) ≡ false → (has_unpaired_surrogate us ≡ false → SomeSpell us) → SomeSpell (u ∷ v ∷ us)
pair_first u v us p n more =
    let r = more (rest_paired (u ∷ v ∷ us) us _ (utf16_chars_pair u v us p) n) in
    (surrogate_pair_char u v ∷ r.0, spells_pair u v us r.0 p r.1)

stray_first : (u : ℕ) (us : List ℕ) → IsStray u (get_or us 0 0) → has_unpaired_surrogate (u ∷ us) ≡ false → SomeSpell (u ∷ us)
stray_first u us s n = absurd (true≢false (sym (is_unpaired u us s) ∙ n))

spelled : (us : List ℕ) → AreCodeUnits us → has_unpaired_surrogate us ≡ false → SomeSpell us
spelled [] a n = ([], (utf16_chars-nil, refl, refl))
spelled (u ∷ []) a n =
    ⊎_elim (λ (l : (u < 55296) ⊎ (57344 ≤ u)). alone_first u [] a.0 l n (λ m. ([], (utf16_chars-nil, refl, refl))))
    (λ (o : (IsPair u 0) ⊎ (IsStray u 0)). ⊎_elim (λ (p : IsPair u 0). absurd (omega arith)) (λ (s : IsStray u 0). stray_first u [] s n) o)
    (unit_kind u 0)
spelled (u ∷ v ∷ us) a n =
    ⊎_elim (λ (l : (u < 55296) ⊎ (57344 ≤ u)). alone_first u (v ∷ us) a.0 l n (λ m. spelled (v ∷ us) a.1 m))
    (λ (o : (IsPair u v) ⊎ (IsStray u v)). ⊎_elim (λ (p : IsPair u v). pair_first u v us p n (λ m. spelled us a.1.1 m)) (λ (s : IsStray u v). stray_first u (v ∷ us) s n) o)
    (unit_kind u v)

text_from : (a b : Bool) (t bs : List ℕ) → (if a && not b then Some t else None) ≡ Some bs → (a ≡ true) × (b ≡ false) × (t ≡ bs)
text_from a b t bs e =
    let some = cond_some (a && not b) t bs e in
    let tests = and_parts a (not b) some.0 in
    (tests.0, not-true b tests.1, some.1)

-- what has a text is of code units
pub AreCodeUnits-text_of_units : (us bs : List ℕ) → text_of_units us ≡ Some bs → AreCodeUnits us
AreCodeUnits-text_of_units us bs e =
    AreCodeUnits-are_code_units us (text_from (are_code_units us) (has_unpaired_surrogate us) (bytes_of (utf16_chars us)) bs e).0

-- where code units have a text, its characters
spelled_text : (us bs : List ℕ) → text_of_units us ≡ Some bs → (cs : List ℕ) × Spells us cs × (encode_utf8_all cs ≡ bs)
spelled_text us bs e =
    let f = text_from (are_code_units us) (has_unpaired_surrogate us) (bytes_of (utf16_chars us)) bs e in
    let a = AreCodeUnits-are_code_units us f.0 in
    let s = spelled us a f.1 in
    (s.0, s.1, same_Some _ _ (sym (text_of_characters us s.0 a s.1.0) ∙ e))

-- code units in which no surrogate stands alone are a text
pub IsUtf8-text_of_units : (us bs : List ℕ) → text_of_units us ≡ Some bs → IsUtf8 bs
IsUtf8-text_of_units us bs e = let s = spelled_text us bs e in (s.0, (s.1.1, s.2))

-- and that text gives them back
pub units_of-text_of_units : (us bs : List ℕ) → text_of_units us ≡ Some bs → units_of bs ≡ us
units_of-text_of_units us bs e =
    let s = spelled_text us bs e in
    ap units_of (sym s.2) ∙ ap (λ (cs : List ℕ). flat_map encode_utf16 cs) (chars-encodes s.0 s.1.1) ∙ s.1.2
