-- The fields of a span on the way, whose ends are the two numbers of a list.
use Rattle.std.proofs.Common.{◌≡◌, ℕ, List, [], ◌∷◌, true, cond, codes, get_or, map, ap, ◌∙◌, sym, subst, Bool}
use Rattle.oxc_estree.specs.Out.{Out, Flags, flags, Meaning}
use Rattle.oxc_estree.specs.Open.{Field, OpenStruct, add_field, add_fields, list_of, number, range_field, span_fields}
use Rattle.oxc_estree.specs.Refused.{IsCutShort}
use Rattle.oxc_estree.proofs.FieldsUnderWay.{AreFieldsUnderWay, fields_begin, one_written, one_refused}

abbrev end_field : ℕ → Field
end_field b = record { name = codes "end"; meaning = number b }

before_end : (o : OpenStruct) (a b : ℕ) {s : OpenStruct} → s ≡ add_field o (codes "start") (number a) →
    AreFieldsUnderWay o s (end_field b ∷ range_field (flags o.out) a b) (add_fields o (span_fields (flags o.out) a b))
before_end o a b e = one_written (codes "start") (λ _. number a) (fields_begin o (span_fields (flags o.out) a b)) e

before_range : (o : OpenStruct) (a b : ℕ) {s t : OpenStruct} → s ≡ add_field o (codes "start") (number a) →
    t ≡ add_field s (codes "end") (number b) →
    AreFieldsUnderWay o t (range_field (flags o.out) a b) (add_fields o (span_fields (flags o.out) a b))
before_range o a b e f = one_written (codes "end") (λ _. number b) (before_end o a b e) f

abbrev both : ℕ → ℕ → Meaning
both a b = list_of (number a ∷ number b ∷ [])

range_field_on : (f : Flags) (a b : ℕ) → f.ranges ≡ true → range_field f a b ≡ record { name = codes "range"; meaning = both a b } ∷ []
range_field_on f a b e = ap (λ (c : Bool). cond c (record { name = codes "range"; meaning = both a b } ∷ []) []) e

pub end_refused : (o : OpenStruct) (range : List ℕ) (a b : ℕ) → range ≡ a ∷ b ∷ [] → {s : OpenStruct} {n : Out} →
    s ≡ add_field o (codes "start") (number (get_or range 0 0)) →
    IsCutShort s.out n (add_field s (codes "end") (number (get_or range 1 0))).out →
    IsCutShort o.out n (add_fields o (span_fields (flags o.out) a b)).out
end_refused o range a b r {s} {n} e h =
    let at : s ≡ add_field o (codes "start") (number a) = rw r at e in
    let cut : IsCutShort s.out n (add_field s (codes "end") (number b)).out = rw r at h in
    one_refused (codes "end") (λ _. number b) (before_end o a b at) cut

pub range_refused : (o : OpenStruct) (range : List ℕ) (a b : ℕ) → range ≡ a ∷ b ∷ [] → {s t : OpenStruct} {n : Out} →
    s ≡ add_field o (codes "start") (number (get_or range 0 0)) →
    t ≡ add_field s (codes "end") (number (get_or range 1 0)) → t.out.ranges ≡ true →
    IsCutShort t.out n (add_field t (codes "range") (list_of (map number range))).out →
    IsCutShort o.out n (add_fields o (span_fields (flags o.out) a b)).out
range_refused o range a b r {s} {t} {n} e f on h =
    let at : s ≡ add_field o (codes "start") (number a) = rw r at e in
    let then : t ≡ add_field s (codes "end") (number b) = rw r at f in
    let cut : IsCutShort t.out n (add_field t (codes "range") (both a b)).out = rw r at h in
    let u = before_range o a b at then in
    let left = range_field_on (flags o.out) a b (sym u.grown.flags.ranges ∙ on) in
    one_refused (codes "range") (λ _. both a b) (subst (λ (l : List Field). AreFieldsUnderWay o t l (add_fields o (span_fields (flags o.out) a b))) left u) cut
