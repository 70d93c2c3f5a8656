-- Fields on the way into a struct that stands open: what was written, and which fields are left. A
-- caller that writes some fields keeps such a fact from call to call; each exit then wants one lemma.
use Rattle.std.proofs.Common.{◌≡◌, ℕ, List, [], ◌∷◌, ◌++◌, ap, ◌∙◌, sym, refl}
use Rattle.oxc_estree.specs.Out.{Out, Flags, flags, Meaning}
use Rattle.oxc_estree.specs.Open.{Field, OpenStruct, add_field, add_fields}
use Rattle.oxc_estree.specs.Refused.{IsCutShort}
use Rattle.oxc_estree.proofs.Growth.{Grows, Grows-refl, Grows-trans, Grows-add_field, Grows-add_fields, flags_from, cut_short_after, cut_short_before}
use Rattle.oxc_estree.proofs.StructUnderWay.{add_fields-append}

-- s was made of old, and is full once it has the fields that are left
pub record AreFieldsUnderWay (old s : OpenStruct) (left : List Field) (full : OpenStruct) : Type 0 where
  pub grown : Grows old.out s.out
  pub ends : add_fields s left ≡ full

pub fields_begin : (s : OpenStruct) (fs : List Field) → AreFieldsUnderWay s s fs (add_fields s fs)
fields_begin s fs = record { grown = Grows-refl s.out; ends = refl }

pub one_written : {o s t full : OpenStruct} {left : List Field} (k : List ℕ) (m : Flags → Meaning) →
    AreFieldsUnderWay o s (record { name = k; meaning = m (flags o.out) } ∷ left) full →
    t ≡ add_field s k (m (flags s.out)) → AreFieldsUnderWay o t left full
one_written {o} {s} {t} {full} {left} k m u e =
    let at : t ≡ add_field s k (m (flags o.out)) = e ∙ ap (λ (f : Flags). add_field s k (m f)) (flags_from u.grown.flags) in
    rw at (record { grown = Grows-trans u.grown (Grows-add_field s k (m (flags o.out))); ends = u.ends })

pub one_refused : {o s full : OpenStruct} {left : List Field} {n : Out} (k : List ℕ) (m : Flags → Meaning) →
    AreFieldsUnderWay o s (record { name = k; meaning = m (flags o.out) } ∷ left) full →
    IsCutShort s.out n (add_field s k (m (flags s.out))).out → IsCutShort o.out n full.out
one_refused {o} {s} {full} {left} {n} k m u h =
    let t = add_field s k (m (flags o.out)) in
    let at : IsCutShort s.out n t.out = rw (flags_from u.grown.flags) at h in
    cut_short_after u.grown (cut_short_before (rw (← u.ends) (Grows-add_fields t left)) at)

-- fields that are written by one call
pub more_written : {o s t full : OpenStruct} {left : List Field} (fs : Flags → List Field) →
    AreFieldsUnderWay o s (fs (flags o.out) ++ left) full →
    t ≡ add_fields s (fs (flags s.out)) → AreFieldsUnderWay o t left full
more_written {o} {s} {t} {full} {left} fs u e =
    let at : t ≡ add_fields s (fs (flags o.out)) = e ∙ ap (λ (f : Flags). add_fields s (fs f)) (flags_from u.grown.flags) in
    rw at (record {
      grown = Grows-trans u.grown (Grows-add_fields s (fs (flags o.out)));
      ends = sym (add_fields-append s (fs (flags o.out)) left) ∙ u.ends;
    })

pub more_refused : {o s full : OpenStruct} {n : Out} (fs : Flags → List Field) (left : List Field) →
    AreFieldsUnderWay o s (fs (flags o.out) ++ left) full →
    IsCutShort s.out n (add_fields s (fs (flags s.out))).out → IsCutShort o.out n full.out
more_refused {o} {s} {full} {n} fs left u h =
    let t = add_fields s (fs (flags o.out)) in
    let at : IsCutShort s.out n t.out = rw (flags_from u.grown.flags) at h in
    let ends : add_fields t left ≡ full = sym (add_fields-append s (fs (flags o.out)) left) ∙ u.ends in
    cut_short_after u.grown (cut_short_before (rw (← ends) (Grows-add_fields t left)) at)

pub fields_ended : {o s full : OpenStruct} → AreFieldsUnderWay o s [] full → s ≡ full
fields_ended u = u.ends
