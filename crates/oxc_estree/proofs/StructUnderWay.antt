-- A struct on the way: what was written, and which fields are left. A caller that writes a struct keeps
-- such a fact from call to call; each exit then wants one lemma.
use Rattle.std.proofs.Common.{◌≡◌, ℕ, List, [], ◌∷◌, ◌++◌, Bool, true, false, ap, ◌∙◌, sym, refl, subst, append-nil}
use Rattle.oxc_estree.specs.Out.{Out, Flags, flags, Meaning, wrote, begun_struct, begun_field, ended_field}
use Rattle.oxc_estree.specs.Open.{Field, OpenStruct, new_struct, opened, add_field, add_fields, closed, object_of}
use Rattle.oxc_estree.specs.Refused.{IsCutShort}
use Rattle.oxc_estree.proofs.Closes.{closes_struct}
use Rattle.oxc_estree.proofs.Growth.{Grows, Grows-refl, Grows-trans, Grows-begun_struct, Grows-begun_field, Grows-ended_field, Grows-add_field, Grows-add_fields, Grows-field, Grows-closed, flags_from, cut_short_after, cut_short_before}

pub add_fields-append : (s : OpenStruct) (a b : List Field) → add_fields s (a ++ b) ≡ add_fields (add_fields s a) b
add_fields-append s [] b = refl
add_fields-append s (f ∷ a) b = add_fields-append (add_field s f.name f.meaning) a b

-- s was made of old, and makes full once it has the fields that are left and is closed
pub record IsStructUnderWay (old : Out) (s : OpenStruct) (left : List Field) (full : Out) : Type 0 where
  pub grown : Grows old s.out
  pub ends : closed (add_fields s left) ≡ full

pub struct_begins : {o : Out} {s : OpenStruct} (fs : List Field) → s ≡ new_struct o → IsStructUnderWay o s fs (wrote o (object_of fs))
struct_begins {o} fs e = rw e (record { grown = Grows-refl o; ends = alike fs ∙ closes_struct fs o })
  where
    alike : (fs : List Field) → closed (add_fields (new_struct o) fs) ≡ closed (add_fields (opened o) fs)
    alike [] = refl
    alike (f ∷ fs) = refl

pub field_written : {o full : Out} {s t : OpenStruct} {left : List Field} (k : List ℕ) (m : Flags → Meaning) →
    IsStructUnderWay o s (record { name = k; meaning = m (flags o) } ∷ left) full →
    t ≡ add_field s k (m (flags s.out)) → IsStructUnderWay o t left full
field_written {o} {full} {s} {t} {left} k m u e =
    let at : t ≡ add_field s k (m (flags o)) = e ∙ ap (λ (f : Flags). add_field s k (m f)) (flags_from u.grown.flags) in
    rw at (record { grown = Grows-trans u.grown (Grows-add_field s k (m (flags o))); ends = u.ends })

pub field_refused : {o full : Out} {s : OpenStruct} {left : List Field} {n : Out} (k : List ℕ) (m : Flags → Meaning) →
    IsStructUnderWay o s (record { name = k; meaning = m (flags o) } ∷ left) full →
    IsCutShort s.out n (add_field s k (m (flags s.out))).out → IsCutShort o n full
field_refused {o} {full} {s} {left} {n} k m u h =
    let t = add_field s k (m (flags o)) in
    let at : IsCutShort s.out n t.out = rw (flags_from u.grown.flags) at h in
    cut_short_after u.grown (cut_short_before (rw (← u.ends) (Grows-trans (Grows-add_fields t left) (Grows-closed (add_fields t left)))) at)

-- fields that another value writes
pub fields_written : {o full : Out} {s t : OpenStruct} {left : List Field} (fs : Flags → List Field) →
    IsStructUnderWay o s (fs (flags o) ++ left) full →
    t ≡ add_fields s (fs (flags s.out)) → IsStructUnderWay o t left full
fields_written {o} {full} {s} {t} {left} fs u e =
    let at : t ≡ add_fields s (fs (flags o)) = e ∙ ap (λ (f : Flags). add_fields s (fs f)) (flags_from u.grown.flags) in
    rw at (record {
      grown = Grows-trans u.grown (Grows-add_fields s (fs (flags o)));
      ends = ap closed (sym (add_fields-append s (fs (flags o)) left)) ∙ u.ends;
    })

pub fields_refused : {o full : Out} {s : OpenStruct} {n : Out} (fs : Flags → List Field) (left : List Field) →
    IsStructUnderWay o s (fs (flags o) ++ left) full →
    IsCutShort s.out n (add_fields s (fs (flags s.out))).out → IsCutShort o n full
fields_refused {o} {full} {s} {n} fs left u h =
    let t = add_fields s (fs (flags o)) in
    let at : IsCutShort s.out n t.out = rw (flags_from u.grown.flags) at h in
    let ends : closed (add_fields t left) ≡ full = ap closed (sym (add_fields-append s (fs (flags o)) left)) ∙ u.ends in
    cut_short_after u.grown (cut_short_before (rw (← ends) (Grows-trans (Grows-add_fields t left) (Grows-closed (add_fields t left)))) at)

-- the last fields
pub last_fields_written : {o full : Out} {s t : OpenStruct} (fs : Flags → List Field) →
    IsStructUnderWay o s (fs (flags o)) full →
    t ≡ add_fields s (fs (flags s.out)) → IsStructUnderWay o t [] full
last_fields_written {o} {full} {s} fs u e =
    fields_written {left = []} fs (subst (λ (l : List Field). IsStructUnderWay o s l full) (sym (append-nil (fs (flags o)))) u) e

pub last_fields_refused : {o full : Out} {s : OpenStruct} {n : Out} (fs : Flags → List Field) →
    IsStructUnderWay o s (fs (flags o)) full →
    IsCutShort s.out n (add_fields s (fs (flags s.out))).out → IsCutShort o n full
last_fields_refused {o} {full} {s} fs u h =
    fields_refused fs [] (subst (λ (l : List Field). IsStructUnderWay o s l full) (sym (append-nil (fs (flags o)))) u) h

pub struct_ended : {o full : Out} {s : OpenStruct} {n : Out} → IsStructUnderWay o s [] full → n ≡ closed s → n ≡ full
struct_ended u e = e ∙ u.ends

pub struct_end_refused : {o full : Out} {s : OpenStruct} {n : Out} → IsStructUnderWay o s [] full → IsCutShort s.out n (closed s) → IsCutShort o n full
struct_end_refused {o} {full} {s} {n} u h = cut_short_after u.grown (rw u.ends at h)

-- ---- the same by the steps of a serializer

pub steps_begin : {o p : Out} (fs : List Field) → p ≡ begun_struct o →
    IsStructUnderWay o (record { out = p; begun = true; first = true }) fs (wrote o (object_of fs))
steps_begin {o} fs e = rw e (record { grown = Grows-begun_struct o; ends = closes_struct fs o })

pub begin_struct_refused : {o n : Out} (fs : List Field) → IsCutShort o n (begun_struct o) → IsCutShort o n (wrote o (object_of fs))
begin_struct_refused {o} fs h =
    let s = opened o in
    cut_short_before (rw (← closes_struct fs o) (Grows-trans (Grows-add_fields s fs) (Grows-closed (add_fields s fs)))) h

-- the key, the value and the end of a field
pub field_by_steps : {o full : Out} {first : Bool} {p o₁ o₂ o₃ : Out} {left : List Field} (k : List ℕ) (m : Flags → Meaning) →
    IsStructUnderWay o (record { out = p; begun = true; first = first }) (record { name = k; meaning = m (flags o) } ∷ left) full →
    o₁ ≡ begun_field first k p → o₂ ≡ wrote o₁ (m (flags o₁)) → o₃ ≡ ended_field o₂ →
    IsStructUnderWay o (record { out = o₃; begun = true; first = false }) left full
field_by_steps {o} {full} {first} {p} {o₁} {o₂} {o₃} k m u a b c =
    let out_of : Out → OpenStruct = λ q. record { out = q; begun = true; first = false } in
    field_written k m u (ap out_of (c ∙ ap ended_field (b ∙ ap (λ (q : Out). wrote q (m (flags q))) a)))

pub begin_field_refused : {o full : Out} {first : Bool} {p n : Out} {left : List Field} (k : List ℕ) (m : Flags → Meaning) →
    IsStructUnderWay o (record { out = p; begun = true; first = first }) (record { name = k; meaning = m (flags o) } ∷ left) full →
    IsCutShort p n (begun_field first k p) → IsCutShort o n full
begin_field_refused {o} {full} {first} {p} k m u h = field_refused k m u (cut_short_before (Grows-field first k p (m (flags p))) h)

pub value_refused : {o full : Out} {first : Bool} {p o₁ n : Out} {left : List Field} (k : List ℕ) (m : Flags → Meaning) →
    IsStructUnderWay o (record { out = p; begun = true; first = first }) (record { name = k; meaning = m (flags o) } ∷ left) full →
    o₁ ≡ begun_field first k p → IsCutShort o₁ n (wrote o₁ (m (flags o₁))) → IsCutShort o n full
value_refused {o} {full} {first} {p} {o₁} {n} k m u a h =
    let b = begun_field first k p in
    let at : IsCutShort b n (wrote b (m (flags b))) = rw a at h in
    field_refused k m u (cut_short_after (Grows-begun_field first k p) (cut_short_before (Grows-ended_field (wrote b (m (flags b)))) at))
