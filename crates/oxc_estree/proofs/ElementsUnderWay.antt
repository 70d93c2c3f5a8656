-- Elements on the way into a list that stands open: what was written, and which are left.
use Rattle.std.proofs.Common.{◌≡◌, List, [], ◌∷◌, ap, ◌∙◌, refl, append-nil}
use Rattle.oxc_estree.specs.Out.{Out, Flags, flags, Meaning}
use Rattle.oxc_estree.specs.Open.{OpenList, add_element, add_elements}
use Rattle.oxc_estree.specs.Refused.{IsCutShort}
use Rattle.oxc_estree.proofs.Growth.{Grows, Grows-refl, Grows-trans, Grows-add_element, Grows-add_elements, flags_from, cut_short_after, cut_short_before}
use Rattle.oxc_estree.proofs.ListUnderWay.{IsListUnderWay, elements_written, elements_refused}

-- s was made of old, and makes full once it has the elements that are left
pub record AreElementsUnderWay (old s : OpenList) (left : List Meaning) (full : OpenList) : Type 0 where
  pub grown : Grows old.out s.out
  pub ends : add_elements s left ≡ full

pub elements_begin : (s : OpenList) (ms : List Meaning) → AreElementsUnderWay s s ms (add_elements s ms)
elements_begin s ms = record { grown = Grows-refl s.out; ends = refl }

pub element_next : {o s t full : OpenList} {left : List Meaning} (m : Flags → Meaning) →
    AreElementsUnderWay o s (m (flags o.out) ∷ left) full → t ≡ add_element s (m (flags s.out)) → AreElementsUnderWay o t left full
element_next {o} {s} m u e =
    let at = e ∙ ap (λ (f : Flags). add_element s (m f)) (flags_from u.grown.flags) in
    rw at (record { grown = Grows-trans u.grown (Grows-add_element s (m (flags o.out))); ends = u.ends })

pub element_cut_short : {o s full : OpenList} {left : List Meaning} {n : Out} (m : Flags → Meaning) →
    AreElementsUnderWay o s (m (flags o.out) ∷ left) full → IsCutShort s.out n (add_element s (m (flags s.out))).out → IsCutShort o.out n full.out
element_cut_short {o} {s} {full} {left} {n} m u h =
    let t = add_element s (m (flags o.out)) in
    let at : IsCutShort s.out n t.out = rw (flags_from u.grown.flags) at h in
    cut_short_after u.grown (cut_short_before (rw (← u.ends) (Grows-add_elements t left)) at)

-- ---- the last elements of a list, which another value writes

pub last_written : {o full : Out} {s t : OpenList} (ms : Flags → List Meaning) → IsListUnderWay o s (ms (flags o)) full →
    t ≡ add_elements s (ms (flags s.out)) → IsListUnderWay o t [] full
last_written {o} ms u e = elements_written ms (rw (← append-nil (ms (flags o))) at u) e

pub last_refused : {o full : Out} {s : OpenList} {n : Out} (ms : Flags → List Meaning) → IsListUnderWay o s (ms (flags o)) full →
    IsCutShort s.out n (add_elements s (ms (flags s.out))).out → IsCutShort o n full
last_refused {o} ms u h = elements_refused ms [] (rw (← append-nil (ms (flags o))) at u) h
