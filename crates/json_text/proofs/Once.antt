-- A text reads as at most one value.
use Rattle.std.proofs.Common.{◌≡◌, ℕ, ◌≤◌, ◌<◌, List, [], ◌∷◌, ◌++◌, Bool, true, false, subst, sym, ap, ◌∙◌, refl, append_assoc, arith, codes, ◌⊎◌, ⊎_elim, inl, inr, ◌≢◌, pos, negsuc}
use Rattle.json_text.specs.Json.{Json, null, truth, whole, other_number, string, list, object, Items, no_items, item, Members, no_members, member}
use Rattle.json_text.specs.Grammar.{ReadsValue, ReadsItems, ReadsMembers, ReadsOnce, IsSpace, IsBefore, IsWhole, IsOtherNumber, IsBroken}
use Rattle.json_text.proofs.Spaces.{NotSpace, skip, not_space, skip_before, skip_colon}
use Rattle.json_text.proofs.Numbers.{Ends, run, whole_bytes, other_bytes, same_whole, not_both, int_digits, broken_starts}
use Rattle.json_text.proofs.Strings.{same_string}

-- the first byte of a value
abbrev Starts : Json → ℕ → Type 0
Starts null c = c ≡ 110
Starts (truth b) c = (c ≡ 116) ⊎ (c ≡ 102)
Starts (whole n) c = (45 ≤ c) × (c < 58)
Starts other_number c = (45 ≤ c) × (c < 58)
Starts (string us) c = c ≡ 34
Starts (list xs) c = c ≡ 91
Starts (object ms) c = c ≡ 123

abbrev SameKind : Json → Json → Type 0
SameKind null null = Unit {0}
SameKind (truth a) (truth b) = Unit {0}
SameKind (whole m) (whole n) = Unit {0}
SameKind (whole m) other_number = Unit {0}
SameKind other_number (whole n) = Unit {0}
SameKind other_number other_number = Unit {0}
SameKind (string us) (string vs) = Unit {0}
SameKind (list xs) (list ys) = Unit {0}
SameKind (object ms) (object ns) = Unit {0}
SameKind _ _ = ⊥

same_kind : (v w : Json) (c : ℕ) → Starts v c → Starts w c → SameKind v w
same_kind null null c s t = tt
same_kind (truth a) (truth b) c s t = tt
same_kind (whole m) (whole n) c s t = tt
same_kind (whole m) other_number c s t = tt
same_kind other_number (whole n) c s t = tt
same_kind other_number other_number c s t = tt
same_kind (string us) (string vs) c s t = tt
same_kind (list xs) (list ys) c s t = tt
same_kind (object ms) (object ns) c s t = tt
same_kind _ _ c s t = absurd (omega arith)

starts : (v : Json) (a : List ℕ) → ReadsValue a v → (c : ℕ) × (cs : List ℕ) × (a ≡ c ∷ cs) × Starts v c
starts null a p = (110, 117 ∷ 108 ∷ 108 ∷ [], p, refl)
starts (truth true) a p = (116, 114 ∷ 117 ∷ 101 ∷ [], p, inl refl)
starts (truth false) a p = (102, 97 ∷ 108 ∷ 115 ∷ 101 ∷ [], p, inr refl)
starts (whole (pos n)) [] p = absurd p.0
starts (whole (pos n)) (c ∷ cs) p = let d = int_digits (c ∷ cs) p.0 in (c, cs, refl, (omega arith, omega arith))
starts (whole (negsuc n)) [] p = absurd p
starts (whole (negsuc n)) (c ∷ cs) p = (c, cs, refl, (omega arith, omega arith))
starts other_number a p = ⊎_elim
    (λ (e : a ≡ codes "-0"). (45, 48 ∷ [], e, (omega arith, omega arith)))
    (⊎_elim (λ (b : IsBroken a). let s = broken_starts a b in (s.0, s.1, s.2, (omega arith, omega arith)))
    (λ (u : (u : List ℕ) × (a ≡ 45 ∷ u) × IsBroken u). (45, u.0, u.1, (omega arith, omega arith)))) p
starts (string us) a p = (34, _, p.1, refl)
starts (list xs) a p = (91, p.0, p.1, refl)
starts (object ms) a p = (123, p.0, p.1, refl)

-- it is no white space, and nothing that stands after a value
abbrev IsLater : ℕ → Type 0
IsLater k = (k ≡ 93) ⊎ ((k ≡ 44) ⊎ (k ≡ 125))

starts_big : (v : Json) (c : ℕ) → Starts v c → 32 < c
starts_big null c s = omega arith
starts_big (truth b) c s = ⊎_elim (λ (e : c ≡ 116). omega arith) (λ (e : c ≡ 102). omega arith) s
starts_big (whole n) c s = omega arith
starts_big other_number c s = omega arith
starts_big (string us) c s = omega arith
starts_big (list xs) c s = omega arith
starts_big (object ms) c s = omega arith

starts_other : (v : Json) (c k : ℕ) → Starts v c → (k ≡ 93) ⊎ (k ≡ 125) → c ≢ k
starts_other null c k s m = grind arith
starts_other (truth b) c k s m = grind arith
starts_other (whole n) c k s m = grind arith
starts_other other_number c k s m = grind arith
starts_other (string us) c k s m = grind arith
starts_other (list xs) c k s m = grind arith
starts_other (object ms) c k s m = grind arith

join : (a b c d x y : List ℕ) → a ≡ c → b ≡ d → a ++ x ≡ b ++ y → c ++ x ≡ d ++ y
join a b c d x y p q e = sym (ap (λ (u : List ℕ). u ++ x) p) ∙ e ∙ ap (λ (u : List ℕ). u ++ y) q

value_not_space : (v : Json) (a x : List ℕ) → ReadsValue a v → NotSpace (a ++ x)
value_not_space v a x p = let s = starts v a p in
    subst NotSpace (sym (ap (λ (u : List ℕ). u ++ x) s.2)) (not_space s.0 (s.1 ++ x) (starts_big v s.0 s.3))

kinds : (v w : Json) (a b x y : List ℕ) → ReadsValue a v → ReadsValue b w → a ++ x ≡ b ++ y → SameKind v w
kinds v w a b x y p q e =
    let s = starts v a p in
    let t = starts w b q in
    let f : s.0 ∷ (s.1 ++ x) ≡ t.0 ∷ (t.1 ++ y) = join a b (s.0 ∷ s.1) (t.0 ∷ t.1) x y s.2 t.2 e in
    let g : s.0 ≡ t.0 = cc in
    same_kind v w t.0 (subst (Starts v) g s.3) t.3

ends_after : (w : List ℕ) (k : ℕ) (z : List ℕ) → IsSpace w → IsLater k → Ends (w ++ k ∷ z)
ends_after [] k z p m = λ b. grind arith
ends_after (c ∷ w) k z p m = λ b. let s = p.0 in grind arith

pub append_assoc_three : (w a b x : List ℕ) → (w ++ (a ++ b)) ++ x ≡ w ++ (a ++ (b ++ x))
append_assoc_three w a b x = simp append_assoc

append_assoc_five : (w s c a b x : List ℕ) → (w ++ (s ++ (c ++ (a ++ b)))) ++ x ≡ w ++ (s ++ (c ++ (a ++ (b ++ x))))
append_assoc_five w s c a b x = simp append_assoc

-- a later element, or the end, goes on with no byte of a number
ends_comma : (w z : List ℕ) → IsBefore false w → Ends (w ++ z)
ends_comma w z (a, b, e, p, q) = subst Ends (sym (ap (λ (u : List ℕ). u ++ z) e ∙ append_assoc a (44 ∷ b) z)) (ends_after a 44 (b ++ z) p (inr (inl refl)))

ends_items : (xs : Items) (t x : List ℕ) → ReadsItems false t xs → Ends (t ++ x)
ends_items no_items t x (w, e, p) = subst Ends (sym (ap (λ (u : List ℕ). u ++ x) e ∙ append_assoc w (93 ∷ []) x)) (ends_after w 93 x p (inl refl))
ends_items (item v xs) t x (w, a, b, e, before, ra, ri) =
    subst Ends (sym (ap (λ (u : List ℕ). u ++ x) e ∙ append_assoc w (a ++ b) x)) (ends_comma w ((a ++ b) ++ x) before)

ends_members : (ms : Members) (t x : List ℕ) → ReadsMembers false t ms → Ends (t ++ x)
ends_members no_members t x (w, e, p) = subst Ends (sym (ap (λ (u : List ℕ). u ++ x) e ∙ append_assoc w (125 ∷ []) x)) (ends_after w 125 x p (inr (inr refl)))
ends_members (member k v ms) t x (w, s, c, a, b, e, before, str, colon, ra, rm) =
    subst Ends (sym (ap (λ (u : List ℕ). u ++ x) e ∙ append_assoc w (s ++ (c ++ (a ++ b))) x)) (ends_comma w ((s ++ (c ++ (a ++ b))) ++ x) before)

-- an end is no element
end_or_more : (k c : ℕ) (cs : List ℕ) (f : Bool) (w z v s : List ℕ) → (k ≡ 93) ⊎ (k ≡ 125) → IsSpace w → IsBefore f v →
    s ≡ c ∷ cs → 32 < c → c ≢ k → w ++ k ∷ z ≡ v ++ s → ⊥
end_or_more k c cs true w z v s m p q same big ne e =
    let h = skip w v (k ∷ z) s p q e (not_space k z (grind arith)) (subst NotSpace (sym same) (not_space c cs big)) in
    let g : k ∷ z ≡ c ∷ cs = h ∙ same in
    let i : c ≡ k = cc in
    ne i
end_or_more k c cs false w z v s m p (a, b, e44, qa, qb) same big ne e =
    let f : w ++ k ∷ z ≡ a ++ 44 ∷ (b ++ s) = e ∙ ap (λ (u : List ℕ). u ++ s) e44 ∙ append_assoc a (44 ∷ b) s in
    let h = skip w a (k ∷ z) (44 ∷ (b ++ s)) p qa f (not_space k z (grind arith)) (not_space 44 (b ++ s) (omega arith)) in
    let i : k ≡ 44 = cc in
    grind arith

first_byte : (c d : ℕ) (x y : List ℕ) → c ∷ x ≡ d ∷ y → c ≡ d
first_byte c d x y e = cc

quote_no_end : ◌≢◌ {A = ℕ} 34 125
quote_no_end = λ e. omega arith

mutual
  same_value : (v w : Json) (a b x y : List ℕ) → ReadsValue a v → ReadsValue b w → a ++ x ≡ b ++ y → Ends x → Ends y → (v ≡ w) × (x ≡ y)
  same_value null null a b x y p q e k l =
      let f : 110 ∷ 117 ∷ 108 ∷ 108 ∷ x ≡ 110 ∷ 117 ∷ 108 ∷ 108 ∷ y = join a b (codes "null") (codes "null") x y p q e in
      let g : x ≡ y = cc in
      (refl, g)
  same_value (truth true) (truth true) a b x y p q e k l =
      let f : 116 ∷ 114 ∷ 117 ∷ 101 ∷ x ≡ 116 ∷ 114 ∷ 117 ∷ 101 ∷ y = join a b (codes "true") (codes "true") x y p q e in
      let g : x ≡ y = cc in
      (refl, g)
  same_value (truth false) (truth false) a b x y p q e k l =
      let f : 102 ∷ 97 ∷ 108 ∷ 115 ∷ 101 ∷ x ≡ 102 ∷ 97 ∷ 108 ∷ 115 ∷ 101 ∷ y = join a b (codes "false") (codes "false") x y p q e in
      let g : x ≡ y = cc in
      (refl, g)
  same_value (truth true) (truth false) a b x y p q e k l =
      let f : 116 ∷ 114 ∷ 117 ∷ 101 ∷ x ≡ 102 ∷ 97 ∷ 108 ∷ 115 ∷ 101 ∷ y = join a b (codes "true") (codes "false") x y p q e in
      let g = first_byte 116 102 _ _ f in
      absurd (omega arith)
  same_value (truth false) (truth true) a b x y p q e k l =
      let f : 102 ∷ 97 ∷ 108 ∷ 115 ∷ 101 ∷ x ≡ 116 ∷ 114 ∷ 117 ∷ 101 ∷ y = join a b (codes "false") (codes "true") x y p q e in
      let g = first_byte 102 116 _ _ f in
      absurd (omega arith)
  same_value (whole m) (whole n) a b x y p q e k l =
      let r = run a b x y (whole_bytes a m p) (whole_bytes b n q) e k l in
      (ap whole (same_whole b m n (subst (λ (t : List ℕ). IsWhole t m) r.0 p) q), r.1)
  same_value (whole m) other_number a b x y p q e k l =
      let r = run a b x y (whole_bytes a m p) (other_bytes b q) e k l in
      absurd (not_both b m (subst (λ (t : List ℕ). IsWhole t m) r.0 p) q)
  same_value other_number (whole n) a b x y p q e k l =
      let r = run a b x y (other_bytes a p) (whole_bytes b n q) e k l in
      absurd (not_both b n q (subst IsOtherNumber r.0 p))
  same_value other_number other_number a b x y p q e k l =
      let r = run a b x y (other_bytes a p) (other_bytes b q) e k l in
      (refl, r.1)
  same_value (string us) (string vs) a b x y p q e k l =
      let r = same_string a b x y us vs p q e in
      (ap string r.0, r.1)
  same_value (list xs) (list ys) a b x y (c, p, pr) (d, q, qr) e k l =
      let f : 91 ∷ (c ++ x) ≡ 91 ∷ (d ++ y) = join a b (91 ∷ c) (91 ∷ d) x y p q e in
      let g : c ++ x ≡ d ++ y = cc in
      let r = same_items xs ys true c d x y pr qr g in
      (ap list r.0, r.1)
  same_value (object ms) (object ns) a b x y (c, p, pr) (d, q, qr) e k l =
      let f : 123 ∷ (c ++ x) ≡ 123 ∷ (d ++ y) = join a b (123 ∷ c) (123 ∷ d) x y p q e in
      let g : c ++ x ≡ d ++ y = cc in
      let r = same_members ms ns true c d x y pr qr g in
      (ap object r.0, r.1)
  same_value v w a b x y p q e k l = absurd (kinds v w a b x y p q e)

  same_items : (xs ys : Items) (f : Bool) (a b x y : List ℕ) → ReadsItems f a xs → ReadsItems f b ys → a ++ x ≡ b ++ y → (xs ≡ ys) × (x ≡ y)
  same_items no_items no_items f a b x y (w, p, sp) (v, q, sq) e =
      let g : w ++ 93 ∷ x ≡ v ++ 93 ∷ y = sym (append_assoc w (93 ∷ []) x) ∙ join a b _ _ x y p q e ∙ append_assoc v (93 ∷ []) y in
      let h = skip w v (93 ∷ x) (93 ∷ y) sp sq g (not_space 93 x (omega arith)) (not_space 93 y (omega arith)) in
      let i : x ≡ y = cc in
      (refl, i)
  same_items no_items (item u ys) f a b x y (w, p, sp) (v, c, d, q, before, ru, ri) e =
      let g : w ++ 93 ∷ x ≡ v ++ (c ++ (d ++ y)) = sym (append_assoc w (93 ∷ []) x) ∙ join a b _ _ x y p q e ∙ append_assoc_three v c d y in
      let s = starts u c ru in
      absurd (end_or_more 93 s.0 (s.1 ++ (d ++ y)) f w x v (c ++ (d ++ y)) (inl refl) sp before (ap (λ (t : List ℕ). t ++ (d ++ y)) s.2)
      (starts_big u s.0 s.3) (starts_other u s.0 93 s.3 (inl refl)) g)
  same_items (item u xs) no_items f a b x y (v, c, d, q, before, ru, ri) (w, p, sp) e =
      let g : w ++ 93 ∷ y ≡ v ++ (c ++ (d ++ x)) = sym (append_assoc w (93 ∷ []) y) ∙ join b a _ _ y x p q (sym e) ∙ append_assoc_three v c d x in
      let s = starts u c ru in
      absurd (end_or_more 93 s.0 (s.1 ++ (d ++ x)) f w y v (c ++ (d ++ x)) (inl refl) sp before (ap (λ (t : List ℕ). t ++ (d ++ x)) s.2)
      (starts_big u s.0 s.3) (starts_other u s.0 93 s.3 (inl refl)) g)
  same_items (item u xs) (item v ys) f a b x y (w1, a1, b1, p, before1, ru, ri) (w2, a2, b2, q, before2, rv, rj) e =
      let g : w1 ++ (a1 ++ (b1 ++ x)) ≡ w2 ++ (a2 ++ (b2 ++ y)) = sym (append_assoc_three w1 a1 b1 x) ∙ join a b _ _ x y p q e ∙ append_assoc_three w2 a2 b2 y in
      let h = skip_before f w1 w2 (a1 ++ (b1 ++ x)) (a2 ++ (b2 ++ y)) before1 before2 g (value_not_space u a1 (b1 ++ x) ru) (value_not_space v a2 (b2 ++ y) rv) in
      let r = same_value u v a1 a2 (b1 ++ x) (b2 ++ y) ru rv h (ends_items xs b1 x ri) (ends_items ys b2 y rj) in
      let t = same_items xs ys false b1 b2 x y ri rj r.1 in
      let r0 = r.0 in
      let t0 = t.0 in
      let i : item u xs ≡ item v ys = cc in
      (i, t.1)

  same_members : (ms ns : Members) (f : Bool) (a b x y : List ℕ) → ReadsMembers f a ms → ReadsMembers f b ns → a ++ x ≡ b ++ y → (ms ≡ ns) × (x ≡ y)
  same_members no_members no_members f a b x y (w, p, sp) (v, q, sq) e =
      let g : w ++ 125 ∷ x ≡ v ++ 125 ∷ y = sym (append_assoc w (125 ∷ []) x) ∙ join a b _ _ x y p q e ∙ append_assoc v (125 ∷ []) y in
      let h = skip w v (125 ∷ x) (125 ∷ y) sp sq g (not_space 125 x (omega arith)) (not_space 125 y (omega arith)) in
      let i : x ≡ y = cc in
      (refl, i)
  same_members no_members (member k u ns) f a b x y (w, p, sp) (v, s, c, d, d2, q, before, str, colon, ru, rm) e =
      let g : w ++ 125 ∷ x ≡ v ++ (s ++ (c ++ (d ++ (d2 ++ y)))) = sym (append_assoc w (125 ∷ []) x) ∙ join a b _ _ x y p q e ∙ append_assoc_five v s c d d2 y in
      absurd (end_or_more 125 34 _ f w x v (s ++ (c ++ (d ++ (d2 ++ y)))) (inr refl) sp before (ap (λ (t : List ℕ). t ++ (c ++ (d ++ (d2 ++ y)))) str.1)
      (omega arith) quote_no_end g)
  same_members (member k u ms) no_members f a b x y (v, s, c, d, d2, q, before, str, colon, ru, rm) (w, p, sp) e =
      let g : w ++ 125 ∷ y ≡ v ++ (s ++ (c ++ (d ++ (d2 ++ x)))) = sym (append_assoc w (125 ∷ []) y) ∙ join b a _ _ y x p q (sym e) ∙ append_assoc_five v s c d d2 x in
      absurd (end_or_more 125 34 _ f w y v (s ++ (c ++ (d ++ (d2 ++ x)))) (inr refl) sp before (ap (λ (t : List ℕ). t ++ (c ++ (d ++ (d2 ++ x)))) str.1)
      (omega arith) quote_no_end g)
  same_members (member j u ms) (member k v ns) f a b x y (w1, s1, c1, a1, b1, p, before1, str1, colon1, ru, ri) (w2, s2, c2, a2, b2, q, before2, str2, colon2, rv, rj) e =
      let g : w1 ++ (s1 ++ (c1 ++ (a1 ++ (b1 ++ x)))) ≡ w2 ++ (s2 ++ (c2 ++ (a2 ++ (b2 ++ y)))) =
      sym (append_assoc_five w1 s1 c1 a1 b1 x) ∙ join a b _ _ x y p q e ∙ append_assoc_five w2 s2 c2 a2 b2 y in
      let h = skip_before f w1 w2 _ _ before1 before2 g (value_not_space (string j) s1 (c1 ++ (a1 ++ (b1 ++ x))) str1) (value_not_space (string k) s2 (c2 ++ (a2 ++ (b2 ++ y))) str2) in
      let o = same_string s1 s2 (c1 ++ (a1 ++ (b1 ++ x))) (c2 ++ (a2 ++ (b2 ++ y))) j k str1 str2 h in
      let m = skip_colon c1 c2 _ _ colon1 colon2 o.1 (value_not_space u a1 (b1 ++ x) ru) (value_not_space v a2 (b2 ++ y) rv) in
      let r = same_value u v a1 a2 (b1 ++ x) (b2 ++ y) ru rv m (ends_members ms b1 x ri) (ends_members ns b2 y rj) in
      let t = same_members ms ns false b1 b2 x y ri rj r.1 in
      let o0 = o.0 in
      let r0 = r.0 in
      let t0 = t.0 in
      let i : member j u ms ≡ member k v ns = cc in
      (i, t.1)

ends_space : (w : List ℕ) → IsSpace w → Ends w
ends_space [] p = tt
ends_space (c ∷ w) p = λ b. let s = p.0 in grind arith

pub reads_once : ReadsOnce
reads_once t v w (w1, a1, z1, p, sp1, r1, sz1) (w2, a2, z2, q, sp2, r2, sz2) =
    let g : w1 ++ (a1 ++ z1) ≡ w2 ++ (a2 ++ z2) = sym p ∙ q in
    let h = skip w1 w2 (a1 ++ z1) (a2 ++ z2) sp1 sp2 g (value_not_space v a1 z1 r1) (value_not_space w a2 z2 r2) in
    (same_value v w a1 a2 z1 z2 r1 r2 h (ends_space z1 sz1) (ends_space z2 sz2)).0
