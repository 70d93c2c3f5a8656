use Rattle.std.proofs.Common.{◌≡◌, ◌≤◌, ◌+◌, ℕ, zero, suc, List, [], ◌∷◌, ◌++◌, Some, None, String, length, map, refl, slice_get, string_bytes, sym, take, ap, ◌∙◌, arith, rules}
use Rattle.std.proofs.lemmas.List.{take_all}
use Rattle.name_map.specs.Undoing.{OldName, old_name}
use Rattle.name_map.proofs.naming.texts.Goals.{else-loop-i-test, then-loop-i-test+in_default}
use Rattle.name_map.proofs.naming.texts.Goals as goal

one_more : (i : ℕ) → suc i ≡ i + 1
one_more i = omega arith

map_push : {X Y : Type 0} (f : X → Y) (xs : List X) (x : X) → map f (xs ++ x ∷ []) ≡ map f xs ++ f x ∷ []
map_push f [] x = refl
map_push f (y ∷ ys) x = ap (λ zs. f y ∷ zs) (map_push f ys x)

taken_more : (os : List OldName) (i : ℕ) (o : OldName) → Some o ≡ slice_get os i → map (λ (p : OldName). p.name) (take (suc i) os) ≡ map (λ (p : OldName). p.name) (take i os) ++ o.name ∷ []
taken_more [] i o e = absurd (cc)
taken_more (p ∷ os) zero o e = let same : o ≡ p = cc in ap (λ (q : OldName). q.name ∷ []) (sym same)
taken_more (p ∷ os) (suc i) o e = ap (λ zs. p.name ∷ zs) (taken_more os i o e)

next : {Z : Type 0} (os : List OldName) (ss : List (String Z)) (s : String Z) (i : ℕ) (o : OldName) → map string_bytes ss ≡ map (λ (p : OldName). p.name) (take i os) → Some o ≡ slice_get os i
    → string_bytes s ≡ o.name → map string_bytes (ss ++ s ∷ []) ≡ map (λ (p : OldName). p.name) (take (i + 1) os)
next os ss s i o e f g =
    map_push string_bytes ss s ∙ ap (λ zs. zs ++ string_bytes s ∷ []) e ∙ ap (λ x. map (λ (p : OldName). p.name) (take i os) ++ x ∷ []) g
    ∙ sym (taken_more os i o f) ∙ ap (λ j. map (λ (p : OldName). p.name) (take j os)) (one_more i)

none_past : (os : List OldName) (i : ℕ) → None ≡ slice_get os i → length os ≤ i
none_past [] i e = omega arith
none_past (p ∷ os) zero e = absurd (cc)
none_past (p ∷ os) (suc i) e = let l = none_past os i e in omega (arith, l)

pub loop-i-preserved : goal.loop-i-preserved
loop-i-preserved c =
    let pushed : c.push.new.self.items ≡ c.loop-i.texts.items ++ c.in_ok-from_str.field-0 ∷ [] = search rules in
    let same : string_bytes c.in_ok-from_str.field-0 ≡ c.in-Some.name.now = search rules in
    rw pushed (next c.args.names.now c.loop-i.texts.items c.in_ok-from_str.field-0 c.loop-i.i (old_name c.in-Some.field-0-0 c.in-Some.name.now) c.loop-i.invariant c.in-Some.ensures same)

pub returns : goal.returns
returns c = elim c.loop-i-test.branch [
  | else-loop-i-test w ↦
      let over : length c.args.names.now ≤ c.loop-i.i = rw (← c.len-i-end.ensures.len) w.loop-i-test.false in
      c.loop-i.invariant ∙ ap (map (λ (p : OldName). p.name)) (take_all c.loop-i.i c.args.names.now over)
  | then-loop-i-test+in_default w ↦
      c.loop-i.invariant ∙ ap (map (λ (p : OldName). p.name)) (take_all c.loop-i.i c.args.names.now (none_past c.args.names.now c.loop-i.i w.in_default.ensures))
]
