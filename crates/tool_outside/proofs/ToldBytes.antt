-- What becomes, over several calls, of the bytes that a source or a sink tells.
use Rattle.std.proofs.Common.{◌≡◌, ℕ, ◌+◌, ◌-◌, List, ◌++◌, [], Option, Some, None, IfSome, length, length-append, take, drop, sym, ap, ◌∙◌, subst, arith}
use Rattle.std.proofs.KnownBytes.{Appends-trans}
use Rattle.std.proofs.lemmas.List.{take_rest}
use Rattle.std.proofs.Math.Seq.{take-add, drop-append_seam}
use Rattle.std.specs.Io.KnownBytes.{Appends, Consumes, IsAtEnd}
use Rattle.tool_outside.specs.Source.{LosesFront}

-- the first n bytes were written, and then the first m of the others
pub appends_take_more : (a b c : Option (List ℕ)) (bs : List ℕ) (n m : ℕ)
    → Appends a b (take n bs) → Appends b c (take m (take (length bs - n) (drop n bs)))
    → Appends a c (take (n + m) bs)
appends_take_more a b c bs n m first more =
    subst (Appends a c) (sym (take-add n m bs))
    (Appends-trans a b c _ _ first (rw (take_rest bs n) at more))

-- where the n bytes of bs were read, all but the first n are left
pub consumed_bytes_are_lost : (a b : Option (List ℕ)) (bs : List ℕ) (n : ℕ)
    → Consumes a b bs → n ≡ length bs → IfSome a (LosesFront b n)
consumed_bytes_are_lost None b bs n p e = tt
consumed_bytes_are_lost (Some xs) None bs n p e = absurd p
consumed_bytes_are_lost (Some xs) (Some ys) bs n p e = (
  omega (arith, ap length p, length-append bs ys),
  ap Some (sym (ap (drop n) p ∙ ap (λ k. drop k (bs ++ ys)) e ∙ drop-append_seam bs ys)),
)

-- of a source that told its bytes nothing is left at its end
pub nothing_is_left : (a b : Option (List ℕ)) (n : ℕ) → IfSome a (LosesFront b n) → IsAtEnd b → IfSome a (λ _. b ≡ Some [])
nothing_is_left None b n p e = tt
nothing_is_left (Some xs) None n p e = cc
nothing_is_left (Some xs) (Some ys) n p e = ap Some e

-- where no byte was given none is lost
pub nothing_lost : (a : Option (List ℕ)) (n : ℕ) → IfSome a (LosesFront a (n - n))
nothing_lost None n = tt
nothing_lost (Some xs) n = let none : n - n ≡ 0 = omega arith in (omega arith, ap Some (sym (ap (λ k. drop k xs) none)))
