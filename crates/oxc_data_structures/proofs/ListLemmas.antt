-- The last element of a list.
use Rattle.std.proofs.Common.{◌≡◌, ℕ, ◌-◌, ◌<◌, List, [], ◌∷◌, ◌++◌, length, get_or, set, Option, Some, None, refl, sym, ap, arith}
use Rattle.std.proofs.lemmas.List.{length-append, get_or_at, set_at}
use Rattle.std.proofs.lemmas.Option.{slice_get_read}
use Rattle.std.specs.Borrow.{MutBor}
use Rattle.std.specs.Option.{option_copied_mut}
use Rattle.std.specs.Prelude.{slice_get, IfSome, IsSome}

module _ {X : Type 0} where
  -- the first element of the second list is at the first one's length
  pub slice_get-append_seam : (xs ys : List X) (y : X) → slice_get (xs ++ y ∷ ys) (length xs) ≡ Some y
  slice_get-append_seam [] ys y = refl
  slice_get-append_seam (x ∷ xs) ys y = slice_get-append_seam xs ys y

  pub length-push-one : (xs : List X) (x : X) → length (xs ++ x ∷ []) - 1 ≡ length xs
  length-push-one xs x = omega (arith, length-append xs (x ∷ []))

  pub slice_get-last : (xs : List X) (x : X) → slice_get (xs ++ x ∷ []) (length (xs ++ x ∷ []) - 1) ≡ Some x
  slice_get-last xs x = rw (length-push-one xs x) (slice_get-append_seam xs [] x)

  pub get_or-last : (xs : List X) (x d : X) → get_or (xs ++ x ∷ []) (length (xs ++ x ∷ []) - 1) d ≡ x
  get_or-last xs x d = get_or_at xs x [] d (length (xs ++ x ∷ []) - 1) (sym (length-push-one xs x))

  pub get_or-at_last : (front : List X) (last d : X) (xs : List X) → xs ≡ front ++ last ∷ [] → get_or xs (length xs - 1) d ≡ last
  get_or-at_last front last d xs e = rw e (get_or-last front last d)

  pub set-last : (xs : List X) (x y : X) → set (xs ++ x ∷ []) (length (xs ++ x ∷ []) - 1) y ≡ xs ++ y ∷ []
  set-last xs x y = rw (length-push-one xs x) (set_at xs x [] y (length xs) refl)

  last_of : (x : X) (xs : List X) → (front : List X) × (last : X) × (x ∷ xs ≡ front ++ last ∷ [])
  last_of x [] = ([], x, refl)
  last_of x (y ∷ ys) = let r = last_of y ys in (x ∷ r.0, r.1, ap (λ es. x ∷ es) r.2)

  -- a list that is not empty has a last element
  pub split_last : (xs : List X) → 0 < length xs → (front : List X) × (last : X) × (xs ≡ front ++ last ∷ [])
  split_last [] some = absurd (omega arith)
  split_last (x ∷ xs) some = last_of x xs

  -- what a reference to the last element reads
  pub option_copied_mut-last : (xs : List X) (r : Option (MutBor X)) (n : ℕ) → n ≡ length xs → 0 < length xs → IsSome r
      → IfSome r (λ x. x.now ≡ get_or xs (n - 1) x.now) → option_copied_mut r ≡ slice_get xs (length xs - 1)
  option_copied_mut-last xs None n len some is_some reads = absurd (cc)
  option_copied_mut-last xs (Some x) n len some is_some reads =
      sym (slice_get_read xs (length xs) (length xs - 1) x.now refl (omega arith)
      (rw len at reads))
