-- What `==` says of two values.
use Rattle.std.specs.Prelude.{◌≡◌, ◌↔◌, Bool, IsTrue}

-- a test that holds exactly where what the two values stand for is the same
abbrev pub ComparesBy : {T A : Type 0} → (T → A) → (T → T → Bool) → Type 0
ComparesBy {T} meaning test = (a b : T) → IsTrue (test a b) ↔ (meaning a ≡ meaning b)

-- a test that holds exactly where its two values are the same
abbrev pub DecidesEquality : {T : Type 0} → (T → T → Bool) → Type 0
DecidesEquality test = ComparesBy (λ x. x) test
