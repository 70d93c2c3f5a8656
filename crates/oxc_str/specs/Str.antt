-- What a `Str` is to a contract: a text, as bytes of UTF-8.
use Rattle.std.specs.Borrow.{Bor}
use Rattle.std.specs.Prelude.{ℕ, List}
use Rattle.oxc_str.specs.declared.str.Str.{Str}

-- the text, and where it lies
abbrev pub text_at : Str → Bor (List ℕ)
text_at s = s.text

-- the text
abbrev pub text_of : Str → List ℕ
text_of s = s.text.now
