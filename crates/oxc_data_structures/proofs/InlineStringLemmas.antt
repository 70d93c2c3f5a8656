-- What the changes of an `InlineString` do to the bytes that it keeps.
use Rattle.std.proofs.Common.{ℕ, ◌+◌, ◌-◌, ◌<◌, ◌≤◌, List, ◌++◌, length, set, take, replicate, refl, sym, ap, ◌∙◌, arith}
use Rattle.std.proofs.lemmas.List.{length-set, length-append, length-replicate, take_at, drop_at, drop-drop, take_more_set, drop-set-lt, drop-replicate}
use Rattle.std.proofs.Math.Seq.{take-set-lt}
use Rattle.std.proofs.lemmas.Str.Ascii.{IsAscii-push, IsAscii-set}
use Rattle.std.specs.Str.{IsAscii}
use Rattle.oxc_data_structures.specs.InlineString.{IsTextOf}

-- a text with zeros behind it
pub IsTextOf-padded : (capacity : ℕ) (text : List ℕ) → length text ≤ capacity → IsAscii text
    → IsTextOf capacity (text ++ replicate (capacity - length text) 0) (length text)
IsTextOf-padded capacity text fits ascii = record {
  fits = fits;
  size = grind (arith, length-append, length-replicate);
  padding = drop_at text (replicate (capacity - length text) 0) (length text) refl;
  ascii = rw (take_at text (replicate (capacity - length text) 0) (length text) refl) ascii;
}

-- a byte put behind the text makes it longer by that byte
pub IsTextOf-push : (capacity : ℕ) (bytes : List ℕ) (n byte : ℕ) → IsTextOf capacity bytes n → n < capacity
    → byte < 128 → IsTextOf capacity (set bytes n byte) (n + 1)
IsTextOf-push capacity bytes n byte h room below = record {
  fits = omega arith;
  size = simp length-set h.size;
  padding =
      drop-set-lt (n + 1) bytes n byte (omega arith) ∙ sym (drop-drop 1 n bytes)
      ∙ (rw (h.padding, drop-replicate {X = ℕ} 1 (capacity - n) 0) (ap (λ k. replicate k 0) (omega arith)));
  ascii =
      rw (take_more_set bytes n byte (omega (arith, h.size)))
      (IsAscii-push (take n bytes) byte h.ascii below);
}

-- another ASCII byte in place of one of the text
pub IsTextOf-set : (capacity : ℕ) (bytes : List ℕ) (n index byte : ℕ) → IsTextOf capacity bytes n → index < n
    → byte < 128 → IsTextOf capacity (set bytes index byte) n
IsTextOf-set capacity bytes n index byte h within below = record {
  fits = h.fits;
  size = simp length-set h.size;
  padding = rw (drop-set-lt n bytes index byte within) h.padding;
  ascii =
      rw (take-set-lt n bytes index byte within) (IsAscii-set (take n bytes) index byte h.ascii below);
}
