-- What an `Ident` is to a contract: a text, as bytes of UTF-8, and a stored hash.
use Rattle.std.specs.Borrow.{Bor}
use Rattle.std.specs.Prelude.{◌≡◌, ℕ, List}
use Rattle.oxc_str.specs.declared.ident.Ident.{Ident}
use Rattle.oxc_str.specs.declared.ident_hasher.IdentHasher.{IdentHasher}
use Rattle.oxc_str.specs.IdentHash.{ident_hash}

-- the text, and where it lies
abbrev pub ident_text_at : Ident → Bor (List ℕ)
ident_text_at i = i.text

abbrev pub ident_text : Ident → List ℕ
ident_text i = i.text.now

abbrev pub stored_hash : Ident → ℕ
stored_hash i = i.hash

-- the hash is that of the text
abbrev pub IsHashed : Ident → Type 0
IsHashed i = stored_hash i ≡ ident_hash (ident_text i)

-- no hash is stored
abbrev pub IsUnhashed : Ident → Type 0
IsUnhashed i = stored_hash i ≡ 0

-- the state of a hasher
abbrev pub hasher_state : IdentHasher → ℕ
hasher_state h = h.state
