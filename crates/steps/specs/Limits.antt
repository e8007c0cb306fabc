-- What the passes over a book's index rest on.
use Rattle.std.specs.Prelude.{ℕ, ◌≡◌, false, List, length, take}
use Rattle.book.specs.Decode.{scopes_of}
use Rattle.book.specs.References.{dangles}
use Rattle.book.specs.Sharing.{shares}
use Rattle.book.specs.Scopes.{blocks}

-- a book in which no number dangles, and no node is named twice
pub record WellNamed (bytes : List ℕ) : Type 0 where
  pub sound : dangles (scopes_of bytes) ≡ false
  pub single : shares (scopes_of bytes) ≡ false

-- no number dangles, and `order` begins with the blocks of all scopes
pub record WholeOrder (bytes order : List ℕ) (scopes : ℕ) : Type 0 where
  pub sound : dangles (scopes_of bytes) ≡ false
  pub is : take scopes order ≡ blocks (scopes_of bytes)
  pub all : length (blocks (scopes_of bytes)) ≡ scopes
