-- Answers as one number of 64 bits: from the highest byte on, one byte of refusal, one of outcome, two of count and four of length.
use Rattle.std.specs.Prelude.{ℕ, ◌+◌, ◌*◌, ◌/◌, ◌%◌, ◌<◌, ◌≡◌}
use Rattle.answers.specs.Numbers.{Numbers}

-- refusal * 2^56 + outcome * 2^48 + count * 2^32 + length
abbrev pub packed : Numbers → ℕ
packed n = n.refusal * 72057594037927936 + n.outcome * 281474976710656 + n.count * 4294967296 + n.length

-- count and length modulo the room of their places, for any answer whatever: what the services answer has room as it is (engine/proofs/Placed.antt)
abbrev pub wrapped : Numbers → Numbers
wrapped n = record { refusal = n.refusal; outcome = n.outcome; count = n.count % 65536; length = n.length % 4294967296 }

-- every number has room in its place
pub record Placed (n : Numbers) : Type 0 where
  pub refusal : n.refusal < 256
  pub outcome : n.outcome < 256
  pub count : n.count < 65536
  pub length : n.length < 4294967296

-- a number of 64 bits says these numbers: it is packed from them, and they are recovered from it
pub record Says (n : Numbers) (r : ℕ) : Type 0 where
  pub packs : r ≡ packed n
  pub refusal : r / 72057594037927936 ≡ n.refusal
  pub outcome : r / 281474976710656 % 256 ≡ n.outcome
  pub count : r / 4294967296 % 65536 ≡ n.count
  pub length : r % 4294967296 ≡ n.length
