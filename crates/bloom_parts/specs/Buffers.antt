-- A buffer of eight bytes, which holds fewer bytes of a hasher. That zeros follow them is the
-- project's own choice.
use Rattle.std.specs.Prelude.{◌≡◌, ℕ, ◌-◌, ◌%◌, ◌<◌, List, ◌++◌, length, slice_index, take, replicate}

-- the items are bytes
abbrev pub AreBytes : List ℕ → Type 0
AreBytes items = (i : ℕ) → slice_index items i < 256

-- a buffer with these bytes, and zeros behind them
abbrev pub padded : List ℕ → List ℕ
padded bytes = bytes ++ replicate (8 - length bytes) 0

-- the bytes of a buffer that count, where this many have been taken in
abbrev pub held_in : List ℕ → ℕ → List ℕ
held_in buffer count = take (count % 8) buffer

-- the buffer is the bytes that count, and zeros
abbrev pub IsPadded : List ℕ → ℕ → Type 0
IsPadded buffer count = buffer ≡ padded (held_in buffer count)

-- what a hasher keeps of its bytes: a buffer, and how many were taken in, modulo 256
pub record IsKept (buffer : List ℕ) (count : ℕ) : Type 0 where
  pub padding : IsPadded buffer count
  pub small : count < 256
