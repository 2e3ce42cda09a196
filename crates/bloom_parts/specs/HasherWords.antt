-- A hasher as eight words, which a caller keeps from one piece of a message to the next. Their
-- order is this project's choice.
use Rattle.std.specs.Prelude.{◌≡◌, ℕ, ◌%◌, List, [], ◌∷◌, length, fold}
use Rattle.std.specs.Int.{w64, from_le_bytes}
use Rattle.bloom_parts.specs.Buffers.{AreBytes}
use Rattle.bloom_parts.specs.Sip.{start, absorb, whole_words, rest}

-- the eight words of a hasher that has a key and has taken in some bytes: the key, the state after
-- the whole words, the bytes behind these as a little-endian number, and how many bytes there are,
-- modulo 256
abbrev pub words_after : ℕ → ℕ → List ℕ → List ℕ
words_after k0 k1 bytes =
    let state = fold absorb (start k0 k1) (whole_words bytes) in
    k0 ∷ k1 ∷ state.v0 ∷ state.v1 ∷ state.v2 ∷ state.v3
    ∷ from_le_bytes w64 (rest bytes) ∷ length bytes % 256 ∷ []

-- eight words are those of a hasher that has this key and has taken in just these bytes
pub record IsHashing (k0 k1 : ℕ) (bytes eight : List ℕ) : Type 0 where
  pub small : AreBytes bytes
  pub words : eight ≡ words_after k0 k1 bytes
