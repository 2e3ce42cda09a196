-- SipHash-1-3 of a whole list of bytes (J.-P. Aumasson and D. J. Bernstein, "SipHash: a fast
-- short-input PRF", 2012, section 2: initialization, compression by one round a word, finalization
-- by three rounds). A byte is a number below 256; the key is given by its two little-endian words.
use Rattle.std.specs.Prelude.{ℕ, ◌+◌, ◌*◌, ◌%◌, ◌^◌, List, [], ◌∷◌, ◌++◌, length, fold, bit_xor}
use Rattle.std.specs.Int.{w64, rotate_left, from_le_bytes}

-- the four words of the internal state
pub record Words : Type 0 where
  pub v0 : ℕ
  pub v1 : ℕ
  pub v2 : ℕ
  pub v3 : ℕ

-- a sum of words
abbrev pub plus : ℕ → ℕ → ℕ
plus x y = (x + y) % 2 ^ 64

-- initialization: the state before the first word
unfoldable pub start : ℕ → ℕ → Words
start k0 k1 = record {
  v0 = bit_xor k0 0x736f_6d65_7073_6575;
  v1 = bit_xor k1 0x646f_7261_6e64_6f6d;
  v2 = bit_xor k0 0x6c79_6765_6e65_7261;
  v3 = bit_xor k1 0x7465_6462_7974_6573;
}

-- SipRound: two sums, rotations and exclusive ors side by side, and again with the sides crossed
unfoldable pub round : Words → Words
round s =
    let a0 = plus s.v0 s.v1 in
    let a1 = bit_xor (rotate_left w64 s.v1 13) a0 in
    let a2 = plus s.v2 s.v3 in
    let a3 = bit_xor (rotate_left w64 s.v3 16) a2 in
    let b0 = plus (rotate_left w64 a0 32) a3 in
    let b2 = plus a2 a1 in
    record {
      v0 = b0;
      v1 = bit_xor (rotate_left w64 a1 17) b2;
      v2 = rotate_left w64 b2 32;
      v3 = bit_xor (rotate_left w64 a3 21) b0;
    }

-- compression: the state after a word of the message
unfoldable pub absorb : Words → ℕ → Words
absorb s word =
    let t = round (record s { v3 = bit_xor s.v3 word }) in
    record t { v0 = bit_xor t.v0 word }

-- finalization: the hash, from the state after the last word
unfoldable pub answer : Words → ℕ
answer s =
    let t = round (round (round (record s { v2 = bit_xor s.v2 0xff }))) in
    bit_xor (bit_xor (bit_xor t.v0 t.v1) t.v2) t.v3

-- a list split into little-endian words of eight bytes, as far as they are whole
unfoldable pub whole_words : List ℕ → List ℕ
whole_words (a ∷ b ∷ c ∷ d ∷ e ∷ f ∷ g ∷ h ∷ bytes) =
    from_le_bytes w64 (a ∷ b ∷ c ∷ d ∷ e ∷ f ∷ g ∷ h ∷ []) ∷ whole_words bytes
whole_words _ = []

-- the bytes behind the whole words, none to seven
unfoldable pub rest : List ℕ → List ℕ
rest (a ∷ b ∷ c ∷ d ∷ e ∷ f ∷ g ∷ h ∷ bytes) = rest bytes
rest bytes = bytes

-- the last word of a message: these bytes lowest, zeros, and the length modulo 256 as the top byte
abbrev pub last_word : List ℕ → ℕ → ℕ
last_word bytes count = from_le_bytes w64 bytes + count % 256 * 2 ^ 56

-- the words of a message, of which there is always a last one
abbrev pub message : List ℕ → List ℕ
message bytes = whole_words bytes ++ last_word (rest bytes) (length bytes) ∷ []

-- SipHash-1-3 of a message under a key
unfoldable pub sip : ℕ → ℕ → List ℕ → ℕ
sip k0 k1 bytes = answer (fold absorb (start k0 k1) (message bytes))
