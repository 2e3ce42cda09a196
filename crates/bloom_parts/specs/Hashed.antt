-- What contracts see of the hasher of SipHash-1-3, and how it stands to a key and to the bytes that
-- it has taken in. It keeps no history: this account of it is the project's own.
use Rattle.std.specs.Prelude.{◌≡◌, ℕ, ◌+◌, ◌%◌, List, ◌++◌, length, fold}
use Rattle.bloom_parts.specs.Sip.{Words, start, absorb, answer, whole_words, rest, last_word, sip}

-- a hasher: its key, its state, the bytes since the last whole word, and how many bytes it took in,
-- modulo 256
pub record SipState : Type 0 where
  pub low : ℕ
  pub high : ℕ
  pub words : Words
  pub held : List ℕ
  pub count : ℕ

-- the hasher after more bytes
unfoldable pub write : SipState → List ℕ → SipState
write h bytes = record h {
  words = fold absorb h.words (whole_words (h.held ++ bytes));
  held = rest (h.held ++ bytes);
  count = (h.count + length bytes) % 256;
}

-- what the hasher returns
unfoldable pub finish : SipState → ℕ
finish h = answer (absorb h.words (last_word h.held h.count))

-- the hasher has this key and has taken in just these bytes
pub record Hashed (h : SipState) (k0 k1 : ℕ) (bytes : List ℕ) : Type 0 where
  pub low : h.low ≡ k0
  pub high : h.high ≡ k1
  pub words : h.words ≡ fold absorb (start k0 k1) (whole_words bytes)
  pub held : h.held ≡ rest bytes
  pub count : h.count ≡ length bytes % 256

-- from old to new the hasher has taken in these bytes
abbrev pub Takes : SipState → SipState → List ℕ → Type 0
Takes old new bytes =
    (k0 k1 : ℕ) (before : List ℕ) → Hashed old k0 k1 before → Hashed new k0 k1 (before ++ bytes)

-- the hash is SipHash-1-3 of all bytes taken in so far
abbrev pub Answers : SipState → ℕ → Type 0
Answers h hash = (k0 k1 : ℕ) (bytes : List ℕ) → Hashed h k0 k1 bytes → hash ≡ sip k0 k1 bytes
