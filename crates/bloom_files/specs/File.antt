-- One file of a filter: a head of 64 bytes, and then the words. The form is this project's own. Its
-- seal is SipHash-1-3 (J.-P. Aumasson and D. J. Bernstein, 2012).
use Rattle.std.specs.Prelude.{ℕ, ◌^◌, ◌<◌, List, [], ◌∷◌, ◌++◌, length}
use Rattle.std.specs.Int.{w64, to_le_bytes}
use Rattle.std.specs.List.{flat_map}
use Rattle.bloom_parts.specs.Content.{AreWords}
use Rattle.bloom_parts.specs.Keys.{HasKey, key_of}
use Rattle.bloom_parts.specs.Sip.{sip}
use Rattle.bloom_files.specs.declared.head.Head.{Head}
use Rattle.bloom_plain.specs.Data.{DefaultFilter}

-- numbers of 64 bits as bytes, the lowest byte of each first
unfoldable pub bytes_of : List ℕ → List ℕ
bytes_of numbers = flat_map (to_le_bytes w64) numbers

-- the number of the eight bytes with which each file begins: `fbloom`, 0, and the version `1`
abbrev pub mark : ℕ
mark = 0x3100_6d6f_6f6c_6266

-- the first five numbers of a file, which its seal covers
abbrev pub opening : Head → List ℕ
opening head = mark ∷ head.num_hashes ∷ head.num_words ∷ head.k0 ∷ head.k1 ∷ []

-- the eight numbers of a head with this seal
abbrev pub head_numbers : Head → ℕ → List ℕ
head_numbers head seal = opening head ++ seal ∷ 0 ∷ 0 ∷ []

-- the seal of a head and words: SipHash-1-3 of their bytes under the key of zeros
abbrev pub seal_of : Head → List ℕ → ℕ
seal_of head words = sip 0 0 (bytes_of (opening head) ++ bytes_of words)

-- what the head of a filter's file says
abbrev pub head_of : DefaultFilter → Head
head_of f = record {
  num_hashes = f.hashes;
  num_words = length f.words;
  k0 = (key_of f.hasher).0;
  k1 = (key_of f.hasher).1;
}

-- the words of a filter and those of its key have 64 bits each
pub record FitsWords (f : DefaultFilter) : Type 0 where
  pub words : AreWords f.words
  pub low : (key_of f.hasher).0 < 2 ^ 64
  pub high : (key_of f.hasher).1 < 2 ^ 64

-- the hashers of the filter have its key and have taken in nothing
abbrev pub HasOwnKey : DefaultFilter → Type 0
HasOwnKey f = HasKey f.hasher (key_of f.hasher).0 (key_of f.hasher).1
