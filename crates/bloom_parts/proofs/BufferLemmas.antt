-- Fewer bytes than a word has, as a number and in a buffer with zeros behind them.
use Rattle.std.proofs.Common.{◌≡◌, ℕ, ◌+◌, ◌-◌, ◌*◌, ◌^◌, ◌<◌, ◌≤◌, ◌%◌, add-one, append_assoc, mod-eq_of_lt, List, [], ◌∷◌, ◌++◌, length, set, get_or, take, replicate, refl, lit<, zero, ◌∙◌, sym, ap, arith, length-take, suc, bit_or, length-append}
use Rattle.std.proofs.Math.Seq.{take-append_seam, take-suc}
use Rattle.std.proofs.lemmas.List.{length-replicate}
use Rattle.std.proofs.lemmas.Nat.{le_bytes_8}
use Rattle.std.specs.Int.Bits.{or_shifted_r}
use Rattle.std.specs.Int.{w64, from_le_bytes, to_le_bytes}
use Rattle.bloom_parts.specs.Buffers.{AreBytes, padded, held_in, IsPadded}

-- zeros behind bytes count for nothing, and the eighth byte is the top one
pub topped : (bytes : List ℕ) (top : ℕ) → length bytes < 8
    → from_le_bytes w64 (set (padded bytes) 7 top) ≡ from_le_bytes w64 bytes + top * 2 ^ 56
topped (a ∷ b ∷ c ∷ d ∷ e ∷ f ∷ g ∷ h ∷ bytes) top few = absurd (omega arith)
topped _ top few = omega arith

-- the zeros of a buffer count for nothing
padded-value : (bytes : List ℕ) → length bytes < 8
    → from_le_bytes w64 (padded bytes) ≡ from_le_bytes w64 bytes
padded-value (a ∷ b ∷ c ∷ d ∷ e ∷ f ∷ g ∷ h ∷ bytes) few = absurd (omega arith)
padded-value _ few = refl

-- a number has room for one byte more, just above its bytes
record HasRoom (bytes : List ℕ) (byte : ℕ) : Type 0 where
  below : from_le_bytes w64 bytes < 2 ^ (8 * length bytes)
  fits : byte * 2 ^ (8 * length bytes) < 2 ^ 64
  more : from_le_bytes w64 (bytes ++ byte ∷ [])
      ≡ byte * 2 ^ (8 * length bytes) + from_le_bytes w64 bytes

-- fewer than eight bytes leave room for one
has_room : (bytes : List ℕ) (byte : ℕ) → AreBytes bytes → byte < 256 → length bytes < 8
    → HasRoom bytes byte
has_room (a ∷ b ∷ c ∷ d ∷ e ∷ f ∷ g ∷ h ∷ bytes) byte small last few = absurd (omega arith)
has_room _ byte small last few = record {
  below = omega (arith, small 0, small 1, small 2, small 3, small 4, small 5, small 6);
  fits = omega arith;
  more = omega arith;
}

-- what the code does to put one byte more above a number
or-above : (bytes : List ℕ) (byte word at : ℕ) → AreBytes bytes → byte < 256 → length bytes < 8
    → word ≡ from_le_bytes w64 bytes → at ≡ length bytes
    → bit_or word (byte * 2 ^ (8 * at) % 2 ^ 64) ≡ from_le_bytes w64 (bytes ++ byte ∷ [])
or-above bytes byte word at small last few is above =
    let room : HasRoom bytes byte = has_room bytes byte small last few in
    ap (λ n. bit_or word (byte * 2 ^ (8 * n) % 2 ^ 64)) above
    ∙ ap (bit_or word) (mod-eq_of_lt room.fits)
    ∙ ap (λ n. bit_or n (byte * 2 ^ (8 * length bytes))) is
    ∙ or_shifted_r byte (8 * length bytes) (from_le_bytes w64 bytes) room.below
    ∙ sym room.more

-- the first of some bytes are bytes
pub AreBytes-take : (n : ℕ) (bytes : List ℕ) → AreBytes bytes → AreBytes (take n bytes)
AreBytes-take zero bytes small i = lit< tt
AreBytes-take (suc n) [] small i = lit< tt
AreBytes-take (suc n) (byte ∷ bytes) small zero = small 0
AreBytes-take (suc n) (byte ∷ bytes) small (suc i) = AreBytes-take n bytes (λ k. small (suc k)) i

-- bytes and more bytes are bytes
pub AreBytes-append : (bytes more : List ℕ) → AreBytes bytes → AreBytes more
    → AreBytes (bytes ++ more)
AreBytes-append [] more small others i = others i
AreBytes-append (byte ∷ bytes) more small others zero = small 0
AreBytes-append (byte ∷ bytes) more small others (suc i) =
    AreBytes-append bytes more (λ k. small (suc k)) others i

-- zeros are bytes
AreBytes-zeros : (n : ℕ) → AreBytes (replicate n 0)
AreBytes-zeros zero i = lit< tt
AreBytes-zeros (suc n) zero = lit< tt
AreBytes-zeros (suc n) (suc i) = AreBytes-zeros n i

-- the number of bytes held and of some that come, with the next one put above
pub next-byte : (held bytes : List ℕ) (i word at : ℕ) → AreBytes held → AreBytes bytes
    → i < length bytes → length held + length bytes ≤ 8
    → word ≡ from_le_bytes w64 (held ++ take i bytes) → at ≡ length held + i
    → bit_or word (get_or bytes i 0 * 2 ^ (8 * at) % 2 ^ 64)
    ≡ from_le_bytes w64 (held ++ take (i + 1) bytes)
next-byte held bytes i word at small others within few is above =
    let taken : length (take i bytes) ≡ i = simp length-take (omega arith) in
    let size : length (held ++ take i bytes) ≡ length held + i =
    omega (arith, length-append held (take i bytes)) in
    let further : (held ++ take i bytes) ++ get_or bytes i 0 ∷ [] ≡ held ++ take (i + 1) bytes =
    append_assoc held (take i bytes) (get_or bytes i 0 ∷ [])
    ∙ ap (λ more. held ++ more)
    (sym (ap (λ n. take n bytes) (add-one i) ∙ take-suc bytes i 0 within)) in
    or-above (held ++ take i bytes) (get_or bytes i 0) word at
    (AreBytes-append held (take i bytes) small (AreBytes-take i bytes others))
    (others i) (omega arith) is (omega arith)
    ∙ ap (from_le_bytes w64) further

-- the buffer that stores a number holds its bytes
pub record Stores (buffer : List ℕ) (count : ℕ) (bytes : List ℕ) : Type 0 where
  pub padding : IsPadded buffer count
  pub held : held_in buffer count ≡ bytes

-- the little-endian bytes of a number of fewer than eight bytes are these bytes, and zeros
pub stores : (buffer : List ℕ) (count : ℕ) (bytes : List ℕ) (word : ℕ) → AreBytes bytes
    → length bytes < 8 → count % 8 ≡ length bytes → word ≡ from_le_bytes w64 bytes
    → buffer ≡ to_le_bytes w64 word
    → Stores buffer count bytes
stores buffer count bytes word small few counted is stored =
    let eight : length (padded bytes) ≡ 8 =
    omega (
      arith,
      length-append bytes (replicate (8 - length bytes) 0),
      length-replicate {A = ℕ} (8 - length bytes) 0,
    ) in
    let all_bytes : AreBytes (padded bytes) =
    AreBytes-append bytes (replicate (8 - length bytes) 0) small
    (AreBytes-zeros (8 - length bytes)) in
    let whole : buffer ≡ padded bytes =
    stored ∙ le_bytes_8 (padded bytes) word eight all_bytes (is ∙ sym (padded-value bytes few)) in
    let held : held_in buffer count ≡ bytes =
    ap (λ b. held_in b count) whole ∙ ap (λ n. take n (padded bytes)) counted
    ∙ take-append_seam bytes _ in
    record { padding = whole ∙ ap padded (sym held); held = held }

-- as many bytes of a buffer count as were taken in since the last whole word
pub length-held_in : (buffer : List ℕ) (count : ℕ) → length buffer ≡ 8
    → length (held_in buffer count) ≡ count % 8
length-held_in buffer count eight = simp length-take (omega arith)

-- what a buffer holds
pub record Holds (buffer : List ℕ) (count : ℕ) : Type 0 where
  pub few : length (held_in buffer count) ≡ count % 8
  pub bytes : AreBytes (held_in buffer count)
  pub value : from_le_bytes w64 buffer ≡ from_le_bytes w64 (held_in buffer count)

-- what a padded buffer of eight bytes holds
pub holds : (buffer : List ℕ) (count : ℕ) → length buffer ≡ 8 → IsPadded buffer count
    → AreBytes buffer → Holds buffer count
holds buffer count eight padding small =
    let few = length-held_in buffer count eight in
    record {
      few = few;
      bytes = AreBytes-take (count % 8) buffer small;
      value = ap (from_le_bytes w64) padding ∙ padded-value (held_in buffer count) (omega arith);
    }
