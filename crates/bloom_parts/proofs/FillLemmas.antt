-- What a hasher is after bytes that don't go past the end of the word begun.
use Rattle.std.proofs.Common.{◌≡◌, ◌≢◌, ℕ, ◌+◌, ◌%◌, ◌*◌, ◌^◌, ◌<◌, ◌≤◌, ◌++◌, List, [], ◌∷◌, length, take, get_or, bit_or, arith, ap, sym, ◌∙◌, take_all, length-append}
use Rattle.bloom_parts.proofs.Common.{append-nil, w64, from_le_bytes, to_le_bytes, AreBytes, held_in, SipState, write, Words, absorb}
use Rattle.bloom_parts.proofs.BufferLemmas.{Holds, Stores, stores, next-byte, AreBytes-append}
use Rattle.bloom_parts.proofs.HashedLemmas.{write-few, write-full}

-- the number of the bytes held and of the first i that come, and how many these are
pub record IsFilled (buffer : List ℕ) (count : ℕ) (bytes : List ℕ) (i word held : ℕ) : Type 0 where
  pub before : Holds buffer count
  pub at : held ≡ length (held_in buffer count) + i
  pub value : word ≡ from_le_bytes w64 (held_in buffer count ++ take i bytes)

-- the number of these, which are bytes
abbrev pub IsNumberOf : List ℕ → ℕ → Type 0
IsNumberOf bytes word = record {
  value : word ≡ from_le_bytes w64 bytes;
  bytes : AreBytes bytes;
}

-- a buffer, and the bytes that come
module _ (buffer : List ℕ) (count : ℕ) (bytes : List ℕ) where
  -- before the first byte that comes
  pub filled-start : (word held : ℕ) → Holds buffer count → word ≡ from_le_bytes w64 buffer →
      held ≡ count % 8 → IsFilled buffer count bytes 0 word held
  filled-start word held before is counted = record {
    before = before;
    at = omega (arith, counted, before.few);
    value = is ∙ before.value ∙ ap (from_le_bytes w64) (sym (append-nil (held_in buffer count)));
  }

  -- one byte more
  pub filled-next : (i word held : ℕ) → AreBytes bytes → IsFilled buffer count bytes i word held →
      i < length bytes → count % 8 + length bytes ≤ 8 →
      IsFilled buffer count bytes (i + 1)
      (bit_or word (get_or bytes i 0 * 2 ^ (8 * held) % 2 ^ 64)) (held + 1)
  filled-next i word held small is within room = record {
    before = is.before;
    at = omega (arith, is.at);
    value =
        next-byte (held_in buffer count) bytes i word held is.before.bytes small within
        (omega (arith, is.before.few, room)) is.value is.at;
  }

  -- after the last byte all are in the number
  pub filled-all : (i word held : ℕ) → AreBytes bytes → IsFilled buffer count bytes i word held →
      length bytes ≤ i → IsNumberOf (held_in buffer count ++ bytes) word
  filled-all i word held small is all = record {
    value =
        is.value
        ∙ ap (λ more. from_le_bytes w64 (held_in buffer count ++ more)) (take_all i bytes all);
    bytes = AreBytes-append (held_in buffer count) bytes is.before.bytes small;
  }

-- the length after bytes, as the code counts it
abbrev pub count_after : SipState → List ℕ → ℕ
count_after h bytes = (h.count + length bytes) % 2 ^ 64 % 256

-- a hasher as it was given and as it is opened, bytes, and the number of those held and of these
module _ (old h : SipState) (view : h ≡ old) (size : length h.held ≡ h.count % 8)
    (bytes : List ℕ) (room : length old.held + length bytes ≤ 8) (word : ℕ)
    (is : IsNumberOf (h.held ++ bytes) word) where
  -- the length loses nothing where it is counted in 64 bits
  counted : count_after h bytes ≡ (h.count + length bytes) % 256
  counted = omega arith

  -- how many bytes these are
  joined : length (h.held ++ bytes) ≡ h.count % 8 + length bytes
  joined = omega (arith, length-append h.held bytes, size)

  -- where they are fewer than eight, a buffer with the number's bytes is these bytes, and zeros
  module _ (other : h.count % 8 + length bytes ≢ 8) (after : List ℕ)
      (stored : after ≡ to_le_bytes w64 word) where
    -- the buffer is these bytes, and zeros
    few : length (h.held ++ bytes) < 8
    few = omega (arith, other, room, joined, size, ap (λ x. length x.held) view)

    pub stored-few : Stores after (count_after h bytes) (h.held ++ bytes)
    stored-few =
        stores after (count_after h bytes) (h.held ++ bytes) word is.bytes few
        (omega (arith, few, joined)) is.value stored

    -- the hasher has taken these bytes in
    pub filled-few : record h {
      held = held_in after (count_after h bytes);
      count = count_after h bytes;
    } ≡ write old bytes
    filled-few =
        (λ j. record h { held = stored-few.held j; count = counted j })
        ∙ sym (write-few h bytes few) ∙ ap (λ x. write x bytes) view

  -- where they are eight, the number is taken in as a word, and none is held
  pub filled-full : h.count % 8 + length bytes ≡ 8 → (words : Words) → words ≡ absorb h.words word →
      record h {
        words = words;
        held = held_in (0 ∷ 0 ∷ 0 ∷ 0 ∷ 0 ∷ 0 ∷ 0 ∷ 0 ∷ []) (count_after h bytes);
        count = count_after h bytes;
      } ≡ write old bytes
  filled-full full words taken =
      let none : count_after h bytes % 8 ≡ 0 = omega (arith, full) in
      (λ j. record h {
        words = taken j;
        held = take (none j) (0 ∷ 0 ∷ 0 ∷ 0 ∷ 0 ∷ 0 ∷ 0 ∷ 0 ∷ []);
        count = counted j;
      })
      ∙ sym (write-full h bytes word (joined ∙ full) is.value) ∙ ap (λ x. write x bytes) view
