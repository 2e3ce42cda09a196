-- A hasher from its eight words: the first bytes of a word, and the bytes that a word stores.
use Rattle.std.proofs.Common.{◌≡◌, ℕ, zero, suc, ◌-◌, ◌*◌, ◌%◌, ◌^◌, ◌<◌, List, ◌∷◌, length, take, slice_index_or, bit_and, mod-eq_of_lt, refl, sym, ◌∙◌, ap, arith, lit<, length-take}
use Rattle.std.proofs.Math.Pow.{pow-lt}
use Rattle.std.proofs.lemmas.Nat.{and_mask, mod-pow-add}
use Rattle.bloom_parts.proofs.Common.{w64, from_le_bytes, to_le_bytes, AreBytes, held_in, SipState, Hashed, rest}
use Rattle.bloom_parts.specs.HasherWords.{words_after, IsHashing}
use Rattle.bloom_parts.proofs.BufferLemmas.{Stores, stores, AreBytes-take}
use Rattle.bloom_parts.proofs.SipLemmas.{length-rest}

-- the first bytes of a number, fewer than eight, are those of the number modulo their power
take-value : (word n : ℕ) → n < 8
    → from_le_bytes w64 (take n (to_le_bytes w64 word)) ≡ word % 2 ^ (8 * n)
take-value word (suc (suc (suc (suc (suc (suc (suc (suc n)))))))) few = absurd (omega arith)
take-value word zero few = omega arith
take-value word (suc zero) few = omega arith
take-value word (suc n) few =
    let fewer = take-value word n (omega arith) in
    omega (arith, fewer, mod-pow-add word 8 (8 * n))

-- the bytes of a number are bytes
AreBytes-number : (word : ℕ) → AreBytes (to_le_bytes w64 word)
AreBytes-number word (suc (suc (suc (suc (suc (suc (suc (suc i)))))))) = lit< tt
AreBytes-number word _ = omega arith

-- a number of which only the first bytes are left stores these
pub stores-first : (buffer : List ℕ) (word count : ℕ)
    → buffer ≡ to_le_bytes w64 (bit_and word (1 * 2 ^ (8 * (count % 8)) % 2 ^ 64 - 1))
    → Stores buffer count (take (count % 8) (to_le_bytes w64 word))
stores-first buffer word count is =
    let n = count % 8 in
    let bytes = to_le_bytes w64 word in
    let size : length (take n bytes) ≡ n = simp length-take (omega arith) in
    let below : 8 * n < 64 = omega arith in
    let fits : 2 ^ (8 * n) < 2 ^ 64 = pow-lt below in
    let mask : 1 * 2 ^ (8 * n) % 2 ^ 64 - 1 ≡ 2 ^ (8 * n) - 1 = omega (arith, mod-eq_of_lt fits) in
    stores buffer count (take n bytes) (word % 2 ^ (8 * n))
    (AreBytes-take n bytes (AreBytes-number word)) (omega (arith, size)) (sym size)
    (sym (take-value word n (omega arith)))
    (is
    ∙ ap (λ mask. to_le_bytes w64 (bit_and word mask)) mask
    ∙ ap (to_le_bytes w64) (and_mask word (8 * n)))

-- the bytes behind the whole words are bytes
AreBytes-rest : (bytes : List ℕ) → AreBytes bytes → AreBytes (rest bytes)
unfolding rest
AreBytes-rest (a ∷ b ∷ c ∷ d ∷ e ∷ f ∷ g ∷ h ∷ bytes) small =
    AreBytes-rest bytes (λ i. small (suc (suc (suc (suc (suc (suc (suc (suc i)))))))))
AreBytes-rest _ small = small

-- the hasher of eight words, with a buffer for the bytes behind the whole words
abbrev pub of_eight : List ℕ → List ℕ → SipState
of_eight eight buffer =
    let count = slice_index_or eight 7 0 % 256 in
    record {
      low = slice_index_or eight 0 0;
      high = slice_index_or eight 1 0;
      words = record {
        v0 = slice_index_or eight 2 0;
        v1 = slice_index_or eight 3 0;
        v2 = slice_index_or eight 4 0;
        v3 = slice_index_or eight 5 0;
      };
      held = held_in buffer count;
      count = count;
    }

-- the hasher of the eight words of a hasher stands to the same key and bytes
pub hashed-again : (k0 k1 : ℕ) (bytes eight buffer : List ℕ) → IsHashing k0 k1 bytes eight
    → held_in buffer (slice_index_or eight 7 0 % 256)
    ≡ take (slice_index_or eight 7 0 % 256 % 8) (to_le_bytes w64 (slice_index_or eight 6 0))
    → Hashed (of_eight eight buffer) k0 k1 bytes
hashed-again k0 k1 bytes eight buffer is first =
    let at : (i : ℕ) → slice_index_or eight i 0 ≡ slice_index_or (words_after k0 k1 bytes) i 0 =
    λ i. ap (λ ws. slice_index_or ws i 0) is.words in
    let count : slice_index_or eight 7 0 % 256 ≡ length bytes % 256 = omega (arith, at 7) in
    let few = length-rest bytes in
    let word = slice_index_or eight 6 0 in
    let stored = stores (to_le_bytes w64 word) (slice_index_or eight 7 0 % 256) (rest bytes) word
    (AreBytes-rest bytes is.small) (omega (arith, few)) (omega (arith, few, count)) (at 6) refl in
    record {
      low = at 0;
      high = at 1;
      words = λ i. record { v0 = at 2 i; v1 = at 3 i; v2 = at 4 i; v3 = at 5 i };
      held = first ∙ stored.held;
      count = count;
    }
