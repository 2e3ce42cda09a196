-- Numbers of 64 bits as little-endian bytes, and bytes read as such numbers.
use Rattle.std.proofs.Common.{◌≡◌, ℕ, zero, suc, ◌+◌, ◌*◌, ◌/◌, ◌%◌, ◌<◌, ◌≤◌, List, [], ◌∷◌, ◌++◌, length, get_or, take, refl, ap, ◌∙◌, sym, arith, append-nil}
use Rattle.std.proofs.lemmas.List.{get_or-map, get_or_past, take_more}
use Rattle.std.proofs.lemmas.List.Concat.{flat_map-append}
use Rattle.std.proofs.lemmas.Nat.{le_bytes_8, from_le_bytes-to_le_bytes_8}
use Rattle.bloom_files.proofs.Common.{map, slice_index, w64, to_le_bytes, from_le_bytes, AreWords, whole_words, rest, bytes_of}
use Rattle.std.specs.Simd.{first_chunks}
use Rattle.bloom_parts.specs.Buffers.{AreBytes}

-- the numbers of bytes are those of their chunks of eight
pub whole_words-chunks : (bytes : List ℕ)
    → whole_words bytes ≡ map (from_le_bytes w64) (first_chunks 8 (length bytes / 8) bytes)
unfolding whole_words
whole_words-chunks (a ∷ b ∷ c ∷ d ∷ e ∷ f ∷ g ∷ h ∷ bytes) =
    let more : length (a ∷ b ∷ c ∷ d ∷ e ∷ f ∷ g ∷ h ∷ bytes) / 8 ≡ suc (length bytes / 8) =
    omega arith in
    ap (λ ws. from_le_bytes w64 (a ∷ b ∷ c ∷ d ∷ e ∷ f ∷ g ∷ h ∷ []) ∷ ws)
    (whole_words-chunks bytes)
    ∙ ap (λ n. map (from_le_bytes w64)
    (first_chunks 8 n (a ∷ b ∷ c ∷ d ∷ e ∷ f ∷ g ∷ h ∷ bytes))) (sym more)
whole_words-chunks _ = refl

-- the numbers of bytes that stand for numbers, with more bytes behind them
pub whole_words-bytes : (numbers more : List ℕ) → AreWords numbers
    → whole_words (bytes_of numbers ++ more) ≡ numbers ++ whole_words more
unfolding whole_words bytes_of
whole_words-bytes [] more fit = refl
whole_words-bytes (n ∷ numbers) more fit =
    (λ i. from_le_bytes-to_le_bytes_8 n (fit 0 0 (omega arith)) i
    ∷ whole_words-bytes numbers more (λ j d below. fit (suc j) d (omega arith)) i)

-- bytes are those of their numbers, and what remains
pub bytes_of-whole_words : (bytes : List ℕ) → AreBytes bytes
    → bytes_of (whole_words bytes) ++ rest bytes ≡ bytes
unfolding whole_words rest bytes_of
bytes_of-whole_words (a ∷ b ∷ c ∷ d ∷ e ∷ f ∷ g ∷ h ∷ bytes) small =
    let front = a ∷ b ∷ c ∷ d ∷ e ∷ f ∷ g ∷ h ∷ [] in
    let others : AreBytes bytes = λ i. small (suc (suc (suc (suc (suc (suc (suc (suc i)))))))) in
    ap (λ l. l ++ (bytes_of (whole_words bytes) ++ rest bytes))
    (le_bytes_8 front (from_le_bytes w64 front) refl (first small) refl)
    ∙ ap (λ l. front ++ l) (bytes_of-whole_words bytes others)
  where
    first : AreBytes (a ∷ b ∷ c ∷ d ∷ e ∷ f ∷ g ∷ h ∷ bytes)
        → (i : ℕ) → get_or (a ∷ b ∷ c ∷ d ∷ e ∷ f ∷ g ∷ h ∷ []) i 0 < 256
    first small zero = small 0
    first small (suc zero) = small 1
    first small (suc (suc zero)) = small 2
    first small (suc (suc (suc zero))) = small 3
    first small (suc (suc (suc (suc zero)))) = small 4
    first small (suc (suc (suc (suc (suc zero))))) = small 5
    first small (suc (suc (suc (suc (suc (suc zero)))))) = small 6
    first small (suc (suc (suc (suc (suc (suc (suc zero))))))) = small 7
    first small (suc (suc (suc (suc (suc (suc (suc (suc i)))))))) = omega arith
bytes_of-whole_words _ small = refl

-- eight bytes for each number
pub length-bytes_of : (numbers : List ℕ) → length (bytes_of numbers) ≡ 8 * length numbers
unfolding bytes_of
length-bytes_of [] = refl
length-bytes_of (n ∷ numbers) = omega (arith, length-bytes_of numbers)

-- nothing remains of bytes that are cut into eights
pub rest-none : (bytes : List ℕ) → length bytes % 8 ≡ 0 → rest bytes ≡ []
unfolding rest
rest-none (a ∷ b ∷ c ∷ d ∷ e ∷ f ∷ g ∷ h ∷ bytes) whole = rest-none bytes (omega arith)
rest-none [] whole = refl
rest-none _ whole = absurd (omega arith)

-- how many numbers there are
pub length-whole_words : (bytes : List ℕ) → length (whole_words bytes) ≡ length bytes / 8
unfolding whole_words
length-whole_words (a ∷ b ∷ c ∷ d ∷ e ∷ f ∷ g ∷ h ∷ bytes) =
    omega (arith, length-whole_words bytes)
length-whole_words _ = refl

-- behind bytes that are cut into eights the numbers of more bytes follow
pub whole_words-append : (bytes more : List ℕ) → length bytes % 8 ≡ 0
    → whole_words (bytes ++ more) ≡ whole_words bytes ++ whole_words more
unfolding whole_words
whole_words-append (a ∷ b ∷ c ∷ d ∷ e ∷ f ∷ g ∷ h ∷ bytes) more whole =
    ap (λ ws. from_le_bytes w64 (a ∷ b ∷ c ∷ d ∷ e ∷ f ∷ g ∷ h ∷ []) ∷ ws)
    (whole_words-append bytes more (omega arith))
whole_words-append [] more whole = refl
whole_words-append _ more whole = absurd (omega arith)

-- the number at a place is that of the chunk there
pub number-in : (bytes : List ℕ) (place : ℕ) (chunks : List (List ℕ))
    → chunks ≡ first_chunks 8 (length bytes / 8) bytes → place < length chunks
    → (chunk : List ℕ) → chunk ≡ get_or chunks place chunk → (number : ℕ)
    → number ≡ from_le_bytes w64 chunk → number ≡ slice_index (whole_words bytes) place
number-in bytes place chunks are inside chunk is number of =
    of ∙ ap (from_le_bytes w64) is
    ∙ sym (get_or-map (from_le_bytes w64) chunks place chunk 0 inside)
    ∙ ap (λ l. slice_index (map (from_le_bytes w64) l) place) are
    ∙ ap (λ l. slice_index l place) (sym (whole_words-chunks bytes))

-- past the last chunk there is no number
pub number-past : (bytes : List ℕ) (place : ℕ) → length bytes / 8 ≤ place
    → 0 ≡ slice_index (whole_words bytes) place
number-past bytes place past =
    sym (get_or_past (whole_words bytes) place 0 (omega (arith, past, length-whole_words bytes)))

-- the bytes of numbers, and of more numbers behind them
pub bytes_of-append : (numbers more : List ℕ)
    → bytes_of (numbers ++ more) ≡ bytes_of numbers ++ bytes_of more
unfolding bytes_of
bytes_of-append numbers more = flat_map-append (to_le_bytes w64) numbers more

-- the bytes of one number more
pub bytes_of-next : (numbers : List ℕ) (i : ℕ) → i < length numbers
    → bytes_of (take (i + 1) numbers)
    ≡ bytes_of (take i numbers) ++ to_le_bytes w64 (slice_index numbers i)
unfolding bytes_of
bytes_of-next numbers i below =
    ap bytes_of (take_more numbers i 0 below)
    ∙ bytes_of-append (take i numbers) (slice_index numbers i ∷ [])
    ∙ ap (λ l. bytes_of (take i numbers) ++ l)
    (append-nil (to_le_bytes w64 (slice_index numbers i)))

-- bytes that are cut into eights are those of their numbers
pub bytes-again : (bytes : List ℕ) → AreBytes bytes → length bytes % 8 ≡ 0
    → bytes_of (whole_words bytes) ≡ bytes
bytes-again bytes small whole =
    sym (append-nil (bytes_of (whole_words bytes)))
    ∙ ap (λ l. bytes_of (whole_words bytes) ++ l) (sym (rest-none bytes whole))
    ∙ bytes_of-whole_words bytes small

-- the numbers of bytes that stand for numbers alone
pub whole_words-alone : (numbers : List ℕ) → AreWords numbers
    → whole_words (bytes_of numbers) ≡ numbers
unfolding whole_words
whole_words-alone numbers fit =
    ap whole_words (sym (append-nil (bytes_of numbers)))
    ∙ whole_words-bytes numbers [] fit ∙ append-nil numbers
