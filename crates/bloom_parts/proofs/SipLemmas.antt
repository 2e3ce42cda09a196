-- How a list of bytes is cut into words: lists that are joined, short lists, and words joined.
use Rattle.std.proofs.Common.{◌≡◌, ℕ, zero, suc, ◌+◌, ◌*◌, ◌/◌, ◌%◌, ◌<◌, List, [], ◌∷◌, ◌++◌, length, get_or, take, drop, refl, ap, ◌∙◌, sym, arith, length-append, length-take}
use Rattle.bloom_parts.proofs.Common.{take-add, map, concat, w64, from_le_bytes, whole_words, rest}
use Rattle.std.proofs.lemmas.List.{take-append-drop}
use Rattle.std.specs.Simd.{first_chunks}

-- how many bytes remain
pub length-rest : (bytes : List ℕ) → length (rest bytes) ≡ length bytes % 8
unfolding rest
length-rest (a ∷ b ∷ c ∷ d ∷ e ∷ f ∷ g ∷ h ∷ bytes) = omega (arith, length-rest bytes)
length-rest _ = refl

-- fewer than eight bytes are no word, and remain
pub record IsShort (bytes : List ℕ) : Type 0 where
  pub words : whole_words bytes ≡ []
  pub remain : rest bytes ≡ bytes

-- a short list
pub short : (bytes : List ℕ) → length bytes < 8 → IsShort bytes
unfolding whole_words rest
short (a ∷ b ∷ c ∷ d ∷ e ∷ f ∷ g ∷ h ∷ bytes) few = absurd (omega arith)
short _ few = record { words = refl; remain = refl }

-- behind a list, more bytes go on from what remained of it
pub record Continues (bytes more : List ℕ) : Type 0 where
  pub words : whole_words (bytes ++ more) ≡ whole_words bytes ++ whole_words (rest bytes ++ more)
  pub remain : rest (bytes ++ more) ≡ rest (rest bytes ++ more)

-- how a list goes on
pub continues : (bytes more : List ℕ) → Continues bytes more
unfolding whole_words rest
continues (a ∷ b ∷ c ∷ d ∷ e ∷ f ∷ g ∷ h ∷ bytes) more =
    let further = continues bytes more in
    record {
      words = ap (λ ws. from_le_bytes w64 (a ∷ b ∷ c ∷ d ∷ e ∷ f ∷ g ∷ h ∷ []) ∷ ws) further.words;
      remain = further.remain;
    }
continues _ more = record { words = refl; remain = refl }

-- eight bytes are one word, in front of what follows
word-first : (word bytes : List ℕ) → length word ≡ 8
    → whole_words (word ++ bytes) ≡ from_le_bytes w64 word ∷ whole_words bytes
unfolding whole_words
word-first (a ∷ b ∷ c ∷ d ∷ e ∷ f ∷ g ∷ h ∷ []) bytes eight = refl
word-first _ bytes eight = absurd (omega arith)

-- each has eight bytes
abbrev pub AreEights : List (List ℕ) → Type 0
AreEights words = (i : ℕ) → i < length words → length (get_or words i []) ≡ 8

-- words joined and cut again are these words
pub whole_words-concat : (words : List (List ℕ)) → AreEights words
    → whole_words (concat words) ≡ map (from_le_bytes w64) words
unfolding whole_words
whole_words-concat [] each = refl
whole_words-concat (word ∷ words) each =
    word-first word (concat words) (each 0 (omega arith))
    ∙ ap (λ ws. from_le_bytes w64 word ∷ ws)
    (whole_words-concat words (λ i below. each (suc i) (omega arith)))

-- words joined have eight bytes each
pub length-concat : (words : List (List ℕ)) → AreEights words
    → length (concat words) ≡ 8 * length words
length-concat [] each = refl
length-concat (word ∷ words) each =
    let eight : length word ≡ 8 = each 0 (omega arith) in
    omega (
      arith,
      length-append word (concat words),
      length-concat words (λ i below. each (suc i) (omega arith)),
    )

-- a list of no bytes
pub empty : (bytes : List ℕ) → length bytes ≡ 0 → bytes ≡ []
empty [] none = refl
empty (a ∷ bytes) none = absurd (omega arith)

-- the first chunks of eight bytes, joined
concat-first_chunks : (k : ℕ) (bytes : List ℕ)
    → concat (first_chunks 8 k bytes) ≡ take (k * 8) bytes
concat-first_chunks zero bytes = refl
concat-first_chunks (suc k) bytes =
    let size : suc k * 8 ≡ 8 + k * 8 = omega arith in
    ap (λ more. take 8 bytes ++ more) (concat-first_chunks k (drop 8 bytes))
    ∙ sym (ap (λ n. take n bytes) size ∙ take-add 8 (k * 8) bytes)

-- bytes cut into words, and what remains
pub record IsCut (bytes : List ℕ) (words : List (List ℕ)) (others : List ℕ) : Type 0 where
  pub joined : concat words ++ others ≡ bytes
  pub size : length (concat words) ≡ length bytes / 8 * 8

-- how the code cuts bytes
pub cut : (bytes : List ℕ) (words : List (List ℕ)) (others : List ℕ)
    → words ≡ first_chunks 8 (length bytes / 8) bytes → others ≡ drop (length bytes / 8 * 8) bytes
    → IsCut bytes words others
cut bytes words others front back =
    let taken : concat words ≡ take (length bytes / 8 * 8) bytes =
    ap concat front ∙ concat-first_chunks (length bytes / 8) bytes in
    record {
      joined = (λ i. taken i ++ back i) ∙ take-append-drop (length bytes / 8 * 8) bytes;
      size = ap length taken ∙ simp length-take (omega arith);
    }
