-- The positions of a word are counted by its digits.
use Rattle.std.proofs.Common.{◌≡◌, ◌<◌, ◌≤◌, ◌+◌, ◌*◌, ◌/◌, ◌%◌, ◌^◌, ℕ, Bool, true, false, zero, suc, eqb, if◌then◌else◌, List, [], ◌∷◌, ◌++◌, length, get_or, count_ones, refl, ◌∙◌, ap, arith}
use Rattle.bloom_parts.proofs.Common.{bit_at, bit_or, zip2, mod-pow-add, pow_pos, ones_le_self, bit_at-lt, bit_is_on, content, count_on}
use Rattle.std.specs.Int.Count.{ones_cat, ones_step}
use Rattle.std.proofs.lemmas.Simd.{get_or-zip2}
use Rattle.std.proofs.Math.ListN.{get_or-append}
use Rattle.std.proofs.Math.Nat.{mod-lt, mod-eq_of_lt}
use Rattle.std.proofs.Math.Seq.{get_or-append_seam}
use Rattle.bloom_parts.proofs.WordLemmas.{content-at}

-- no more positions are set than there are
pub count-most : (A : ℕ → Bool) (n : ℕ) → count_on A n ≤ n
unfolding count_on
count-most A zero = omega arith
count-most A (suc n) = elim (A n) as (λ b. count_on A n + (if b then 1 else 0) ≤ suc n) [
  | true ↦ omega (arith, count-most A n)
  | false ↦ omega (arith, count-most A n)
]

-- zero has no digit
ones-zero : count_ones 0 ≡ 0
ones-zero = omega (arith, ones_le_self 0)

-- a digit counts as itself
ones-digit : (d : ℕ) → d < 2 → count_ones d ≡ (if eqb d 1 then 1 else 0)
ones-digit zero below = ones-zero
ones-digit (suc zero) below = omega (arith, ones_step 1, ones-zero)
ones-digit (suc (suc d)) below = absurd (omega arith)

-- the digits below one more place
ones-next : (w j : ℕ)
    → count_ones (w % 2 ^ suc j) ≡ (if eqb (bit_at w j) 1 then 1 else 0) + count_ones (w % 2 ^ j)
ones-next w j =
    let next : suc j ≡ 1 + j = omega arith in
    ap (λ k. count_ones (w % 2 ^ k)) next
    ∙ ap count_ones (mod-pow-add w 1 j)
    ∙ ones_cat j (bit_at w j) (w % 2 ^ j) (mod-lt w (pow_pos j))
    ∙ ap (λ n. n + count_ones (w % 2 ^ j)) (ones-digit (bit_at w j) (bit_at-lt w j))

-- no digits are set
ones-none : (w : ℕ) → count_ones (w % 2 ^ 0) ≡ 0
ones-none w = let none : w % 1 ≡ 0 = omega arith in ap count_ones none ∙ ones-zero

-- the first positions of a word, and those before it
count-part : (words : List ℕ) (i j : ℕ) → j ≤ 64 → count_on (content words) (64 * i + j)
    ≡ count_on (content words) (64 * i) + count_ones (get_or words i 0 % 2 ^ j)
unfolding count_on
count-part words i zero within =
    let none : 64 * i + 0 ≡ 64 * i = omega arith in
    ap (count_on (content words)) none ∙ omega (arith, ones-none (get_or words i 0))
count-part words i (suc j) within =
    let before = count-part words i j (omega (arith, within)) in
    let next = ones-next (get_or words i 0) j in
    let more : 64 * i + suc j ≡ suc (64 * i + j) = omega arith in
    ap (count_on (content words)) more
    ∙ ap (λ b. count_on (content words) (64 * i + j) + (if b then 1 else 0))
    (content-at words i j (omega (arith, within)))
    ∙ omega (arith, before, next)

-- the positions of a word, and those before it
pub count-word : (words : List ℕ) (i : ℕ) → get_or words i 0 < 2 ^ 64
    → count_on (content words) (64 * (i + 1))
    ≡ count_on (content words) (64 * i) + count_ones (get_or words i 0)
count-word words i fits =
    let next : 64 * (i + 1) ≡ 64 * i + 64 = omega arith in
    ap (count_on (content words)) next
    ∙ count-part words i 64 (omega arith)
    ∙ ap (λ n. count_on (content words) (64 * i) + count_ones n) (mod-eq_of_lt fits)

-- sets that agree have as many members
pub count-same : (A B : ℕ → Bool) → ((p : ℕ) → A p ≡ B p) → (n : ℕ) → count_on A n ≡ count_on B n
unfolding count_on
count-same A B same zero = refl
count-same A B same (suc n) =
    ap (λ m. m + (if A n then 1 else 0)) (count-same A B same n)
    ∙ ap (λ b. count_on B n + (if b then 1 else 0)) (same n)

-- the positions of the words of two lists, each with the other's bits
abbrev pub count_merged : List ℕ → List ℕ → ℕ → ℕ
count_merged words other i = count_on (content (zip2 bit_or words other)) (64 * i)

-- one more word of both
pub count_merged-next : (words other : List ℕ) (i : ℕ) → length words ≡ length other →
    i < length words → bit_or (get_or words i 0) (get_or other i 0) < 2 ^ 64 →
    count_merged words other (i + 1)
    ≡ count_merged words other i + count_ones (bit_or (get_or words i 0) (get_or other i 0))
count_merged-next words other i same within fits =
    let merged = zip2 bit_or words other in
    let word : get_or merged i 0 ≡ bit_or (get_or words i 0) (get_or other i 0) =
    get_or-zip2 bit_or words other i 0 0 0 within (omega (arith, same, within)) in
    count-word merged i (rw word fits)
    ∙ ap (λ w. count_merged words other i + count_ones w) word

-- sets that agree below a bound have as many members below it
count-below : (A B : ℕ → Bool) (n : ℕ) → ((p : ℕ) → p < n → A p ≡ B p) → count_on A n ≡ count_on B n
unfolding count_on
count-below A B zero same = refl
count-below A B (suc n) same =
    ap (λ m. m + (if A n then 1 else 0))
    (count-below A B n (λ p below. same p (omega (arith, below))))
    ∙ ap (λ b. count_on B n + (if b then 1 else 0)) (same n (omega arith))

-- a word more behind others leaves their content as it is
content-before : (words more : List ℕ) (p : ℕ) → p < 64 * length words →
    content (words ++ more) p ≡ content words p
unfolding content
content-before words more p below =
    ap (λ word. bit_is_on word p) (get_or-append words more 0 (p / 64) (omega (arith, below)))

-- a word behind others adds its own bits
pub count-push : (words : List ℕ) (word : ℕ) → word < 2 ^ 64 →
    count_on (content (words ++ word ∷ [])) (64 * (length words + 1))
    ≡ count_on (content words) (64 * length words) + count_ones word
count-push words word fits =
    let all = words ++ word ∷ [] in
    let last : get_or all (length words) 0 ≡ word = get_or-append_seam words word [] 0 in
    count-word all (length words) (rw last fits)
    ∙ ap (λ n. n + count_ones (get_or all (length words) 0))
    (count-below (content all) (content words) (64 * length words)
    (λ p below. content-before words (word ∷ []) p below))
    ∙ ap (λ w. count_on (content words) (64 * length words) + count_ones w) last
