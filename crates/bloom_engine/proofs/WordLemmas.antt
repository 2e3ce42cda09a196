-- The words of a content.
use Rattle.std.proofs.Common.{◌≡◌, ℕ, zero, suc, ◌+◌, ◌*◌, ◌%◌, ◌^◌, ◌<◌, ◌≤◌, Bool, cond, eqb, List, [], ◌∷◌, ◌++◌, length, get_or, take, refl, sym, ◌∙◌, ap, arith, add-one, take_all}
use Rattle.std.specs.Int.{bit_at}
use Rattle.std.proofs.lemmas.List.{take_more}
use Rattle.std.proofs.lemmas.Nat.{mod-pow-add}
use Rattle.std.proofs.lemmas.Nat.Bits.{bit_at-lt}
use Rattle.bloom_engine.proofs.Common.{content, word_with_bits, words_with_content}
use Rattle.bloom_parts.proofs.PublishedLemmas.{content-at}

-- a digit of base 2 counts its place or nothing
digit : (d x : ℕ) → d < 2 → cond (eqb d 1) x 0 ≡ d * x
digit zero x small = omega arith
digit (suc zero) x small = omega arith
digit (suc (suc d)) x small = absurd (omega arith)

-- the number with the low k bits of n
low : (n k : ℕ) → word_with_bits (λ bit. eqb (bit_at n bit) 1) k ≡ n % 2 ^ k
unfolding word_with_bits
low n zero = omega arith
low n (suc k) =
    let one : suc k ≡ 1 + k = omega arith in
    ap (λ x. x + cond (eqb (bit_at n k) 1) (2 ^ k) 0) (low n k)
    ∙ ap (λ x. n % 2 ^ k + x) (digit (bit_at n k) (2 ^ k) (bit_at-lt n k))
    ∙ sym (ap (λ j. n % 2 ^ j) one ∙ mod-pow-add n 1 k ∙ omega arith)

-- sets that agree on the first bits have the same word
same_word : (k : ℕ) (A B : ℕ → Bool) → ((j : ℕ) → j < k → A j ≡ B j)
    → word_with_bits A k ≡ word_with_bits B k
unfolding word_with_bits
same_word zero A B same = refl
same_word (suc k) A B same =
    ap (λ x. x + cond (A k) (2 ^ k) 0) (same_word k A B (λ j below. same j (omega arith)))
    ∙ ap (λ b. word_with_bits B k + cond b (2 ^ k) 0) (same k (omega arith))

-- the word of a content at a place is that of the list
word_at : (ws : List ℕ) (i : ℕ) → get_or ws i 0 < 2 ^ 64
    → word_with_bits (λ bit. content ws (64 * i + bit)) 64 ≡ get_or ws i 0
word_at ws i fits =
    same_word 64 (λ bit. content ws (64 * i + bit)) (λ bit. eqb (bit_at (get_or ws i 0) bit) 1)
    (λ j below. content-at ws i j below)
    ∙ low (get_or ws i 0) 64 ∙ omega (arith, fits)

-- the first words of a content are those of the list
front : (ws : List ℕ) → ((i : ℕ) → get_or ws i 0 < 2 ^ 64) → (k : ℕ) → k ≤ length ws
    → words_with_content (content ws) k ≡ take k ws
unfolding words_with_content
front ws fit zero below = refl
front ws fit (suc k) below =
    ap (λ l. l ++ word_with_bits (λ bit. content ws (64 * k + bit)) 64 ∷ [])
    (front ws fit k (omega arith)) ∙ ap (λ x. take k ws ++ x ∷ []) (word_at ws k (fit k))
    ∙ sym (take_more ws k 0 below) ∙ ap (λ j. take j ws) (add-one k)

-- a content has its words back
pub words_of_content : (ws : List ℕ) → ((i : ℕ) → get_or ws i 0 < 2 ^ 64)
    → words_with_content (content ws) (length ws) ≡ ws
words_of_content ws fit = front ws fit (length ws) (omega arith)
    ∙ take_all (length ws) ws (omega arith)
