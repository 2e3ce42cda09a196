-- The words of a line, as words of a filter of their own, and put back among the others.
use Rattle.std.proofs.Common.{◌++◌, ◌≢◌, ◌≡◌, ℕ, zero, suc, ◌+◌, ◌-◌, ◌*◌, ◌/◌, ◌%◌, ◌^◌, ◌<◌, ◌≤◌, Bool, ◌||◌, ◌&&◌, eqb, List, length, get_or, take, drop, refl, sym, ◌∙◌, ap, arith, inl, inr, lit<, length-drop}
use Rattle.bloom_blocked.proofs.Common.{bit_at, or-false, cases_eq, cases_lt, eq-eqb, ne_eqb, bit_is_on, content, place, positions, are_in, range_law, position-to, place-position, line_of, inner_of, in_line, line_positions, are_in_line}
use Rattle.std.proofs.lemmas.List.{get_or-take, get_or-drop, get_or_append_left, get_or-append_right, length-take-le}
use borrow.Rule.Slice.PartMut.{put_mid}

-- all are in two sets alike that agree on the places
are_in-alike : (n k hash : ℕ) (A B : ℕ → Bool)
    → ((i : ℕ) → i < k → A (place n hash i) ≡ B (place n hash i))
    → are_in n k hash A ≡ are_in n k hash B
unfolding are_in
are_in-alike n zero hash A B same = refl
are_in-alike n (suc k) hash A B same =
    ap (λ b. b && A (place n hash k))
    (are_in-alike n k hash A B (λ i below. same i (omega (arith, below))))
    ∙ ap (λ b. are_in n k hash B && b) (same k (omega arith))

-- each place lies within the bits
pub place-below : (n hash i : ℕ) → 0 < n → hash < 2 ^ 64 → place n hash i < n
place-below n hash i some fits =
    range_law n (i + 1) hash (place n hash i) some fits
    (position-to n (i + 1) hash (place n hash i)
    (place-position n (i + 1) hash i (omega arith)))

-- the inner hash has 64 bits
pub inner-fits : (hash : ℕ) → inner_of hash < 2 ^ 64
inner-fits hash = omega arith

-- the words of a line are eight
pub line-length : (words : List ℕ) (at : ℕ) → at + 8 ≤ length words
    → length (take (at + 8 - at) (drop at words)) ≡ 8
line-length words at within =
    let eight : at + 8 - at ≡ 8 = omega arith in
    rw (eight) (length-take-le 8 (drop at words) (omega (arith, length-drop at words, within)))

-- a line has 512 bits
pub line-bits : (words : List ℕ) (at : ℕ) → at + 8 ≤ length words
    → 64 * length (take (at + 8 - at) (drop at words)) ≡ 512
line-bits words at within = omega (arith, line-length words at within)

-- the positions of a line's words are those of the line
pub content-line : (words : List ℕ) (at line q : ℕ) → at ≡ 8 * line → q < 512
    → content (take (at + 8 - at) (drop at words)) q ≡ content words (512 * line + q)
unfolding content
content-line words at line q start below =
    let word : (512 * line + q) / 64 ≡ at + q / 64 = omega (arith, start) in
    let bit : (512 * line + q) % 64 ≡ q % 64 = omega arith in
    let within : q / 64 < at + 8 - at = omega (arith, below) in
    ap (λ w. bit_is_on w q)
    (get_or-take (at + 8 - at) (drop at words) (q / 64) 0 within
    ∙ get_or-drop at words (q / 64) 0
    ∙ ap (λ j. get_or words j 0) (sym word))
    ∙ ap (λ j. eqb (bit_at (get_or words ((512 * line + q) / 64) 0) j) 1) (sym bit)

-- the test of the inner hash in the words of a line is the test of the hash
pub line-test : (words : List ℕ) (at lines k hash : ℕ) → at ≡ 8 * line_of lines hash
    → at + 8 ≤ length words
    → let part = take (at + 8 - at) (drop at words) in
    are_in (64 * length part) k (inner_of hash) (content part)
    ≡ are_in_line lines k hash (content words)
line-test words at lines k hash start within =
    let part = take (at + 8 - at) (drop at words) in
    ap (λ n. are_in n k (inner_of hash) (content part)) (line-bits words at within)
    ∙ are_in-alike 512 k (inner_of hash) (content part)
    (in_line (content words) (line_of lines hash))
    (λ i _. content-line words at (line_of lines hash) (place 512 (inner_of hash) i) start
    (place-below 512 (inner_of hash) i (lit< tt) (inner-fits hash)))

-- words with a line's words put back
module _ (words ys : List ℕ) (at : ℕ) (eight : length ys ≡ 8) (within : at + 8 ≤ length words)
  where
    put-before : (j : ℕ) → j < at
        → get_or (put_mid at (at + 8 - at) words ys) j 0 ≡ get_or words j 0
    put-before j before =
        let long : length (take at words) ≡ at = length-take-le at words (omega (arith, within)) in
        get_or_append_left (take at words) _ 0 j (omega (arith, long, before))
        ∙ get_or-take at words j 0 before

    put-from : (j : ℕ) → at ≤ j → get_or (put_mid at (at + 8 - at) words ys) j 0
        ≡ get_or (ys ++ drop (at + 8 - at) (drop at words)) (j - at) 0
    put-from j from =
        get_or-append_right (take at words) (ys ++ drop (at + 8 - at) (drop at words)) at j 0
        (length-take-le at words (omega (arith, within))) from

    pub put-here : (j : ℕ) → at ≤ j → j < at + 8
        → get_or (put_mid at (at + 8 - at) words ys) j 0 ≡ get_or ys (j - at) 0
    put-here j from below =
        put-from j from ∙ get_or_append_left ys _ 0 (j - at) (omega (arith, eight, from, below))

    put-after : (j : ℕ) → at + 8 ≤ j
        → get_or (put_mid at (at + 8 - at) words ys) j 0 ≡ get_or words j 0
    put-after j past =
        let same : at + ((at + 8 - at) + (j - at - 8)) ≡ j = omega (arith, past) in
        put-from j (omega (arith, past))
        ∙ get_or-append_right ys (drop (at + 8 - at) (drop at words)) 8 (j - at) 0 eight
        (omega (arith, past))
        ∙ get_or-drop (at + 8 - at) (drop at words) (j - at - 8) 0
        ∙ get_or-drop at words ((at + 8 - at) + (j - at - 8)) 0
        ∙ ap (λ i. get_or words i 0) same

    -- the positions of the line are those of the words put back
    put-line : (line p : ℕ) → at ≡ 8 * line → p / 512 ≡ line
        → content (put_mid at (at + 8 - at) words ys) p ≡ content ys (p % 512)
    unfolding content
    put-line line p start here =
        let word : p / 64 - at ≡ p % 512 / 64 = omega (arith, start, here) in
        let bit : p % 64 ≡ p % 512 % 64 = omega arith in
        ap (λ w. bit_is_on w p)
        (put-here (p / 64) (omega (arith, start, here)) (omega (arith, start, here))
        ∙ ap (λ j. get_or ys j 0) word)
        ∙ ap (λ j. eqb (bit_at (get_or ys (p % 512 / 64) 0) j) 1) bit

    -- the others are as they were
    put-others : (line p : ℕ) → at ≡ 8 * line → p / 512 ≢ line
        → content (put_mid at (at + 8 - at) words ys) p ≡ content words p
    unfolding content
    put-others line p start apart = elim (cases_lt (p / 64) at) [
      | inl before ↦ ap (λ w. bit_is_on w p) (put-before (p / 64) before)
      | inr from ↦ elim (cases_lt (p / 64) (at + 8)) [
        | inl below ↦ absurd (apart (omega (arith, start, from, below)))
        | inr past ↦ ap (λ w. bit_is_on w p) (put-after (p / 64) past)
      ]
    ]

-- setting the positions of the inner hash in the words of a line sets those of the hash
pub line-turned : (words ys : List ℕ) (at lines k hash : ℕ) → at ≡ 8 * line_of lines hash
    → at + 8 ≤ length words
    → length ys ≡ length (take (at + 8 - at) (drop at words))
    → ((q : ℕ) → content ys q ≡ (content (take (at + 8 - at) (drop at words)) q
    || positions (64 * length (take (at + 8 - at) (drop at words))) k (inner_of hash) q))
    → (p : ℕ) → content (put_mid at (at + 8 - at) words ys) p
    ≡ (content words p || line_positions lines k hash p)
line-turned words ys at lines k hash start within long turned p =
    let line = line_of lines hash in
    let eight : length ys ≡ 8 = long ∙ line-length words at within in
    elim (cases_eq (p / 512) line) [
      | inl here ↦
          let whole : 512 * line + p % 512 ≡ p = omega (arith, here) in
          put-line words ys at eight within line p start here
          ∙ turned (p % 512)
          ∙ ap (λ n. content (take (at + 8 - at) (drop at words)) (p % 512)
          || positions n k (inner_of hash) (p % 512)) (line-bits words at within)
          ∙ ap (λ b. b || positions 512 k (inner_of hash) (p % 512))
          (content-line words at line (p % 512) start (omega arith)
          ∙ ap (content words) whole)
          ∙ ap (λ b. content words p || (b && positions 512 k (inner_of hash) (p % 512)))
          (sym (eq-eqb (p / 512) line here))
      | inr apart ↦
          put-others words ys at eight within line p start apart
          ∙ sym (or-false (content words p))
          ∙ ap (λ b. content words p || (b && positions 512 k (inner_of hash) (p % 512)))
          (sym (ne_eqb (p / 512) line apart))
    ]
