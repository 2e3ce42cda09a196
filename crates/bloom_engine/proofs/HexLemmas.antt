-- Writing the digits of a word.
use Rattle.std.proofs.Common.{◌≡◌, ◌+◌, ◌-◌, ◌*◌, ◌/◌, ◌%◌, ◌^◌, ◌<◌, ◌++◌, ◌∷◌, [], ℕ, suc, List, length, set, take, drop, arith, ap, sym, ◌∙◌, refl, append_assoc, append-nil, length-set, take-append-drop}
use Rattle.std.proofs.lemmas.List.{drop-set-lt, take_more_set}
use Rattle.bloom_engine.specs.Texts.{hex_text, hex_digit_of}

-- the first of n + 1 digits
first : (n w : ℕ) → hex_text (suc n) w ≡ hex_digit_of (w / 2 ^ (4 * n) % 16) ∷ hex_text n w
unfolding hex_text
first n w = refl

-- no digit is left
none : (w : ℕ) → hex_text 0 w ≡ []
unfolding hex_text
none w = refl

-- the first digits of a word are written, and those to come fit before the end of the line
pub record HasDigits (w at : ℕ) (text : List ℕ) : Type 0 where
  pub len : length text ≡ 17
  pub end : drop 16 text ≡ 10 ∷ []
  pub digits : take at text ++ hex_text (16 - at) w ≡ hex_text 16 w

-- one more digit is written
pub digits-more : (w at digit : ℕ) (text : List ℕ) → HasDigits w at text → at < 16
    → digit ≡ hex_digit_of (w / 2 ^ (60 - 4 * at) % 16) → HasDigits w (at + 1) (set text at digit)
digits-more w at digit text so_far below is =
    let room : at < length text = omega (arith, below, so_far.len) in
    let left : 16 - at ≡ suc (16 - (at + 1)) = omega (arith, below) in
    let shift : 60 - 4 * at ≡ 4 * (16 - (at + 1)) = omega (arith, below) in
    let rest = hex_text (16 - (at + 1)) w in
    record {
      len = length-set text at digit ∙ so_far.len;
      end = drop-set-lt 16 text at digit below ∙ so_far.end;
      digits =
          ap (λ l. l ++ rest) (take_more_set text at digit room)
          ∙ append_assoc (take at text) (digit ∷ []) rest
          ∙ ap (λ d. take at text ++ d ∷ rest) (is ∙ ap (λ s. hex_digit_of (w / 2 ^ s % 16)) shift)
          ∙ ap (λ l. take at text ++ l) (sym (first (16 - (at + 1)) w))
          ∙ ap (λ n. take at text ++ hex_text n w) (sym left)
          ∙ so_far.digits;
    }

-- every digit is written, and the end of the line stands behind them
pub digits-whole : (w at : ℕ) (text : List ℕ) → HasDigits w at text → at ≡ 16
    → text ≡ hex_text 16 w ++ 10 ∷ []
digits-whole w at text so_far all =
    let digits : take 16 text ++ hex_text (16 - 16) w ≡ hex_text 16 w = rw all at so_far.digits in
    let front : take 16 text ≡ hex_text 16 w =
    sym (append-nil (take 16 text)) ∙ ap (λ l. take 16 text ++ l) (sym (none w)) ∙ digits in
    sym (take-append-drop 16 text) ∙ ap (λ l. l ++ drop 16 text) front
    ∙ ap (λ l. hex_text 16 w ++ l) so_far.end
