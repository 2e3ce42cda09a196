-- When digits spell a number.
use Rattle.std.proofs.Common.{◌≡◌, ℕ, ◌<◌, ◌≤◌, ◌^◌, true, false, ◌&&◌, cond, leb, ltb, List, length, get_or, take, take_all, Some, None, Result, Ok, Err, sym, ◌∙◌, ap, arith, inl, inr}
use Rattle.std.specs.Prelude.{OkIff}
use Rattle.std.specs.Result.{result_ok}
use Rattle.std.specs.List.{list_all}
use Rattle.std.specs.Char.{is_ascii_digit}
use Rattle.std.proofs.lemmas.Bool.{and_left, and_right, cond-true, cond-false, lt-ltb, le-ltb, lt-leb, le-leb, cases_lt}
use Rattle.std.proofs.lemmas.Bool.Decides.{nat_tests}
use Rattle.std.proofs.lemmas.List.Folds.{list_all_at}
use Rattle.bloom_engine.specs.Lines.{number_of, is_number, value_of}

-- a text that isn't a number
none : (ds : List ℕ) → is_number ds ≡ false → number_of ds ≡ None
unfolding number_of
none ds fails = cond-false (is_number ds) (Some (value_of ds)) None fails

-- no digit is no number
pub number_of-short : (ds : List ℕ) → length ds ≡ 0 → number_of ds ≡ None
number_of-short ds short =
    none ds (and_left _ _ (and_left _ _
    (and_left (leb 1 (length ds)) _ (lt-leb 1 (length ds) (omega arith)))))

-- more than twenty bytes are none
pub number_of-long : (ds : List ℕ) → 20 < length ds → number_of ds ≡ None
number_of-long ds long =
    none ds
    (and_left _ _ (and_left _ _ (and_right (leb 1 (length ds)) _ (lt-leb (length ds) 20 long))))

-- a text with a byte that is no digit is no number
pub number_of-letter : (ds : List ℕ) (i : ℕ) → i < length ds
    → is_ascii_digit (get_or ds i 0) ≡ false → number_of ds ≡ None
number_of-letter ds i below off =
    none ds (and_left _ _ (and_right _ _ (list_all_at is_ascii_digit ds i 0 below off)))

-- what a text that is no number comes to
pub ruleset no_numbers = (number_of-short, number_of-long, number_of-letter, nat_tests)

-- digits, as many as are taken, are one if it is below 2^64
pub number_of-digits : (ds : List ℕ) → 1 ≤ length ds → length ds ≤ 20
    → list_all is_ascii_digit ds ≡ true
    → number_of ds ≡ cond (ltb (value_of ds) (2 ^ 64)) (Some (value_of ds)) None
unfolding number_of
number_of-digits ds some few all =
    ap (λ b.
    cond (b && leb (length ds) 20 && list_all is_ascii_digit ds && ltb (value_of ds) (2 ^ 64))
    (Some (value_of ds)) None)
    (le-leb 1 (length ds) some)
    ∙ ap (λ b. cond (b && list_all is_ascii_digit ds && ltb (value_of ds) (2 ^ 64))
    (Some (value_of ds)) None) (le-leb (length ds) 20 few)
    ∙ ap (λ b. cond (b && ltb (value_of ds) (2 ^ 64)) (Some (value_of ds)) None) all

-- every digit of a text was read
pub number_of-whole : (ds : List ℕ) (n value : ℕ) → length ds ≤ n → (length ds ≡ 0 → ⊥)
    → length ds ≤ 20 → value ≡ value_of (take n ds)
    → list_all is_ascii_digit (take n ds) ≡ true
    → cond (ltb value (2 ^ 64)) (Some value) None ≡ number_of ds
number_of-whole ds n value read some few is all =
    let whole : take n ds ≡ ds = take_all n ds read in
    let digits : list_all is_ascii_digit ds ≡ true =
    ap (list_all is_ascii_digit) (sym whole) ∙ all in
    ap (λ v. cond (ltb v (2 ^ 64)) (Some v) None) (is ∙ ap value_of whole)
    ∙ sym (number_of-digits ds (omega (arith, some)) few digits)

-- what `try_from(..).ok()` gives
pub tried : {E : Type 0} (r : Result ℕ E) (v : ℕ) → OkIff r (v < 2 ^ 64) v
    → result_ok r ≡ cond (ltb v (2 ^ 64)) (Some v) None
tried (Ok x) v h = ap Some h.1
    ∙ sym (cond-true (ltb v (2 ^ 64)) (Some v) None (lt-ltb v (2 ^ 64) h.0))
tried (Err e) v h =
    sym (cond-false (ltb v (2 ^ 64)) (Some v) None (le-ltb v (2 ^ 64) (not_below v (2 ^ 64) h)))
  where
    not_below : (a b : ℕ) → (a < b → ⊥) → b ≤ a
    not_below a b h = elim (cases_lt a b) [ inl below ↦ absurd (h below) | inr above ↦ above ]
