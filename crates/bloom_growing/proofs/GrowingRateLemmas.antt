-- Brackets of the rate of several filters together, one filter after the other.
use Rattle.std.proofs.Common.{◌≡◌, ℕ, zero, suc, ◌+◌, ◌*◌, ◌^◌, ◌<◌, ◌≤◌, max, Bool, false, ◌||◌, List, [], ◌∷◌, ◌++◌, length, map, take, get_or, refl, sym, ◌∙◌, ap, ap₂, subst, arith}
use Rattle.std.proofs.Math.Bool.{or-false}
use Rattle.std.proofs.Math.Nat.{le_of_mul-le-mul_right, mul-le-mul_left, one-le-pow, pow-le-pow_right}
use Rattle.std.proofs.Math.Seq.{take-suc}
use Rattle.bloom_growing.proofs.Common.{map-append, list_any-append, Bracket, room_at}
use Rattle.std.proofs.lemmas.List.Sums.{sum_by_push}
use Rattle.bloom_parts.specs.Brackets.{low_of, high_of, Holds, rate_low}
use Rattle.bloom_parts.specs.Counts.{count_on}
use Rattle.bloom_parts.specs.FalsePositives.{BoundsEither, HoldsFalsePositives, false_pos_high}
use Rattle.bloom_plain.specs.Filter.{Filter, HasShape, num_bits_of}
use Rattle.bloom_growing.specs.GrowingRates.{Part, part_after, AnswerAt, one_answers, greatest, BoundsAny, parts_full}
use Rattle.bloom_growing.proofs.GrowingLemmas.{room_at-next}

-- the greatest of numbers and one more behind them
greatest-push : (xs : List ℕ) (x : ℕ) → greatest (xs ++ x ∷ []) ≡ max (greatest xs) x
greatest-push [] x = omega arith
greatest-push (y ∷ xs) x = let rest = greatest-push xs x in omega (arith, rest)

-- tests at the rates before one more, and a test at that one
record Parted (n : ℕ) (tests : List (ℕ → Bool)) (before : List Part) (part : Part) : Type 0 where
  pub first : List (ℕ → Bool)
  pub last : ℕ → Bool
  pub are : tests ≡ first ++ last ∷ []
  pub answers : AnswerAt n first before
  pub at : count_on last n * part.all ≡ n * part.found

-- the last of tests at rates
parted : (n : ℕ) (tests : List (ℕ → Bool)) (before : List Part) (part : Part) →
    AnswerAt n tests (before ++ part ∷ []) → Parted n tests before part
parted n [] [] part is = absurd is
parted n [] (other ∷ before) part is = absurd is
parted n (test ∷ []) [] part is = record {
  first = [];
  last = test;
  are = refl;
  answers = tt;
  at = is.0;
}
parted n (test ∷ next ∷ tests) [] part is = absurd (is.1)
parted n (test ∷ tests) (other ∷ before) part is =
    let rest = parted n tests before part is.1 in record {
      first = test ∷ rest.first;
      last = rest.last;
      are = ap (λ l. test ∷ l) rest.are;
      answers = (is.0, rest.answers);
      at = rest.at;
    }

-- bounds of a rate are bounds of the part that a test at this rate answers with true
pub bounds-test : (u low high n count : ℕ) (found all : ℕ) → 0 < all → low * all ≤ u * found →
    u * found ≤ high * all → count * all ≡ n * found →
    (low * n ≤ u * count) × (u * count ≤ high * n)
bounds-test u low high n count found all some below above is =
    let scaled : u * (count * all) ≡ u * (n * found) = ap (λ v. u * v) is in
    let first : (low * n) * all ≤ (u * count) * all =
    omega (arith, mul-le-mul_left n below, scaled) in
    let second : (u * count) * all ≤ (high * n) * all =
    omega (arith, mul-le-mul_left n above, scaled) in
    (le_of_mul-le-mul_right first some, le_of_mul-le-mul_right second some)

-- no look-up is answered by no test
count-none : (n : ℕ) → count_on (λ q. false) n ≡ 0
unfolding count_on
count-none zero = refl
count-none (suc n) = omega (arith, count-none n)

-- the rate of no filters is nothing
pub bounds-none : (rate : Bracket) → low_of rate ≡ 0 → high_of rate ≡ 0 → BoundsAny [] rate
bounds-none rate low_is high_is = record {
  holds = none;
  low = low_is;
  high = high_is;
}
  where
    none : (n : ℕ) (tests : List (ℕ → Bool)) → AnswerAt n tests [] →
        Holds rate (count_on (one_answers tests) n) n
    none n [] answers = record {
      at_least = rw low_is (omega arith);
      at_most = rw high_is (omega (arith, count-none n));
    }
    none n (test ∷ tests) answers = absurd answers

-- one more filter
pub bounds-push : (before : List Part) (part : Part) (rate one next : Bracket) → 0 < part.all →
    BoundsAny before rate → Holds one part.found part.all → low_of one ≡ part.low →
    high_of one ≡ part.high → BoundsEither rate one next → BoundsAny (before ++ part ∷ []) next
bounds-push before part rate one next some are is low_is high_is either = record {
  holds = λ n tests answers.
      let parts = parted n tests before part answers in
      let test = bounds-test (2 ^ 63) (low_of one) (high_of one) n (count_on parts.last n)
      part.found part.all some is.at_least is.at_most parts.at in
      let both = either.holds n (one_answers parts.first) parts.last
      (are.holds n parts.first parts.answers)
      (record { at_least = test.0; at_most = test.1 }) in
      subst (λ l. Holds next (count_on (one_answers l) n) n) (sym parts.are)
      (subst (λ A. Holds next (count_on A n) n) (last-or parts.first parts.last) both);
  low =
      either.low ∙ ap₂ max are.low low_is
      ∙ sym (greatest-push (map (λ p. p.low) before) part.low)
      ∙ ap greatest (sym (map-append (λ p. p.low) before (part ∷ [])));
  high =
      let all = sum_by_push (λ p. p.high) before part in
      omega (arith, either.high, are.high, high_is, all);
}
  where
    last-or : (first : List (ℕ → Bool)) (last : ℕ → Bool) →
        (λ q. one_answers first q || last q) ≡ one_answers (first ++ last ∷ [])
    last-or first last i q =
        (ap (λ b. one_answers first q || b) (sym (or-false (last q)))
        ∙ sym (list_any-append (λ test. test q) first (last ∷ []))) i

-- the mean rate of full filters so far, and the room of the next
pub record FullSoFar {S : Type 0} (filters : List (Filter S)) (count first_room room : ℕ)
    (rate : Bracket) : Type 0 where
  pub bounds : BoundsAny (parts_full first_room 0 filters) rate
  pub next : room ≡ room_at first_room count

-- one more full filter behind others
pub parts_full-push : {S : Type 0} (room i : ℕ) (filters : List (Filter S)) (f : Filter S) →
    parts_full room i (filters ++ f ∷ [])
    ≡ parts_full room i filters ++ part_after f (room_at room (i + length filters)) ∷ []
parts_full-push room i [] f =
    let none : i ≡ i + 0 = omega arith in
    ap (λ j. part_after f (room_at room j) ∷ []) none
parts_full-push room i (g ∷ filters) f =
    let next : i + 1 + length filters ≡ i + suc (length filters) = omega arith in
    ap (λ l. part_after g (room_at room i) ∷ l)
    (parts_full-push room (i + 1) filters f
    ∙ ap (λ j. parts_full room (i + 1) filters ++ part_after f (room_at room j) ∷ []) next)

-- a filter with a shape has look-ups
pub some-lookups : {S : Type 0} (f : Filter S) (e : ℕ) → HasShape f → 0 < num_bits_of f ^ e
some-lookups f e shape = one-le-pow e (num_bits_of f) (omega (arith, shape.some_words))

-- one more item of a list
pub take-next : {A : Type 0} (l : List A) (i : ℕ) (x : A) → i < length l → x ≡ get_or l i x →
    take (i + 1) l ≡ take i l ++ x ∷ []
take-next l i x within is =
    let next : i + 1 ≡ suc i = omega arith in
    ap (λ j. take j l) next ∙ take-suc l i x within ∙ ap (λ y. take i l ++ y ∷ []) (sym is)

-- one more full filter, and twice the room
pub full-push : {S : Type 0} (before : List (Filter S)) (f : Filter S)
    (i first_room room : ℕ) (rate one next : Bracket) → length before ≡ i →
    FullSoFar before i first_room room rate → HasShape f →
    HoldsFalsePositives one (num_bits_of f) (f.hashes * room) f.hashes →
    low_of one ≡ rate_low (num_bits_of f) (f.hashes * room) f.hashes →
    high_of one ≡ false_pos_high (num_bits_of f) (f.hashes * room) f.hashes →
    BoundsEither rate one next → FullSoFar (before ++ f ∷ []) (i + 1) first_room (room * 2) next
full-push before f i first_room room rate one next long far shape is low_is high_is either =
    let place : length before ≡ 0 + length before = omega arith in
    let here : room_at first_room (0 + length before) ≡ room =
    ap (λ j. room_at first_room j) (sym place ∙ long) ∙ sym far.next in
    let list : parts_full first_room 0 (before ++ f ∷ [])
    ≡ parts_full first_room 0 before ++ part_after f room ∷ [] =
    parts_full-push first_room 0 before f
    ∙ ap (λ r. parts_full first_room 0 before ++ part_after f r ∷ []) here in
    record {
      bounds =
          rw list (bounds-push (parts_full first_room 0 before) (part_after f room) rate one next
          (some-lookups f (f.hashes * room + f.hashes) shape) far.bounds is low_is high_is either);
      next = ap (λ r. r * 2) far.next ∙ sym (room_at-next first_room i);
    }

-- a room of one of some filters fits where that of the last does
pub room-fits : (room i last : ℕ) → i < last → room_at room last < 2 ^ 64 →
    room_at room i * 2 < 2 ^ 64
room-fits room i last before fits =
    let more : room * 2 ^ (i + 1) ≤ room * 2 ^ last =
    mul-le-mul_left room (pow-le-pow_right (omega arith) (omega (arith, before))) in
    omega (arith, room_at-next room i, more, fits)
