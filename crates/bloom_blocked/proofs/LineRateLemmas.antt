-- Sums of the bounds of the rates of lines, and their means.
use Rattle.std.proofs.Common.{◌≡◌, ℕ, zero, suc, ◌+◌, ◌*◌, ◌/◌, ◌^◌, ◌<◌, ◌≤◌, List, eqb, if◌then◌else◌, refl, sym, ap, subst, inl, inr, arith}
use Rattle.bloom_blocked.proofs.Common.{div_ceil, content, SharedWords}
use Rattle.std.proofs.lemmas.Bool.{cases_eq, cond-false, cond-true, eq-eqb, ne_eqb}
use Rattle.std.proofs.lemmas.Grind.{div_ceil_times}
use Rattle.std.proofs.Math.Nat.{div-mul-le_self, lt_of_mul-lt-mul_right, mul-le-mul_right}
use Rattle.bloom_parts.specs.Brackets.{low_of, high_of}
use Rattle.bloom_parts.specs.Counts.{count_on}
use Rattle.bloom_parts.specs.Draws.{sum_below, positives}
use Rattle.bloom_parts.specs.FalsePositives.{BoundsPositives}
use Rattle.bloom_parts.specs.declared.math.bracket.Bracket.{Bracket}
use Rattle.bloom_blocked.specs.LineRates.{positives_in_lines, BoundsLines, BoundsLoadedLines, LineWasLoaded}

-- the sums of the bounds of the first n lines
pub record Summed (words : ℕ → List ℕ) (k n low high : ℕ) : Type 0 where
  pub at_least : low * 512 ^ k ≤ 2 ^ 63 * positives_in_lines words n k
  pub at_most : 2 ^ 63 * positives_in_lines words n k ≤ high * 512 ^ k
  pub ordered : low ≤ high
  pub apart : high ≤ low + 2 * k * n
  pub in_range : high ≤ 2 ^ 63 * n

-- no line yet
pub summed-none : (words : ℕ → List ℕ) (k : ℕ) → Summed words k 0 0 0
unfolding sum_below
summed-none words k = record {
  at_least = omega arith;
  at_most = omega arith;
  ordered = omega arith;
  apart = omega arith;
  in_range = omega arith;
}

-- sums of two numbers, in parts of a third one
add-below : (a b q u p r : ℕ) → a * q ≤ u * p → b * q ≤ u * r → (a + b) * q ≤ u * (p + r)
add-below a b q u p r first second = omega (arith, first, second)

add-above : (a b q u p r : ℕ) → u * p ≤ a * q → u * r ≤ b * q → u * (p + r) ≤ (a + b) * q
add-above a b q u p r first second = omega (arith, first, second)

further : (k n low high l h : ℕ) → high ≤ low + 2 * k * n → h ≤ l + 2 * k →
    high + h ≤ low + l + 2 * k * suc n
further k n low high l h far width = omega (arith, far, width)

-- one line more
pub summed-next : (words : ℕ → List ℕ) (k n low high : ℕ) (rate : Bracket)
    → Summed words k n low high → BoundsPositives 512 k (count_on (content (words n)) 512) rate
    → Summed words k (suc n) (low + low_of rate) (high + high_of rate)
unfolding sum_below
summed-next words k n low high rate so_far one =
    let its = one.holds (content (words n)) refl in
    record {
      at_least =
          add-below low (low_of rate) (512 ^ k) (2 ^ 63) (positives_in_lines words n k)
          (positives 512 k (content (words n))) so_far.at_least its.at_least;
      at_most =
          add-above high (high_of rate) (512 ^ k) (2 ^ 63) (positives_in_lines words n k)
          (positives 512 k (content (words n))) so_far.at_most its.at_most;
      ordered = omega (arith, so_far.ordered, rate.ordered);
      apart =
          further k n low high (low_of rate) (high_of rate) so_far.apart
          (omega (arith, one.width, rate.ordered));
      in_range = omega (arith, so_far.in_range, rate.in_range);
    }

-- a quotient of a sum, rounded down, in parts of as many more
mean-below : (low n q u p : ℕ) → low * q ≤ u * p → low / n * (n * q) ≤ u * p
mean-below low n q u p sum = omega (arith, sum, mul-le-mul_right q (div-mul-le_self low n))

-- and one that is rounded up
mean-above : (high n q u p : ℕ) → 0 < n → u * p ≤ high * q → u * p ≤ div_ceil high n * (n * q)
mean-above high n q u p some sum =
    let up : high ≤ div_ceil high n * n = (div_ceil_times high n some).0 in
    omega (arith, sum, mul-le-mul_right q up)

-- how far the quotients are apart
mean-apart : (low high n k : ℕ) → 0 < n → high ≤ low + 2 * k * n →
    div_ceil high n ≤ low / n + (2 * k + 1)
mean-apart low high n k some far =
    let down : low < (low / n + 1) * n = omega (arith, some) in
    let up : div_ceil high n * n < high + n = (div_ceil_times high n some).1 in
    let near : div_ceil high n * n < (low / n + (2 * k + 2)) * n = omega (arith, down, up, far) in
    omega (arith, lt_of_mul-lt-mul_right n near)

-- the mean of the rates of lines
pub summed-mean : (words : ℕ → List ℕ) (k n low high : ℕ) (mean : Bracket) → 0 < n
    → Summed words k n low high → low_of mean ≡ low / n → high_of mean ≡ div_ceil high n
    → BoundsLines words n k mean
summed-mean words k n low high mean some sums low_is high_is =
    let all = positives_in_lines words n k in
    record {
      holds = record {
        at_least = rw low_is (mean-below low n (512 ^ k) (2 ^ 63) all sums.at_least);
        at_most = rw high_is (mean-above high n (512 ^ k) (2 ^ 63) all some sums.at_most);
      };
      width = omega (arith, low_is, high_is, mean-apart low high n k some sums.apart);
    }

-- lines with those of one index put in
put : (ℕ → List ℕ) → ℕ → List ℕ → ℕ → List ℕ
put words n line = λ i. if eqb i n then line else words i

put-here : (words : ℕ → List ℕ) (n : ℕ) (line : List ℕ) → put words n line n ≡ line
unfolding put
put-here words n line = cond-true (eqb n n) line (words n) (eq-eqb n n refl)

put-other : (words : ℕ → List ℕ) (n : ℕ) (line : List ℕ) (i : ℕ) → i < n →
    put words n line i ≡ words i
unfolding put
put-other words n line i below =
    cond-false (eqb i n) line (words i) (ne_eqb i n (λ is. omega (arith, is, below)))

-- sums of equal terms are equal
sum-same : (n : ℕ) (f g : ℕ → ℕ) → ((i : ℕ) → i < n → f i ≡ g i) → sum_below n f ≡ sum_below n g
unfolding sum_below
sum-same zero f g same = refl
sum-same (suc n) f g same =
    omega (arith, sum-same n f g (λ i below. same i (omega (arith, below))), same n (omega arith))

-- the sums don't look at a line behind them
summed-put : (words : ℕ → List ℕ) (k n low high : ℕ) (line : List ℕ) →
    Summed words k n low high → Summed (put words n line) k n low high
summed-put words k n low high line sums =
    let same : positives_in_lines (put words n line) n k ≡ positives_in_lines words n k =
    sum-same n _ _
    (λ i below. ap (λ l. positives 512 k (content l)) (put-other words n line i below)) in
    record {
      at_least = rw same sums.at_least;
      at_most = rw same sums.at_most;
      ordered = sums.ordered;
      apart = sums.apart;
      in_range = sums.in_range;
    }

-- the first n lines of a vector were loaded, and their bounds were added
pub record SummedLoaded (vector : SharedWords) (k n low high : ℕ) : Type 0 where
  pub words : ℕ → List ℕ
  pub loaded : (line : ℕ) → line < n → LineWasLoaded vector line (words line)
  pub sums : Summed words k n low high

-- one line more
pub loaded-next : (vector : SharedWords) (k n low high : ℕ) (line : List ℕ) (rate : Bracket)
    → SummedLoaded vector k n low high → LineWasLoaded vector n line
    → BoundsPositives 512 k (count_on (content line) 512) rate
    → SummedLoaded vector k (suc n) (low + low_of rate) (high + high_of rate)
loaded-next vector k n low high line rate so_far here one =
    let words : ℕ → List ℕ = put so_far.words n line in
    let its : words n ≡ line = put-here so_far.words n line in
    record {
      words = words;
      loaded = λ i within. elim (cases_eq i n) [
        | inl same ↦
            subst (λ j. LineWasLoaded vector j (words j)) (sym same)
            (subst (λ l. LineWasLoaded vector n l) (sym its) here)
        | inr other ↦
            let below : i < n = omega (arith, within, other) in
            subst (λ l. LineWasLoaded vector i l) (sym (put-other so_far.words n line i below))
            (so_far.loaded i below)
      ];
      sums =
          summed-next words k n low high rate
          (summed-put so_far.words k n low high line so_far.sums)
          (subst (λ l. BoundsPositives 512 k (count_on (content l) 512) rate) (sym its) one);
    }

-- the mean of the rates of lines that were loaded
pub loaded-mean : (vector : SharedWords) (k n low high : ℕ) (mean : Bracket) → 0 < n
    → SummedLoaded vector k n low high → low_of mean ≡ low / n → high_of mean ≡ div_ceil high n
    → BoundsLoadedLines vector n k mean
loaded-mean vector k n low high mean some all low_is high_is = record {
  words = all.words;
  loaded = all.loaded;
  bounds = summed-mean all.words k n low high mean some all.sums low_is high_is;
}
