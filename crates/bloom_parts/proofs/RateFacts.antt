-- Refusals and rates, case by case.
use Rattle.std.proofs.Common.{◌≡◌, ℕ, ◌<◌, true, false, Some, None, refl, lit<}
use Rattle.bloom_parts.specs.declared.error.FilterError.TheVariants.{ZeroBits, EmptyWords, TooManyWords, ZeroRate, SizeOverflow, Memory, HashCount, Worker}
use Rattle.bloom_parts.specs.declared.math.rate.Rate.{Rate}
use Rattle.bloom_parts.specs.Codes.{code_of}
use Rattle.bloom_parts.specs.Rates.{num_of, den_of, rate_refusal, same_rate}

-- the numbers of the refusals
codes : (code_of ZeroBits ≡ 1) × (code_of EmptyWords ≡ 2) × (code_of TooManyWords ≡ 3)
    × (code_of ZeroRate ≡ 4) × (code_of SizeOverflow ≡ 5) × (code_of Memory ≡ 6)
    × (code_of HashCount ≡ 7) × (code_of Worker ≡ 8)
codes = (refl, refl, refl, refl, refl, refl, refl, refl)

-- a rate with a part of zero is refused, and no other
rate_refusal-cases : (rate_refusal 0 1 ≡ Some ZeroRate) × (rate_refusal 1 0 ≡ Some ZeroRate)
    × (rate_refusal 1 1 ≡ None) × (rate_refusal 3 2 ≡ None)
rate_refusal-cases = (refl, refl, refl, refl)

-- the rate of these parts
abbrev rate : (num den : ℕ) → 0 < num → 0 < den → Rate
rate num den num_above den_above =
    record { num = num; den = den; num_above = num_above; den_above = den_above }

-- 1 / 2 is 2 / 4, and not 2 / 5
same_rate-cases : (same_rate (rate 1 2 (lit< tt) (lit< tt)) (rate 2 4 (lit< tt) (lit< tt)) ≡ true)
    × (same_rate (rate 1 2 (lit< tt) (lit< tt)) (rate 2 5 (lit< tt) (lit< tt)) ≡ false)
same_rate-cases = (refl, refl)

parts-of_rate : (num_of (rate 2 4 (lit< tt) (lit< tt)) ≡ 2)
    × (den_of (rate 2 4 (lit< tt) (lit< tt)) ≡ 4)
parts-of_rate = (refl, refl)
