-- Sizes in lines, numbers of hashes, refusals, and what builders make for a rate: for each
-- definition that public clauses cite cases at both sides of each bound. The rate of a half has one
-- halving, and 1000 items at that rate take 1448 bits in a Bloom filter; that is a premise here.
use Rattle.std.proofs.Common.{◌≡◌, ◌-◌, ◌^◌, ◌∙◌, ℕ, [], ◌∷◌, map, replicate, Some, None, refl, ap, arith, lit<, lit≤}
use Rattle.bloom_parts.specs.declared.error.FilterError.TheVariants.{ZeroBits, TooManyWords, SizeOverflow}
use Rattle.bloom_parts.specs.Sizing.{IsHalvings, OneSizeLaw}
use Rattle.bloom_plain.specs.Builders.{Start, RateStart}
use Rattle.bloom_plain.specs.Filter.{Filter}
use Rattle.bloom_blocked.specs.declared.error.LinesError.TheVariants as lines
use Rattle.bloom_blocked.specs.BlockedSizing.{line_words_for, bits_in_lines, IsSizeInLines, IsTooLargeInLines, hashes_in_lines, sized_in_lines, IsSizeInLinesOf, zero_lines_start, IsMadeInLinesFor, line_bits_refusal, line_size_refusal}
use Rattle.bloom_blocked.specs.LineRefusals.{lines_code_of, lines_refusal}
use Rattle.bloom_blocked.proofs.Cases.{line}

-- a line has 512 bits, which are eight words
line_words_for-cases : (line_words_for 0 ≡ 0) × (line_words_for 512 ≡ 8) × (line_words_for 513 ≡ 16)
line_words_for-cases = (refl, refl, refl)

-- the numbers of hashes of 100 items up to each bound, above it, and at most
hashes_in_lines-cases : (map (λ bits. hashes_in_lines bits 100)
    (208 ∷ 359 ∷ 511 ∷ 668 ∷ 832 ∷ 1006 ∷ 1193 ∷ 1394 ∷ 1613 ∷ 1853 ∷ 2119 ∷ 2414 ∷ 2745 ∷ 3117
    ∷ 3537 ∷ []) ≡ 1 ∷ 2 ∷ 3 ∷ 4 ∷ 5 ∷ 6 ∷ 7 ∷ 8 ∷ 9 ∷ 10 ∷ 11 ∷ 12 ∷ 13 ∷ 14 ∷ 15 ∷ [])
    × (map (λ bits. hashes_in_lines bits 100)
    (209 ∷ 360 ∷ 512 ∷ 669 ∷ 833 ∷ 1007 ∷ 1194 ∷ 1395 ∷ 1614 ∷ 1854 ∷ 2120 ∷ 2415 ∷ 2746 ∷ 3118
    ∷ 3538 ∷ []) ≡ 2 ∷ 3 ∷ 4 ∷ 5 ∷ 6 ∷ 7 ∷ 8 ∷ 9 ∷ 10 ∷ 11 ∷ 12 ∷ 13 ∷ 14 ∷ 15 ∷ 16 ∷ [])
    × (hashes_in_lines (2 ^ 64 - 512) 1 ≡ 16)
hashes_in_lines-cases = (refl, refl, refl)

-- no bits are refused, and more than 2^55 - 1 lines
line_bits_refusal-cases : (line_bits_refusal 0 ≡ Some ZeroBits) × (line_bits_refusal 1 ≡ None)
    × (line_bits_refusal (2 ^ 64 - 512) ≡ None)
    × (line_bits_refusal (2 ^ 64 - 511) ≡ Some TooManyWords)
line_bits_refusal-cases = (refl, refl, refl, refl)

line_size_refusal-cases : (line_size_refusal (2 ^ 64 - 512) ≡ None)
    × (line_size_refusal (2 ^ 64 - 1) ≡ Some TooManyWords)
    × (line_size_refusal (2 ^ 64) ≡ Some SizeOverflow)
line_size_refusal-cases = (refl, refl, refl)

-- words are refused that are none, too many, or no whole lines
lines_refusal-cases : (lines_refusal 0 ≡ Some lines.EmptyWords) × (lines_refusal 8 ≡ None)
    × (lines_refusal 12 ≡ Some lines.PartOfALine)
    × (lines_refusal (2 ^ 58) ≡ Some lines.TooManyWords)
lines_refusal-cases = (refl, refl, refl, refl)

-- one that other filters have has their number
lines_code_of-cases : (lines_code_of lines.EmptyWords ≡ 2) × (lines_code_of lines.TooManyWords ≡ 3)
    × (lines_code_of lines.PartOfALine ≡ 16)
lines_code_of-cases = (refl, refl, refl)

-- a builder of one line of zeros
abbrev start : Start ℕ
start = record { words = replicate 8 0; hasher = 7 }

-- 512 bits have six hashes for 51 items, and sixteen for one or none
sized_in_lines-cases : (sized_in_lines start 51 ≡ line 0 0 6 7)
    × (sized_in_lines start 1 ≡ line 0 0 16 7)
    × (sized_in_lines start 0 ≡ line 0 0 16 7)
sized_in_lines-cases = (refl, refl, refl)

-- the hundredths that come on top, where a plain filter has up to 8, 10, 12, 16, 20, 24 and 28 bits
-- for each of 100 items, and above, are rounded up
is_size_in_lines-steps : map (λ plain. bits_in_lines plain 100)
    (800 ∷ 801 ∷ 1000 ∷ 1001 ∷ 1200 ∷ 1201 ∷ 1600 ∷ 1601 ∷ 2000 ∷ 2001 ∷ 2400 ∷ 2401 ∷ 2800
    ∷ 2801 ∷ [])
    ≡ 816 ∷ 834 ∷ 1040 ∷ 1062 ∷ 1272 ∷ 1322 ∷ 1760 ∷ 1858 ∷ 2320 ∷ 2482 ∷ 2976 ∷ 3194 ∷ 3724
    ∷ 4034 ∷ []
is_size_in_lines-steps = refl

-- the builder of a half, under the hasher 7
abbrev at_half : RateStart ℕ
at_half = record {
  rate = record { num = 1; den = 2; num_above = lit< tt; den_above = lit< tt };
  hasher = 7;
}

-- a filter of this many zero words, with these hashes and this hasher
abbrev blank : ℕ → ℕ → ℕ → Filter ℕ
blank words hashes hasher =
    record { words = replicate words 0; hashes = hashes; hasher = hasher }

module _ (half : IsHalvings 1 2 64) (one_size : OneSizeLaw) where
  -- 2 hundredths come on top of the 1448 bits of 1000 items, and there is no other size
  only_size : (bits : ℕ) → IsSizeInLinesOf at_half 1000 bits → bits ≡ 1477
  only_size bits is =
      is.2 ∙ ap (λ b. bits_in_lines b 1000) (one_size 1000 1 2 is.0 1448 is.1 (64, half, refl))

  -- no items count as one, which takes a word and 44 hundredths more
  is_size_in_lines-cases : IsSizeInLines 1000 1 2 1477 × IsSizeInLinesOf at_half 0 93
      × (IsSizeInLines 1000 1 2 1476 → ⊥)
      × (IsSizeInLines 1000 1 2 1478 → ⊥)
  is_size_in_lines-cases = (
    (1448, (64, half, refl), refl),
    (64, (64, half, refl), refl),
    λ is. omega (arith, only_size 1476 is),
    λ is. omega (arith, only_size 1478 is),
  )

  -- a number of items whose bits are 2^64 without what comes on top, and 1000 items
  is_too_large_in_lines-cases : IsTooLargeInLines 12786308645202655227 1 2
      × (IsTooLargeInLines 1000 1 2 → ⊥)
  is_too_large_in_lines-cases = (
    (18815678955183742649, (18446744073709551616, (64, half, refl), refl), lit≤ tt),
    λ is. omega (arith, only_size is.0 is.1, is.2),
  )

  -- three lines are made for 1000 items, which one hash suits, and no other filter is
  is_made_in_lines_for-cases : IsMadeInLinesFor at_half 1000 (blank 24 1 7)
      × ((f : Filter ℕ) → IsMadeInLinesFor at_half 1000 f → f ≡ blank 24 1 7)
  is_made_in_lines_for-cases = (
    (1477, (1448, (64, half, refl), refl), refl),
    λ f is. is.2 ∙ ap (λ b. sized_in_lines (zero_lines_start at_half b) 1000) (only_size is.0 is.1),
  )
