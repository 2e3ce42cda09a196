-- How many lines and how many hashes a blocked filter has, and what its builders make and refuse.
-- Its positions lie less evenly than those of a Bloom filter, so it takes more bits for one rate of
-- false positives, and fewer hashes suit where there are many bits for each item (F. Putze, P.
-- Sanders, J. Singler, 2007). Both tables are this project's own, computed from the number of items
-- in a line, which is Poisson's, and of the bits that they set.
use Rattle.std.specs.Prelude.{◌≡◌, ◌≤◌, ℕ, ◌+◌, ◌*◌, ◌^◌, max, List, [], ◌∷◌, length, replicate, count_by, Option, Some, None, nat_eq, nat_le, nat_lt, if◌then◌else◌}
use Rattle.std.specs.Int.{div_ceil}
use Rattle.bloom_parts.specs.declared.error.FilterError.{FilterError}
use Rattle.bloom_parts.specs.declared.error.FilterError.TheVariants.{ZeroBits, TooManyWords, SizeOverflow}
use Rattle.bloom_parts.specs.Rates.{num_of, den_of}
use Rattle.bloom_parts.specs.Sizing.{IsSizeFor}
use Rattle.bloom_plain.specs.Builders.{Start, RateStart}
use Rattle.bloom_plain.specs.Filter.{Filter}

-- the number of lines of 512 bits for this many bits
abbrev pub lines_for : ℕ → ℕ
lines_for bits = div_ceil bits 512

-- the number of words of these lines
abbrev pub line_words_for : ℕ → ℕ
line_words_for bits = 8 * lines_for bits

-- how many hundredth parts of a Bloom filter's bits come on top of them, by how many bits it has
-- for each item
abbrev pub hundredths_more : ℕ → ℕ → ℕ
hundredths_more bits items =
    if nat_le bits (8 * items) then 2
    else if nat_le bits (10 * items) then 4
    else if nat_le bits (12 * items) then 6
    else if nat_le bits (16 * items) then 10
    else if nat_le bits (20 * items) then 16
    else if nat_le bits (24 * items) then 24
    else if nat_le bits (28 * items) then 33
    else 44

-- the number of bits in lines at the rate of a Bloom filter of this many bits and items
abbrev pub bits_in_lines : ℕ → ℕ → ℕ
bits_in_lines bits items = div_ceil (bits * (100 + hundredths_more bits items)) 100

-- the number of bits in lines for items and the rate num / den
abbrev pub IsSizeInLines : ℕ → ℕ → ℕ → ℕ → Type 0
IsSizeInLines items num den bits =
    (plain : ℕ) × IsSizeFor items num den plain × (bits ≡ bits_in_lines plain items)

-- the number of bits in lines for items and the rate num / den is 2^64 or more
abbrev pub IsTooLargeInLines : ℕ → ℕ → ℕ → Type 0
IsTooLargeInLines items num den =
    (bits : ℕ) × IsSizeInLines items num den bits × (2 ^ 64 ≤ bits)

-- the hundredths of a bit for each item above which one hash more suits
abbrev pub hash_steps : List ℕ
hash_steps =
    208 ∷ 359 ∷ 511 ∷ 668 ∷ 832 ∷ 1006 ∷ 1193 ∷ 1394 ∷ 1613 ∷ 1853 ∷ 2119 ∷ 2414 ∷ 2745 ∷ 3117
    ∷ 3537 ∷ []

-- the number of hashes that suits this many bits in lines and this many items
abbrev pub hashes_in_lines : ℕ → ℕ → ℕ
hashes_in_lines bits items = 1 + count_by (λ t. nat_lt (t * items) (100 * bits)) hash_steps

-- the filter of a builder's words, with the number of hashes that suits its bits and this many
-- items, where 0 items count as 1
abbrev pub sized_in_lines : {S : Type 0} → Start S → ℕ → Filter S
sized_in_lines start items = record {
  words = start.words;
  hashes = hashes_in_lines (64 * length start.words) (max 1 items);
  hasher = start.hasher;
}

-- this is the number of bits for this many items at a builder's rate, where 0 items count as 1
abbrev pub IsSizeInLinesOf : {S : Type 0} → RateStart S → ℕ → ℕ → Type 0
IsSizeInLinesOf start items bits =
    IsSizeInLines (max 1 items) (num_of start.rate) (den_of start.rate) bits

-- the builder of the zero lines for this many bits, under the hasher of a rate's builder
abbrev pub zero_lines_start : {S : Type 0} → RateStart S → ℕ → Start S
zero_lines_start start bits =
    record { words = replicate (line_words_for bits) 0; hasher = start.hasher }

-- this is the filter of zero lines for this many items at a builder's rate, with the number of
-- hashes that suits them
abbrev pub IsMadeInLinesFor : {S : Type 0} → RateStart S → ℕ → Filter S → Type 0
IsMadeInLinesFor start items filter = (bits : ℕ) × IsSizeInLinesOf start items bits
    × (filter ≡ sized_in_lines (zero_lines_start start bits) items)

-- why this many bits are refused, if they are
abbrev pub line_bits_refusal : ℕ → Option FilterError
line_bits_refusal bits =
    if nat_eq bits 0 then Some ZeroBits
    else if nat_le (2 ^ 58) (line_words_for bits) then Some TooManyWords
    else None

-- why a size in bits is refused, if it is
abbrev pub line_size_refusal : ℕ → Option FilterError
line_size_refusal bits =
    if nat_le (2 ^ 64) bits then Some SizeOverflow
    else if nat_le (2 ^ 58) (line_words_for bits) then Some TooManyWords
    else None
