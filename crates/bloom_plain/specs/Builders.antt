-- What contracts see of a builder, what it makes, and what it refuses. The filters made are as in
-- the crate fastbloom 0.17.0, builder.rs; the refusals and their order are this project's choice.
use Rattle.std.specs.Prelude.{◌≡◌, ℕ, ◌*◌, ◌^◌, max, Bool, List, length, replicate, Option, Some, None, IfSome, nat_eq, nat_le, if◌then◌else◌, refl}
use Rattle.std.specs.Cmp.Lexicographic.{pointwise}
use Rattle.std.specs.Coded.{Coded, code_by, coded×, coded_ℕ, coded_list}
use Rattle.std.specs.Int.{div_ceil}
use Rattle.bloom_parts.specs.declared.error.FilterError.{FilterError}
use Rattle.bloom_parts.specs.declared.error.FilterError.TheVariants.{ZeroBits, EmptyWords, TooManyWords, SizeOverflow, Memory}
use Rattle.bloom_parts.specs.declared.math.rate.Rate.{Rate}
use Rattle.bloom_parts.specs.Rates.{num_of, den_of, same_rate}
use Rattle.bloom_parts.specs.Sizing.{IsSizeFor, hashes_for}
use Rattle.bloom_plain.specs.Filter.{Filter}

-- a builder that has the words of its filter: these words, and the hasher
pub record Start (S : Type 0) : Type 0 where
  pub words : List ℕ
  pub hasher : S

-- a builder that has words is stored as its fields
abbrev pub start_code : {S : Type 0} → Coded S → Coded (Start S)
start_code {S} code =
    code_by (List ℕ × S) (coded× (coded_list coded_ℕ) code)
    (λ b. (b.words, b.hasher)) (λ p. record { words = p.0; hasher = p.1 }) (λ _. refl)

-- a builder that has a rate: the rate of false positives of its filter, and the hasher
pub record RateStart (S : Type 0) : Type 0 where
  pub rate : Rate
  pub hasher : S

-- whether two builders have equal words
abbrev pub same_start : {S : Type 0} → Start S → Start S → Bool
same_start a b = pointwise nat_eq a.words b.words

-- whether two builders have equal rates
abbrev pub same_rate_start : {S : Type 0} → RateStart S → RateStart S → Bool
same_rate_start a b = same_rate a.rate b.rate

-- the number of words for this many bits
abbrev pub words_for : ℕ → ℕ
words_for bits = div_ceil bits 64

-- the filter of a builder's words, with the number of hashes that suits its bits and this many
-- items, where 0 items count as 1
abbrev pub sized_filter : {S : Type 0} → Start S → ℕ → Filter S
sized_filter start items = record {
  words = start.words;
  hashes = hashes_for (64 * length start.words) (max 1 items);
  hasher = start.hasher;
}

-- the builder of zero words for this many bits, under the hasher of a rate's builder
abbrev pub empty_start : {S : Type 0} → RateStart S → ℕ → Start S
empty_start start bits = record { words = replicate (words_for bits) 0; hasher = start.hasher }

-- this is the number of bits for this many items at a builder's rate, where 0 items count as 1
abbrev pub IsSizeOf : {S : Type 0} → RateStart S → ℕ → ℕ → Type 0
IsSizeOf start items bits = IsSizeFor (max 1 items) (num_of start.rate) (den_of start.rate) bits

-- this is the filter of zero words for this many items at a builder's rate, with the number of
-- hashes that suits them
abbrev pub IsMadeFor : {S : Type 0} → RateStart S → ℕ → Filter S → Type 0
IsMadeFor start items filter =
    (bits : ℕ) × IsSizeOf start items bits × (filter ≡ sized_filter (empty_start start bits) items)

-- why this many words are refused, if they are
abbrev pub words_refusal : ℕ → Option FilterError
words_refusal w =
    if nat_eq w 0 then Some EmptyWords
    else if nat_le (2 ^ 58) w then Some TooManyWords
    else None

-- why this many bits are refused, if they are
abbrev pub bits_refusal : ℕ → Option FilterError
bits_refusal bits =
    if nat_eq bits 0 then Some ZeroBits
    else if nat_le (2 ^ 58) (words_for bits) then Some TooManyWords
    else None

-- why a size in bits is refused, if it is
abbrev pub size_refusal : ℕ → Option FilterError
size_refusal bits =
    if nat_le (2 ^ 64) bits then Some SizeOverflow
    else if nat_le (2 ^ 58) (words_for bits) then Some TooManyWords
    else None

-- a call fails with exactly the refusal that is listed for it; where none is listed, it succeeds or
-- is out of memory
abbrev pub RefusesAs : Option FilterError → Option FilterError → Type 0
RefusesAs None error = IfSome error (λ e. e ≡ Memory)
RefusesAs (Some refusal) error = error ≡ Some refusal
