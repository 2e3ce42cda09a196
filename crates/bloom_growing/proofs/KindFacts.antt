-- Filters of both kinds: of each definition cases that hold, and the nearest that don't. In a line
-- of 512 bits hash 1 has the positions 162 and 13, in a plain filter others.
use Rattle.std.proofs.Common.{◌≡◌, ◌∙◌, ℕ, true, false, [], ◌∷◌, length, replicate, Some, None, refl, ap, arith, lit≤}
use Rattle.bloom_growing.proofs.Common.{chain, content, positions, are_in, RateStart, words_for, Filter, rate_start, Plain, Blocked, IsSizeIn, IsMadeIn, size_refusal_in, placement_of, contains, Inserts}
use Rattle.bloom_parts.specs.Sizing.{IsSizeFor, size_for}
use Rattle.bloom_parts.specs.declared.error.FilterError.TheVariants.{TooManyWords}
use Rattle.bloom_blocked.specs.BlockedSizing.{bits_in_lines}
use Rattle.bloom_growing.proofs.Cases.{two, halvings-none, for_one, with_one, with_none, inserts-one}

-- a filter of one line, which has hash 1 there
abbrev line_with_one : Filter ℕ
line_with_one = record {
  words = 8192 ∷ 0 ∷ 17179869184 ∷ 0 ∷ 0 ∷ 0 ∷ 0 ∷ 0 ∷ [];
  hashes = 2;
  hasher = 7;
}

-- a hash is contained by its positions in a line, or by those anywhere
contains-kinds : (contains (placement_of Blocked) line_with_one 1 ≡ true)
    × (contains (placement_of Plain) line_with_one 1 ≡ false)
    × (contains (placement_of Plain) with_one 1 ≡ true)
    × (contains (placement_of Blocked) with_one 1 ≡ false)
unfolding content are_in chain
contains-kinds = (refl, refl, refl, refl)

-- an insert sets those anywhere, or the positions in a line
inserts-kinds : Inserts (placement_of Plain) with_none 1 with_one false
    × (Inserts (placement_of Blocked) with_none 1 with_one false → ⊥)
unfolding content positions chain
inserts-kinds = (inserts-one, λ did. let wrong : true ≡ false = did.bits 0 in cc)

-- one item at the rate two takes 64 bits in a plain filter, since no filter has fewer
only-size : (bits : ℕ) → IsSizeFor 1 4 2 bits → bits ≡ 64
only-size bits is =
    let none : is.0 ≡ 0 = omega (arith, is.1.least 0 (halvings-none 2 (lit≤ tt)).enough) in
    is.2 ∙ ap (size_for 1) none

-- and 44 hundredths more in a blocked one
sizes : IsSizeIn Plain 1 4 2 64 × IsSizeIn Blocked 1 4 2 93 × (IsSizeIn Plain 1 4 2 93 → ⊥)
    × (IsSizeIn Blocked 1 4 2 64 → ⊥)
sizes = (
  (0, halvings-none 2 (lit≤ tt), refl),
  (64, (0, halvings-none 2 (lit≤ tt), refl), refl),
  λ is. let wrong : 93 ≡ 64 = only-size 93 is in omega (arith, wrong),
  λ is.
      let wrong : 64 ≡ 93 = is.2 ∙ ap (λ bits. bits_in_lines bits 1) (only-size is.0 is.1) in
      omega (arith, wrong),
)

-- the builder of this rate, under the hasher 7
abbrev start : RateStart ℕ
start = rate_start two 7

-- a line for one item has as many hashes as any
abbrev line_for_one : Filter ℕ
line_for_one = record { words = replicate 8 0; hashes = 16; hasher = 7 }

made : IsMadeIn Plain start 1 for_one × IsMadeIn Blocked start 1 line_for_one
    × (IsMadeIn Plain start 1 line_for_one → ⊥)
made = (
  (64, sizes.0, refl),
  (93, sizes.1, refl),
  λ is.
      let wrong : 8 ≡ 1 =
      ap (λ f. length f.words) is.2
      ∙ ap (λ bits. length (replicate (words_for bits) 0)) (only-size is.0 is.1) in
      omega (arith, wrong),
)

-- all but 64 of 2^64 bits are words enough for a plain filter, and not whole lines
refusals : (size_refusal_in Plain 18446744073709551552 ≡ None)
    × (size_refusal_in Blocked 18446744073709551552 ≡ Some TooManyWords)
refusals = (refl, refl)
