-- Words as sets of positions, and the positions of hashes, at values from outside: for each
-- definition that public clauses cite a case that holds and cases as near as can be that don't.
-- The hash 1 has the positions 0, 20, 32 and 29 among 64, and the hash 0 has position 0 alone.
use Rattle.std.proofs.Common.{◌≡◌, ℕ, zero, suc, ◌+◌, ◌-◌, ◌^◌, ◌<◌, ◌≤◌, Bool, true, false, [], ◌∷◌, slice_index, refl, sym, arith, lit<, lit≤}
use Rattle.bloom_parts.proofs.Common.{both_ways, chain, IsAt, content, index_of, AreWords, EqualWordsLaw, BoundLaw, count_on, place, positions, are_in, IsPosition, IsPart, PositionsLaw, SubsetLaw, RangeLaw}
use Rattle.bloom_parts.specs.Many.{TellsFound, TellsNew, is_new}
use Rattle.bloom_parts.specs.Shares.{share_start, IsOnly, ShareLaw, ReachedLaw, EvenLaw}
use Rattle.bloom_parts.proofs.BitSetLemmas.{bits-next, content-where, no-bit}
use Rattle.bloom_parts.proofs.PlaceLemmas.{part-from}

-- the source hash comes first, and sums are truncated to 64 bits
chain-cases : (chain 1 0 ≡ 0x0000_0000_0000_0001) × (chain 1 1 ≡ 0x517c_c1b7_2722_0ab5)
    × (chain 1 2 ≡ 0x8114_f89c_0b63_613f)
    × (chain 0xffff_ffff_ffff_ffff 1 ≡ 0xae83_3e48_d8dd_f56a)
unfolding chain
chain-cases = (refl, refl, refl, refl)

-- a chain after one value, and with a value too few or another word to add
is_at-cases : IsAt 1 1 (record { newest = 0x517c_c1b7_2722_0ab5; added = 0x517c_c1b7_2722_0a95 })
    × (IsAt 1 1 (record { newest = 1; added = 0x517c_c1b7_2722_0a95 }) → ⊥)
    × (IsAt 1 1 (record { newest = 0x517c_c1b7_2722_0ab5; added = 0x517c_c1b7_2722_0a96 }) → ⊥)
unfolding chain
is_at-cases = (
  record { newest = refl; added = refl },
  λ is. omega (arith, is.newest),
  λ is. omega (arith, is.added),
)

-- bit 32 of word 1 is position 96 and no other, and past the last word nothing is set
content-cases : (content (0 ∷ 2 ^ 32 ∷ 0 ∷ []) 96 ≡ true)
    × (content (0 ∷ 2 ^ 32 ∷ 0 ∷ []) 95 ≡ false)
    × (content (0xffff_ffff_ffff_ffff ∷ []) 63 ≡ true)
    × (content (0xffff_ffff_ffff_ffff ∷ []) 64 ≡ false)
unfolding content
content-cases = (refl, refl, refl, refl)

-- three positions share the hashes by thirds
index_of-cases : (index_of 3 6148914691236517205 ≡ 0) × (index_of 3 6148914691236517206 ≡ 1)
    × (index_of 3 0xffff_ffff_ffff_ffff ≡ 2)
index_of-cases = (refl, refl, refl)

-- a word is below 2^64
are_words-cases : AreWords (0xffff_ffff_ffff_ffff ∷ [])
    × (AreWords (0 ∷ 0x1_0000_0000_0000_0000 ∷ []) → ⊥)
are_words-cases = (greatest, λ are. omega (arith, are 1 0 (lit< tt)))
  where
    greatest : AreWords (0xffff_ffff_ffff_ffff ∷ [])
    greatest zero other below = lit< tt
    greatest (suc i) other below = absurd (omega arith)

-- the last position of a word and the first of the next are two, of which one is below the bound
count_on-cases : (count_on (content (2 ^ 63 ∷ 1 ∷ [])) 128 ≡ 2)
    × (count_on (content (2 ^ 63 ∷ 1 ∷ [])) 64 ≡ 1)
    × (count_on (content (2 ^ 63 ∷ 1 ∷ [])) 63 ≡ 0)
unfolding content count_on
count_on-cases = (refl, refl, refl)

-- positions of the hash 1 among 64 and 128, and of the greatest hash
place-cases : (place 64 1 0 ≡ 0) × (place 64 1 1 ≡ 20) × (place 64 1 2 ≡ 32)
    × (place 128 1 1 ≡ 40) × (place 128 1 2 ≡ 64)
    × (place 64 0xffff_ffff_ffff_ffff 0 ≡ 63) × (place 64 0xffff_ffff_ffff_ffff 1 ≡ 43)
unfolding chain
place-cases = (refl, refl, refl, refl, refl, refl, refl)

-- of three positions of the hash 1 the last is 32, and 29 is its fourth
positions-cases : (positions 64 3 1 32 ≡ true) × (positions 64 3 1 0 ≡ true)
    × (positions 64 3 1 29 ≡ false) × (positions 64 0 1 0 ≡ false)
unfolding positions chain
positions-cases = (refl, refl, refl, refl)

-- the three positions are in a word with the bits 0, 20 and 32, and not in one without one of them
are_in-cases : (are_in 64 3 1 (content (4296015873 ∷ [])) ≡ true)
    × (are_in 64 3 1 (content (1048577 ∷ [])) ≡ false)
    × (are_in 64 3 1 (content (4296015872 ∷ [])) ≡ false)
unfolding are_in content chain
are_in-cases = (refl, refl, refl)

-- none of the first three places is 29
no_place : (i : ℕ) → i < 3 → place 64 1 i ≡ 29 → ⊥
unfolding chain
no_place zero below is = omega (arith, is)
no_place (suc zero) below is = omega (arith, is)
no_place (suc (suc zero)) below is = omega (arith, is)
no_place (suc (suc (suc i))) below is = omega (arith, below)

is_position-cases : IsPosition 64 3 1 32 × (IsPosition 64 3 1 29 → ⊥)
unfolding chain
is_position-cases = (
  record { index = 2; below = lit< tt; here = refl },
  λ found. no_place found.index found.below found.here,
)

-- what is in the set of positions is a position, and a position is in it
from_positions : PositionsLaw → IsPosition 64 3 1 32 × (positions 64 3 1 32 ≡ true)
from_positions law =
    ((law 64 3 1 32).0 positions-cases.0, (law 64 3 1 32).1 is_position-cases.0)

-- the test holds where the positions are a part of the set, and where one of them isn't it doesn't
from_subset : SubsetLaw → IsPart (positions 64 3 1) (content (4296015873 ∷ []))
    × (are_in 64 3 1 (content (4296015873 ∷ [])) ≡ true)
    × (IsPart (positions 64 3 1) (content (1048577 ∷ [])) → ⊥)
unfolding content
from_subset law = (
  (law 64 3 1 (content (4296015873 ∷ []))).0 are_in-cases.0,
  (law 64 3 1 (content (4296015873 ∷ []))).1
      (part-from 64 3 1 (content (4296015873 ∷ [])) are_in-cases.0),
  λ part. both_ways (content (1048577 ∷ []) 32) refl (part 32 positions-cases.0),
)

-- the greatest hash lies within a single bit too
from_range : RangeLaw → (p : ℕ) → positions 1 2 0xffff_ffff_ffff_ffff p ≡ true → p < 1
from_range law p is = law 1 2 0xffff_ffff_ffff_ffff p (lit< tt) (lit< tt) is

-- lists of two words are equal where their contents are, and have one content where they are equal
from_equal_words : EqualWordsLaw → (a b c d : ℕ) → AreWords (a ∷ b ∷ []) → AreWords (c ∷ d ∷ [])
    → (((p : ℕ) → content (a ∷ b ∷ []) p ≡ content (c ∷ d ∷ []) p) → a ∷ b ∷ [] ≡ c ∷ d ∷ [])
    × (a ∷ b ∷ [] ≡ c ∷ d ∷ [] → (p : ℕ) → content (a ∷ b ∷ []) p ≡ content (c ∷ d ∷ []) p)
from_equal_words law a b c d first second =
    let both = law (a ∷ b ∷ []) (c ∷ d ∷ []) first second refl in (both.1, both.0)

-- no position of one word is 64 or more, and none is set in no words
from_bound : BoundLaw → ((word p : ℕ) → content (word ∷ []) p ≡ true → p < 64)
    × (content [] 0 ≡ true → ⊥)
from_bound law = (λ word p on. law (word ∷ []) p on, λ on. omega (arith, law [] 0 on))

-- the hash at the start of a share has its position alone, and the hashes beside the share don't
from_share : ShareLaw → IsOnly (positions 3 1 6148914691236517206) 1
    × (IsOnly (positions 3 1 6148914691236517205) 1 → ⊥)
    × (IsOnly (positions 3 1 12297829382473034411) 1 → ⊥)
from_share law = (
  (law 3 1 6148914691236517206 (lit< tt) (lit< tt)).1 (lit≤ tt, lit< tt),
  λ only. omega (arith, ((law 3 1 6148914691236517205 (lit< tt) (lit< tt)).0 only).0),
  λ only. omega (arith, ((law 3 1 12297829382473034411 (lit< tt) (lit< tt)).0 only).1),
)

-- a single position has a share, and each of 2^64 has one
from_reached : ReachedLaw → (i : ℕ) → (share_start 1 i < share_start 1 (i + 1))
    × (share_start (2 ^ 64) i < share_start (2 ^ 64) (i + 1))
from_reached law i = (law 1 i (lit< tt) (lit≤ tt), law (2 ^ 64) i (lit< tt) (lit≤ tt))

-- the shares of three positions differ by one hash at most
from_even : EvenLaw → (i j : ℕ) → share_start 3 (i + 1) - share_start 3 i
    ≤ share_start 3 (j + 1) - share_start 3 j + 1
from_even law i j = law 3 i j (lit< tt)

-- the bit of a hash that is contained is set, and neither that of one that isn't, nor one past the
-- hashes
tells_found-cases : TellsFound 64 1 (content (1 ∷ [])) (0 ∷ []) (1 ∷ [])
    × (TellsFound 64 1 (content (1 ∷ [])) (0 ∷ []) (0 ∷ []) → ⊥)
    × (TellsFound 64 1 (content (1 ∷ [])) (0 ∷ []) (3 ∷ []) → ⊥)
    × (TellsFound 64 1 (content (2 ∷ [])) (0 ∷ []) (1 ∷ []) → ⊥)
unfolding content are_in chain
tells_found-cases = (
  bits-next (λ i. are_in 64 1 (slice_index (0 ∷ []) i) (content (1 ∷ []))) (content (0 ∷ []))
      (content (1 ∷ [])) 0 (no-bit (λ i. are_in 64 1 (slice_index (0 ∷ []) i) (content (1 ∷ []))))
      (content-where (0 ∷ []) 0 true 1 (lit< tt) refl),
  λ told. both_ways false refl (told 0),
  λ told. both_ways false refl (sym (told 1)),
  λ told. both_ways false refl (sym (told 0)),
)

-- of a hash that comes twice the first is new and the second isn't, and none that was contained is
tells_new-cases : TellsNew 64 1 (content (0 ∷ [])) (0 ∷ 0 ∷ []) (1 ∷ [])
    × (TellsNew 64 1 (content (0 ∷ [])) (0 ∷ 0 ∷ []) (0 ∷ []) → ⊥)
    × (TellsNew 64 1 (content (0 ∷ [])) (0 ∷ 0 ∷ []) (3 ∷ []) → ⊥)
    × (TellsNew 64 1 (content (1 ∷ [])) (0 ∷ []) (1 ∷ []) → ⊥)
unfolding content are_in positions chain
tells_new-cases = (
  bits-next new (content (1 ∷ [])) (content (1 ∷ [])) 1
      (bits-next new (content (0 ∷ [])) (content (1 ∷ [])) 0 (no-bit new)
      (content-where (0 ∷ []) 0 true 1 (lit< tt) refl))
      (content-where (1 ∷ []) 1 false 0 (lit< tt) refl),
  λ told. both_ways false refl (told 0),
  λ told. both_ways false refl (sym (told 1)),
  λ told. both_ways false refl (sym (told 0)),
)
  where
    new : ℕ → Bool
    new = is_new (positions 64 1) (are_in 64 1) (content (0 ∷ [])) (0 ∷ 0 ∷ [])
