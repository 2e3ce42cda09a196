-- The laws of the positions of a hash.
use Rattle.std.proofs.Common.{Bool, ◌≡◌, ℕ, ◌+◌, ◌*◌, ◌/◌, ◌%◌, ◌^◌, ◌<◌, true, eqb, sym, ◌∙◌, ap, arith, lit<}
use Rattle.std.proofs.lemmas.Bool.{and_parts, and_from, eqb-true, eq-eqb}
use Rattle.bloom_blocked.proofs.Common.{chain, place, positions, IsPart, line_of, inner_of, in_line, line_positions, LinePositionsLaw, are_in_line, LineSubsetLaw, LineRangeLaw}
use Rattle.bloom_parts.proofs.PublishedLemmas.{position-from, position-to, place-position, part-from, part-to, range_law}
use Rattle.bloom_blocked.proofs.LineLemmas.{place-below, inner-fits}

-- what holds of a position of a hash: its line, and its place there
pub parts-of : (lines k hash p : ℕ) → line_positions lines k hash p ≡ true
    → (p / 512 ≡ line_of lines hash) × (positions 512 k (inner_of hash) (p % 512) ≡ true)
parts-of lines k hash p is =
    let parts = and_parts (eqb (p / 512) (line_of lines hash))
    (positions 512 k (inner_of hash) (p % 512)) is in
    (eqb-true (p / 512) (line_of lines hash) parts.0, parts.1)

-- a position of the inner hash, moved to the line, is one of the hash
pub moved : (lines k hash q : ℕ) → q < 512 → positions 512 k (inner_of hash) q ≡ true
    → line_positions lines k hash (512 * line_of lines hash + q) ≡ true
moved lines k hash q below is =
    let line = line_of lines hash in
    let word : (512 * line + q) / 512 ≡ line = omega (arith, below) in
    let rest : (512 * line + q) % 512 ≡ q = omega (arith, below) in
    and_from (eqb ((512 * line + q) / 512) line)
    (positions 512 k (inner_of hash) ((512 * line + q) % 512))
    (eq-eqb ((512 * line + q) / 512) line word)
    (ap (positions 512 k (inner_of hash)) rest ∙ is)

-- the law of positions
pub line_positions_law : LinePositionsLaw
line_positions_law lines k hash p = (
  (λ is.
      let parts = parts-of lines k hash p is in
      let found = position-from 512 k (inner_of hash) (p % 512) parts.1 in
      record {
        index = found.index;
        below = found.below;
        here = omega (arith, parts.0, found.here);
      }),
  (λ found.
      let q = place 512 (inner_of hash) found.index in
      sym (ap (λ r. line_positions lines k hash r) found.here)
      ∙ moved lines k hash q
      (place-below 512 (inner_of hash) found.index (lit< tt) (inner-fits hash))
      (position-to 512 k (inner_of hash) q
      (place-position 512 k (inner_of hash) found.index found.below))),
)

-- the law of the subset test
pub line_subset_law : LineSubsetLaw
line_subset_law lines k hash A = (
  (λ all p is.
      let parts = parts-of lines k hash p is in
      let whole : 512 * line_of lines hash + p % 512 ≡ p = omega (arith, parts.0) in
      sym (ap A whole)
      ∙ part-from 512 k (inner_of hash) (in_line A (line_of lines hash)) all (p % 512) parts.1),
  (λ part.
      part-to 512 k (inner_of hash) (in_line A (line_of lines hash))
      (λ q is. part (512 * line_of lines hash + q)
      (moved lines k hash q (range_law 512 k (inner_of hash) q (lit< tt) (inner-fits hash) is)
      is))),
)

-- the line of a hash is one of the lines
line-below : (lines hash : ℕ) → 0 < lines → hash < 2 ^ 64 → line_of lines hash < lines
unfolding chain
line-below lines hash some fits = place-below lines hash 0 some fits

-- the law of ranges
pub line_range_law : LineRangeLaw
line_range_law lines k hash p some fits is =
    let parts = parts-of lines k hash p is in
    omega (arith, parts.0, line-below lines hash some fits)

-- positions that are in a set are in a greater set
pub line-greater : (lines k hash : ℕ) (A B : ℕ → Bool) → IsPart A B
    → are_in_line lines k hash A ≡ true → are_in_line lines k hash B ≡ true
line-greater lines k hash A B part all =
    (line_subset_law lines k hash B).1
    (λ p is. part p ((line_subset_law lines k hash A).0 all p is))
