-- Blocked Bloom filters: words in lines of eight, each a Bloom filter of 512 bits of its own (F.
-- Putze, P. Sanders, J. Singler, "Cache-, hash- and space-efficient Bloom filters", 2007). A hash
-- chooses one line, and all of its positions lie there. Words behind the last whole line are no
-- part of the filter. How a hash chooses its line and its positions is this project's choice.
use Rattle.std.specs.Prelude.{◌≡◌, ◌↔◌, ◌<◌, ◌^◌, ℕ, ◌+◌, ◌*◌, ◌/◌, ◌%◌, Bool, true, ◌&&◌, ◌==◌}
use Rattle.bloom_parts.specs.Chain.{added_of}
use Rattle.bloom_parts.specs.Content.{index_of}
use Rattle.bloom_parts.specs.Places.{place, positions, are_in, IsPart}

-- the line of a hash, among this many lines
abbrev pub line_of : ℕ → ℕ → ℕ
line_of lines hash = index_of lines hash

-- the hash that chooses positions within the line: the product that the chain of a hash adds
abbrev pub inner_of : ℕ → ℕ
inner_of hash = added_of hash

-- the part of a set of positions that lies in one line, as a set of positions of that line
abbrev pub in_line : (ℕ → Bool) → ℕ → ℕ → Bool
in_line A line q = A (512 * line + q)

-- position i of a hash
abbrev pub line_place : ℕ → ℕ → ℕ → ℕ
line_place lines hash i = 512 * line_of lines hash + place 512 (inner_of hash) i

-- the set of the first k positions of a hash: those of the inner hash in a filter of 512 bits,
-- moved to the line of the hash
abbrev pub line_positions : ℕ → ℕ → ℕ → ℕ → Bool
line_positions lines k hash p =
    (p / 512) == line_of lines hash && positions 512 k (inner_of hash) (p % 512)

-- whether the first k positions of a hash are all in a set
abbrev pub are_in_line : ℕ → ℕ → ℕ → (ℕ → Bool) → Bool
are_in_line lines k hash A = are_in 512 k (inner_of hash) (in_line A (line_of lines hash))

-- p is one of the first k positions of a hash
pub record IsLinePosition (lines k hash p : ℕ) : Type 0 where
  pub index : ℕ
  pub below : index < k
  pub here : line_place lines hash index ≡ p

-- `line_positions` has exactly the positions of a hash
abbrev pub LinePositionsLaw : Type 0
LinePositionsLaw = (lines k hash p : ℕ) →
    (line_positions lines k hash p ≡ true) ↔ IsLinePosition lines k hash p

-- `are_in_line` tells whether the positions of a hash are a part of a set
abbrev pub LineSubsetLaw : Type 0
LineSubsetLaw = (lines k hash : ℕ) (A : ℕ → Bool) →
    (are_in_line lines k hash A ≡ true) ↔ IsPart (line_positions lines k hash) A

-- each position lies within the lines
abbrev pub LineRangeLaw : Type 0
LineRangeLaw = (lines k hash p : ℕ) → 0 < lines → hash < 2 ^ 64 →
    line_positions lines k hash p ≡ true → p < 512 * lines

-- all positions of a hash lie in one line
abbrev pub OneLineLaw : Type 0
OneLineLaw = (lines k hash p q : ℕ) → line_positions lines k hash p ≡ true →
    line_positions lines k hash q ≡ true → p / 512 ≡ q / 512
