-- How many bits are set in a filter, and in either of two.
use Rattle.std.specs.Prelude.{ℕ, ◌||◌}
use Rattle.bloom_parts.specs.Content.{content}
use Rattle.bloom_parts.specs.Counts.{count_on}
use Rattle.bloom_plain.specs.Filter.{Filter, num_bits_of}

-- how many bits of a filter are set
abbrev pub ones_of : {S : Type 0} → Filter S → ℕ
ones_of f = count_on (content f.words) (num_bits_of f)

-- how many bits are set in either of two filters of one shape
abbrev pub ones_of_either : {S : Type 0} → Filter S → Filter S → ℕ
ones_of_either f g = count_on (λ p. content f.words p || content g.words p) (num_bits_of f)
