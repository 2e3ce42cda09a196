-- Sets of positions as lists, since a view at a table holds plain data. `Content` of `bloom_parts`
-- says which bit a position has.
use Rattle.std.specs.Prelude.{◌+◌, ◌*◌, ◌==◌, ◌||◌, ◌&&◌, not, ℕ, zero, suc, Bool, false, List, [], ◌∷◌, if◌then◌else◌}
use Rattle.bloom_parts.specs.Content.{bit_is_on}

-- the set of the numbers of a list
unfoldable pub set_of : List ℕ → ℕ → Bool
set_of [] p = false
set_of (q ∷ qs) p = p == q || set_of qs p

-- the positions of word i, below its bit n, that pass a test
unfoldable pub picked : ℕ → (ℕ → Bool) → ℕ → List ℕ
picked i test zero = []
picked i test (suc n) =
    if test (64 * i + n) then (64 * i + n) ∷ picked i test n else picked i test n

-- the positions of word i that are set in a word
abbrev pub ones_in : ℕ → ℕ → List ℕ
ones_in i word = picked i (bit_is_on word) 64

-- the positions of word i that are set in a mask and clear in the word found
abbrev pub fresh_in : ℕ → ℕ → ℕ → List ℕ
fresh_in i mask found = picked i (λ p. bit_is_on mask p && not (bit_is_on found p)) 64
