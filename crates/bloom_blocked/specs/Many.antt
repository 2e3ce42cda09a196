-- Many hashes at once in lines, and what a bit set tells of each (`bloom_parts` Many).
use Rattle.std.specs.Prelude.{ℕ, Bool, List}
use Rattle.std.specs.List.{list_all, list_any}
use Rattle.bloom_parts.specs.Many.{Tells, is_found, is_new}
use Rattle.bloom_blocked.specs.Lines.{line_positions, are_in_line}

-- the positions of all of these hashes together
abbrev pub positions_in_lines : ℕ → ℕ → List ℕ → ℕ → Bool
positions_in_lines lines k hashes p = list_any (λ hash. line_positions lines k hash p) hashes

-- whether the positions of all of these hashes are in a set
abbrev pub all_are_in_lines : ℕ → ℕ → List ℕ → (ℕ → Bool) → Bool
all_are_in_lines lines k hashes A = list_all (λ hash. are_in_line lines k hash A) hashes

-- bit i is set exactly if there is a hash i, and all of its positions are in a set
abbrev pub TellsFoundInLines : ℕ → ℕ → (ℕ → Bool) → List ℕ → List ℕ → Type 0
TellsFoundInLines lines k A hashes bits =
    Tells (is_found (are_in_line lines k) A hashes) hashes bits

-- bit i is set exactly if there is a hash i, and not all of its positions are in the set once the
-- hashes before it were inserted
abbrev pub TellsNewInLines : ℕ → ℕ → (ℕ → Bool) → List ℕ → List ℕ → Type 0
TellsNewInLines lines k A hashes bits =
    Tells (is_new (line_positions lines k) (are_in_line lines k) A hashes) hashes bits
