-- How many lines were read, and how many of them were held back or are longer than a line may be.
-- Each number stays at 2^64 - 1.
use Rattle.std.specs.Prelude.{◌≡◌, ◌+◌, ◌-◌, ◌^◌, ℕ, min, Bool, if◌then◌else◌, List, length}
use Rattle.std.specs.List.{count_by}
use Rattle.duplicates_engine.specs.declared.tally.Total.{Total}
use Rattle.duplicates_engine.specs.Longer.{is_longer}

-- the counts of these lines, by their replies: true for a line that is held back
pub record Counts (longest : ℕ) (lines : List (List ℕ)) (replies : List Bool) (total : Total)
    : Type 0 where
  pub read : total.tally.read ≡ min (length lines) (2 ^ 64 - 1)
  pub held : total.tally.held ≡ min (count_by (λ reply. reply) replies) (2 ^ 64 - 1)
  pub longer : total.longer ≡ min (count_by (is_longer longest) lines) (2 ^ 64 - 1)

-- what one line does to the counts, by whether it is longer and by its reply
pub record CountsLine (old new : Total) (is_longer reply : Bool) : Type 0 where
  pub read : new.tally.read ≡ min (old.tally.read + 1) (2 ^ 64 - 1)
  pub held : new.tally.held
      ≡ (if reply then min (old.tally.held + 1) (2 ^ 64 - 1) else old.tally.held)
  pub longer : new.longer ≡ (if is_longer then min (old.longer + 1) (2 ^ 64 - 1) else old.longer)
