-- Lines that have more bytes than a line may have.
use Rattle.std.specs.Prelude.{ℕ, ◌-◌, ◌^◌, Bool, not, nat_lt, if◌then◌else◌, List, [], ◌∷◌, length, filter}
use Rattle.duplicates_engine.specs.declared.options.Options.{Options}

-- whether a line has more bytes than a line may have
abbrev pub is_longer : ℕ → List ℕ → Bool
is_longer longest line = nat_lt longest (length line)

-- how many bytes a line may have that is read: where longer lines are passed on, any number
abbrev pub limit_of : Options → ℕ
limit_of options = if options.skips_longer then 2 ^ 64 - 1 else options.longest

-- the lines that have no more, which are sifted
abbrev pub short_lines : ℕ → List (List ℕ) → List (List ℕ)
short_lines longest lines = filter (λ line. not (is_longer longest line)) lines

-- their replies
abbrev pub short_replies : ℕ → List (List ℕ) → List Bool → List Bool
short_replies longest [] replies = []
short_replies longest (line ∷ lines) [] = []
short_replies longest (line ∷ lines) (reply ∷ replies) =
    if is_longer longest line then short_replies longest lines replies
    else reply ∷ short_replies longest lines replies
