-- Words in groups of eight, which one operation takes together. A turn is one step of a loop over
-- them.
use Rattle.std.specs.Prelude.{ℕ, ◌+◌, ◌/◌, ◌%◌}

-- the turns of a loop over this many words: one for each whole group, and one for each word of the
-- rest
abbrev pub turns_of : ℕ → ℕ
turns_of words = words / 8 + words % 8
