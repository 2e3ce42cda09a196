use Rattle.std.proofs.Common.{◌≡◌, ℕ, ◌<◌, ◌≤◌, length, slice_index}
use Rattle.fastbloom.specs.Plays.{Puts}
use Rattle.fastbloom.proofs.seated.opening.put_words.Given as goal

-- the words before i are put in, and the others are zero
abbrev pub invariant-words : goal.invariant-words
invariant-words l = Puts l.initial.seat l.seat l.seat.me.0.start
    × (length l.seat.me.0.start ≡ length l.words)
    × ((k : ℕ) → k < l.i → slice_index l.seat.me.0.start k ≡ slice_index l.words k)
    × ((k : ℕ) → l.i ≤ k → slice_index l.seat.me.0.start k ≡ 0)
