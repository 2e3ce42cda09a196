use Rattle.std.proofs.Common.{◌≡◌, ◌≤◌, take, vec_capacity, vec_len}
use Rattle.std.specs.Mem.Slots.{slots_items}
use Rattle.fastbloom.proofs.seated.closing.close_table.Given as goal

-- the words so far
abbrev pub invariant-words : goal.invariant-words
invariant-words l = (l.words.items ≡ take l.i (slots_items l.closed.words))
    × (vec_len l.words ≡ l.i)
    × (l.count ≤ vec_capacity l.words)
