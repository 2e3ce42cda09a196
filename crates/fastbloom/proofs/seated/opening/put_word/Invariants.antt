use Rattle.std.proofs.Common.{◌%◌, ◌^◌, slice_set}
use Rattle.fastbloom.specs.Plays.{Puts}
use Rattle.fastbloom.proofs.seated.opening.put_word.Given as goal

-- the word has the low bits of the value
abbrev pub invariant-bits : goal.invariant-bits
invariant-bits l = Puts l.initial.seat l.seat
    (slice_set l.initial.seat.me.0.start l.word (l.value % 2 ^ l.bit))
