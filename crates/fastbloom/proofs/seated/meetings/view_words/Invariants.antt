use Rattle.std.proofs.Common.{◌≡◌}
use Rattle.fastbloom.proofs.Common.{Views, sight_of, Pass}
use Rattle.fastbloom.proofs.seated.meetings.view_words.Given as goal

-- the words so far were looked at
abbrev pub invariant-words : goal.invariant-words
invariant-words l = (l.seat.me.0.role ≡ Pass)
    × Views l.word (sight_of l.initial.seat) (sight_of l.seat)
