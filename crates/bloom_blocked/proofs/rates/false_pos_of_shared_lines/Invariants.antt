use Rattle.bloom_blocked.proofs.LineRateLemmas.{SummedLoaded}
use Rattle.bloom_blocked.proofs.rates.false_pos_of_shared_lines.Given as goal

-- the lines so far were loaded, and their bounds were added
abbrev pub invariant-lines : goal.invariant-lines
invariant-lines g l =
    SummedLoaded (g.W.TurnWords.vector l.words) l.num_hashes l.line l.low l.high
