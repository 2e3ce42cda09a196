use Rattle.bloom_blocked.specs.LineRates.{line_words}
use Rattle.bloom_blocked.proofs.LineRateLemmas.{Summed}
use Rattle.bloom_blocked.proofs.rates.false_pos_of_lines.Given as goal

-- the bounds of the lines so far were added
abbrev pub invariant-lines : goal.invariant-lines
invariant-lines l = Summed (line_words l.words) l.num_hashes l.line l.low l.high
