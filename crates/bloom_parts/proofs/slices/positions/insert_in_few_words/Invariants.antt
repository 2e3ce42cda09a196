use Rattle.bloom_parts.specs.Stretches.{HasTurnedOn}
use Rattle.bloom_parts.proofs.slices.positions.insert_in_few_words.Given as goal

-- the places so far were set, and the word is 0 exactly if all were set before
abbrev pub invariant-places : goal.invariant-places
invariant-places l = HasTurnedOn l.hash l._place l.fn.words l.words l.chain l.off
