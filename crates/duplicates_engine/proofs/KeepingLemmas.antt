-- A run that stands half-way, from step to step, and how it ends.
use Rattle.std.proofs.Common.{◌≡◌, ℕ, ◌+◌, ◌-◌, ◌^◌, min, List, Option, ◌∙◌, ap}
use Rattle.std.proofs.lemmas.Bool.{both_ways}
use Rattle.duplicates_engine.proofs.Common.{Keeps, Waiting, left_of, KnowsEnd, ErrorKind, Fault, TooLong, Options, Ghosts, Total, FailsBehind, limit_of, EndsEarly, KeepsNew}
use Rattle.duplicates_engine.specs.Causes.{IsOfStep}
use Rattle.duplicates_engine.specs.Inputs.{Opens, IsFresh, OpensNext, EndsAll, FindsLong}
use Rattle.duplicates_engine.proofs.CauseLemmas.{step-system, caused-step}
use Rattle.duplicates_engine.proofs.CountLemmas.{nothing}
use Rattle.duplicates_engine.proofs.EndLemmas.{all-read, behind-read, first-read, long-read}
use Rattle.duplicates_engine.proofs.InputLemmas.{IsReading, reading-first, reading-next}
use Rattle.duplicates_engine.proofs.KeptLemmas.{HasKept, kept-none, kept-flushed, keeps-new, ends-at, ends-behind}

module _ {V : Type 0} (sieve : Ghosts V) (end : ℕ) (options : Options)
    (come : Option (List (List ℕ))) (old : V) (from : Option (List ℕ)) where
  -- half-way: lines were kept, which are those of the inputs so far
  pub record IsKeeping (waiting : Waiting) (rest : Option (List ℕ))
      (coming : Option (List (List ℕ))) (number : ℕ) (now : V) (to : Option (List ℕ))
      (total : Total) : Type 0
    where
      pub kept : HasKept sieve end options old from now to total
      pub reading : IsReading end come (left_of waiting rest) coming number kept.lines
      pub knows : KnowsEnd waiting.ended rest
      pub has_longest : waiting.longest ≡ limit_of options

  -- the first input was opened
  pub keeping-first : (waiting : Waiting) (rest : Option (List ℕ))
      (coming : Option (List (List ℕ))) (number : ℕ) → Opens come coming rest
      → IsFresh (limit_of options) waiting number
      → IsKeeping waiting rest coming number old from nothing
  keeping-first waiting rest coming number opens fresh = record {
    kept = kept-none sieve end options old from;
    reading =
        reading-first end come coming rest waiting.bytes number fresh.empty opens fresh.none_read;
    knows = λ is. absurd (both_ways waiting.ended fresh.untold is);
    has_longest = fresh.has_longest;
  }

module _ {V : Type 0} {sieve : Ghosts V} {end : ℕ} {options : Options}
    {come : Option (List (List ℕ))} {old : V} {from : Option (List ℕ)} {waiting : Waiting}
    {rest : Option (List ℕ)} {coming : Option (List (List ℕ))} {number : ℕ} {now : V}
    {to : Option (List ℕ)} {total : Total}
    (so_far : IsKeeping sieve end options come old from waiting rest coming number now to total)
    (flushed : Option (List ℕ)) (keeps : Keeps to flushed) where
  -- the lines so far, behind a flush
  abbrev pub kept_now : HasKept sieve end options old from now flushed total
  kept_now = kept-flushed so_far.kept flushed keeps

  -- all inputs have ended
  pub keeps-all : (left : Option (List (List ℕ))) → EndsAll (left_of waiting rest) coming left
      → KeepsNew sieve end options come left old now from flushed total
  keeps-all left ends =
      keeps-new kept_now come left (all-read so_far.reading left ends.last ends.ends ends.none)

  -- a fault came before the next line
  pub ends-step : {I : Type 0} (fails : I → I → ErrorKind → Type 0) (before inputs : I)
      (fault : Fault) → IsOfStep (FailsBehind fails (left_of waiting rest) before inputs) fault
      → EndsEarly sieve fails end options come inputs old now from flushed fault
  ends-step fails before inputs fault is =
      ends-behind kept_now fails come inputs fault
      (step-system (FailsBehind fails (left_of waiting rest) before inputs) fault is)
      (first-read so_far.reading)
      (caused-step sieve.refuses fails end options.longest come now so_far.kept.lines
      (left_of waiting rest) before inputs fault is (behind-read so_far.reading))

  -- the next line is too long
  pub ends-long : {I : Type 0} (fails : I → I → ErrorKind → Type 0) (inputs : I)
      (new : Option (List ℕ)) (same next : ℕ)
      → FindsLong end (limit_of options) (left_of waiting rest) new number same
      → next ≡ min (same + 1) (2 ^ 64 - 1)
      → EndsEarly sieve fails end options come inputs old now from flushed (TooLong next)
  ends-long fails inputs new same next long counts =
      ends-at kept_now fails come inputs (TooLong next)
      (long-read so_far.reading new (limit_of options) next long.long
      (counts ∙ ap (λ n. min (n + 1) (2 ^ 64 - 1)) long.same))
      tt

  -- the next input was opened
  pub keeping-next : (next : Waiting) (input : Option (List ℕ)) (left : Option (List (List ℕ)))
      (first : ℕ) → OpensNext (left_of waiting rest) (left_of next input) coming left first
      → KnowsEnd next.ended input → next.longest ≡ limit_of options
      → IsKeeping sieve end options come old from next input left first now flushed total
  keeping-next next input left first opened knows has_longest = record {
    kept = kept_now;
    reading = reading-next so_far.reading left (left_of next input) first opened;
    knows = knows;
    has_longest = has_longest;
  }
