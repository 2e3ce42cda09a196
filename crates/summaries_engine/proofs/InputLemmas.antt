-- Inputs whose keys were read one after the other.
use Rattle.std.proofs.Common.{◌≡◌, ◌<◌, ◌≤◌, ℕ, ◌+◌, List, [], ◌∷◌, ◌++◌, length, get_or, take, Bor, Option, sym, subst, ◌∙◌, ap, append-nil}
use Rattle.std.proofs.Math.Logic.{⊎_map}
use Rattle.summaries_engine.proofs.Common.{flat_map-append, AnyFilter, Wanted, Stop, StopsAnswers, WritesWanted, joined}
use Rattle.summaries_engine.specs.Answers.{ReadsAll}
use Rattle.summaries_engine.specs.Inputs.{HasKeys, Lies, ReadsInputs, StopsAt}
use Rattle.summaries_engine.proofs.AskingLemmas.{writes-more, writes-part}
use Rattle.summaries_engine.proofs.NameLemmas.{AllZip-more, names-all, names-from, next-name, texts}

-- the keys of one part more
joined-more : (parts : List (List (List ℕ))) (keys : List (List ℕ))
    → joined (parts ++ keys ∷ []) ≡ joined parts ++ keys
joined-more parts keys =
    flat_map-append (λ part. part) parts (keys ∷ [])
    ∙ ap (λ l. joined parts ++ l) (append-nil keys)

-- behind the last name all inputs were read
pub inputs-all : {lies : Lies} {end : ℕ} {Done : List (List ℕ) → Type 0}
    (names : List (Bor (List ℕ))) (count : ℕ) → length names ≤ count
    → ReadsInputs lies end (take count (texts names)) Done
    → ReadsInputs lies end (texts names) Done
inputs-all {lies = lies} {end = end} {Done = Done} names count last so_far =
    subst (λ l. ReadsInputs lies end l Done) (names-all names count last) so_far

module _ {lies : Lies} {end : ℕ} (names : List (Bor (List ℕ))) (count : ℕ)
    (other : Bor (List ℕ)) (within : count < length names) {Done : List (List ℕ) → Type 0}
    (so_far : ReadsInputs lies end (take count (texts names)) Done) where
  -- one input more was read
  pub inputs-more : {read left : Option (List ℕ)} {Now More : List (List ℕ) → Type 0}
      → lies (get_or names count other).now read → (all : ReadsAll end read left Now)
      → More (joined so_far.parts ++ all.keys)
      → ReadsInputs lies end (take (count + 1) (texts names)) More
  inputs-more {read = read} {left = left} {More = More} there all done =
      subst (λ l. ReadsInputs lies end l More) (sym (next-name names count other within)) (record {
        parts = so_far.parts ++ all.keys ∷ [];
        keys = AllZip-more (HasKeys lies end) (take count (texts names)) so_far.parts
            (get_or names count other).now all.keys so_far.keys (record {
              read = read;
              left = left;
              there = there;
              whole = all.whole;
              short = all.short;
            });
        done = subst More (sym (joined-more so_far.parts all.keys)) done;
      })

  -- a run stops at the name behind them
  pub stops-at : {Within : List ℕ → List (List ℕ) → Type 0}
      → Within (get_or names count other).now (joined so_far.parts)
      → StopsAt lies end (texts names) Within
  stops-at stopped =
      let from = names-from names count other within in record {
        before = take count (texts names);
        name = (get_or names count other).now;
        after = from.0;
        are = from.1;
        within = record { parts = so_far.parts; keys = so_far.keys; done = stopped };
      }

-- asking stops behind the replies to earlier keys
pub stops-after : {f : AnyFilter} {wanted : Wanted} {end : ℕ} (name : List ℕ) (stop : Stop)
    {earlier : List (List ℕ)} {read from mid to : Option (List ℕ)}
    → WritesWanted f wanted end from mid earlier
    → StopsAnswers f wanted end name [] read mid to stop
    → StopsAnswers f wanted end name earlier read from to stop
stops-after name stop wrote stopped = record {
  keys = stopped.keys;
  first = stopped.first;
  short = stopped.short;
  done = ⊎_map (λ done. (writes-more wrote done.0, done.1))
      (λ cut. (writes-part wrote stopped.keys cut.0, cut.1)) stopped.done;
}
