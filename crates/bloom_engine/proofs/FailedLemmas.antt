-- From lines taken and carried out to what serving promises where a read or a write fails.
use Rattle.std.proofs.Common.{◌≡◌, ℕ, List, [], ◌∷◌, ◌++◌, Option}
use Rattle.bloom_engine.proofs.Common.{Keeps, Filter, JoinedListsLaw, Line, Waiting, left_of, NextCommand, Applied, AreFirstGood, ServedBefore, ServedSome}
use Rattle.bloom_engine.specs.declared.engine.commands.Next.{Next}
use Rattle.bloom_engine.specs.declared.engine.commands.Next.TheVariants as next
use Rattle.lines.proofs.TakenLemmas.{IsReadFrom-taken}
use Rattle.bloom_engine.proofs.CarriedLemmas.{Applied-more}
use Rattle.bloom_engine.proofs.ServedLemmas.{Carried-kept, IsServing}
use Rattle.bloom_engine.proofs.TakenLemmas.{TakesGood, TakesGood-more}

-- lines that were taken are the first ones
first-good : (read mid : Option (List ℕ)) (lines : List Line) → TakesGood read mid lines
    → AreFirstGood read lines
first-good read mid lines took = record {
  texts = took.texts;
  first = IsReadFrom-taken 10 read mid took.texts took.taken;
  good = took.good;
}

-- half-way, where a read or a write fails
module _ {S : Type 0} {read : Option (List ℕ)} {old : Filter S} {from : Option (List ℕ)}
    {waiting : Waiting} {rest : Option (List ℕ)} {now : Filter S} {to : Option (List ℕ)}
    {number : ℕ} (so_far : IsServing read old from waiting rest now to number) where
  -- the lines so far are the first that the reader had
  so_far-first : AreFirstGood read so_far.lines
  so_far-first = first-good read (left_of waiting rest) so_far.lines so_far.taken

  -- a read failed
  pub served_before : (kept : Option (List ℕ)) → Keeps to kept → ServedBefore read old now from kept
  served_before kept keeps = record {
    lines = so_far.lines;
    carried = Carried-kept old now from to kept so_far.lines so_far.carried keeps;
    first = so_far-first;
  }

  -- no more lines are carried out
  pub served_some : ServedSome read old now
  served_some = record {
    lines = so_far.lines;
    applied = (so_far.carried.given, so_far.carried.filter);
    first = so_far-first;
  }

  -- one more line was carried out, whatever was written of its text
  pub some_more : (after : Waiting) (left : Option (List ℕ)) (came : Next) (line : Line)
      → NextCommand (left_of waiting rest) (left_of after left) came → came ≡ next.Good line
      → JoinedListsLaw S → (new : Filter S) → Applied now new (line ∷ [])
      → ServedSome read old new
  some_more after left came line is_next good joins new one =
      let took = rw good at is_next in
      let more =
      TakesGood-more read (left_of waiting rest) (left_of after left) so_far.lines took.text line
      so_far.taken took.takes took.asks in
      record {
        lines = so_far.lines ++ line ∷ [];
        applied =
            Applied-more joins old now new so_far.lines line
            (so_far.carried.given, so_far.carried.filter) one;
        first = first-good read (left_of after left) (so_far.lines ++ line ∷ []) more;
      }

-- a flush changes nothing of what was written before a read failed
pub served_before-kept : {S : Type 0} (read : Option (List ℕ)) (old new : Filter S)
    (from to kept : Option (List ℕ)) → ServedBefore read old new from to → Keeps to kept
    → ServedBefore read old new from kept
served_before-kept read old new from to kept served keeps = record {
  lines = served.lines;
  carried = Carried-kept old new from to kept served.lines served.carried keeps;
  first = served.first;
}
