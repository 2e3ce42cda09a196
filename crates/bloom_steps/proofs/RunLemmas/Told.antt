-- What a finished run tells: all that is promised of its course.
use Rattle.std.proofs.Common.{[], ◌≡◌, ◌≤◌, List, Ok, length, subst, sym, take_all, ℕ, None, Option}
use Rattle.bloom_steps.proofs.Common.{IsOkUnless, AreWords, IsPosition, are_in, World, Event, EndsWithAll, Course, Follows, FollowsFrom, IsLawful, ContainsTell, CountsGains, FindsInserted, InsertsTell, TakesLoseNothing, bits_of, ActsAsCommands, Machine, IsWorld, records_of, slice_index_or}
use Rattle.bloom_parts.specs.declared.error.FilterError.TheVariants.{Memory}
use Rattle.bloom_steps.proofs.RunLemmas.CourseLaws.{course_law}
use Rattle.bloom_steps.proofs.RunLemmas.Follows.{HasRun}
use Rattle.bloom_steps.proofs.RunLemmas.PartyCalls.{calls-party}

-- the clauses of a run that wasn't refused
abbrev pub TellsAll : ℕ → ℕ → List ℕ → List Event → Course → Type 0
TellsAll k parties words schedule run = record {
  lawful : IsLawful k run;
  follows : Follows parties words schedule run;
  commands : ActsAsCommands k run;
  inserts : InsertsTell run;
  contains : ContainsTell (IsPosition (bits_of run) k) (are_in (bits_of run) k) run;
  found : FindsInserted (IsPosition (bits_of run) k) run;
  grows : EndsWithAll k run;
  gained : CountsGains run;
  taken : TakesLoseNothing run;
  refused : IsOkUnless (Ok run) Memory;
}

-- the course of a world
abbrev pub course_of : World → Course
course_of now =
    record { start = now.start.items; records = now.records.items; words = now.words.items }

-- after the last event the course is lawful
lawful_world : (k : ℕ) (run : Course) (machines : List (Option Machine))
    → IsWorld k run.start run.words machines run.records → AreWords run.words → IsLawful k run
lawful_world k run machines world fit = record {
  finds = world.finds;
  calls = λ p.
      calls-party (length run.start) k p (slice_index_or machines p None) (records_of p run.records)
      (world.parties p);
  count = world.count;
  bits = world.bits;
  fit = fit;
}

-- a run after its last event
module _ (k parties : ℕ) (words : List ℕ) (schedule : List Event) (i : ℕ) (now : World)
    (so_far : HasRun k parties words schedule i now) (all : length schedule ≤ i) where
  -- the records are those of the whole schedule
  follows_all : FollowsFrom parties [] schedule now.records.items
  follows_all =
      subst (λ es. FollowsFrom parties [] es now.records.items) (take_all i schedule all)
      so_far.follows

  -- the course of its world tells all
  pub tells_all : 1 ≤ length words → 1 ≤ k → (run : Course)
      → record { parts : run ≡ course_of now; fit : AreWords now.words.items }
      → TellsAll k parties words schedule run
  tells_all some_words some_hashes run made =
      subst (TellsAll k parties words schedule) (sym made.parts)
      (let course = course_of now in
      let lawful = lawful_world k course now.machines.items so_far.world made.fit in
      let some : 1 ≤ length course.start =
      subst (λ l. 1 ≤ length l) (sym so_far.start) some_words in
      let tells = course_law k course some_hashes some lawful in
      record {
        lawful = lawful;
        follows = record { begins = so_far.start; events = follows_all };
        commands = tells.commands;
        inserts = tells.each.inserts;
        contains = tells.each.contains;
        found = tells.each.found;
        grows = tells.grows;
        gained = tells.gained;
        taken = tells.taken;
        refused = tt;
      })
