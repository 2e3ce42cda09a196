-- What a run keeps while it goes on: a machine for each party, and words and records that agree.
use Rattle.std.specs.Prelude.{ℕ, ◌^◌, ◌≤◌, ◌<◌, ◌≡◌, Bool, false, not, List, [], ◌++◌, length, Option, Some, None, slice_index_or}
use Rattle.bloom_parts.specs.Content.{content}
use Rattle.bloom_steps.specs.Vocabulary.{Call, Event, Record}
use Rattle.bloom_steps.specs.declared.steps.machine.Machine.{Machine}
use Rattle.bloom_steps.specs.declared.steps.runner.World.{World}
use Rattle.bloom_steps.specs.Steps.{after_records}
use Rattle.bloom_steps.specs.Scripts.{Taken}
use Rattle.bloom_steps.specs.Standing.{StandsAt}
use Rattle.bloom_steps.specs.Courses.{CallAfterCall, FindsWhatIsThere, Gives, call_records, records_of}

-- whole calls of a party, one after the other: call after call may come behind them
abbrev pub AreWholeCalls : ℕ → ℕ → ℕ → List Record → Type 0
AreWholeCalls w k party earlier = (later : List Record)
    → CallAfterCall w k party later → CallAfterCall w k party (earlier ++ later)

-- a machine stands where the steps of its party's newest call leave it
pub record HasCalled (w k party : ℕ) (m : Machine) (records : List Record) : Type 0 where
  pub earlier : List Record
  pub call : Call
  pub taken : List Taken
  pub before : AreWholeCalls w k party earlier
  pub stands : StandsAt m w k call taken
  pub same : records ≡ earlier ++ call_records party call taken

-- a party has made no call, or has a machine for its newest
abbrev pub PartyAt : ℕ → ℕ → ℕ → Option Machine → List Record → Type 0
PartyAt w k party None records = records ≡ []
PartyAt w k party (Some m) records = HasCalled w k party m records

-- words, machines and records after some events
pub record IsWorld
    (k : ℕ) (start words : List ℕ) (machines : List (Option Machine))
    (records : List Record) : Type 0 where
  pub some_words : 1 ≤ length start
  pub few_words : length start < 2 ^ 58
  pub some_hashes : 1 ≤ k
  pub finds : FindsWhatIsThere (content start) records
  pub count : length words ≡ length start
  pub bits : (p : ℕ) → content words p ≡ after_records (content start) records p
  pub parties : (party : ℕ)
      → PartyAt (length start) k party (slice_index_or machines party None)
      (records_of party records)

-- the same, for the runner's world
abbrev pub IsWorldOf : ℕ → World → Type 0
IsWorldOf k world =
    IsWorld k world.start.items world.words.items world.machines.items world.records.items

-- the records grow by what an event gives
pub record RecordsGrow (parties : ℕ) (event : Event) (before after : List Record) : Type 0 where
  pub added : List Record
  pub same : after ≡ before ++ added
  pub gives : Gives parties before event added

-- whether a slot's machine runs a call
abbrev pub slot_runs : Option Machine → Bool
slot_runs None = false
slot_runs (Some m) = not m.ended

-- an event happened: start and parties stay, and the records grow by what it gives
pub record Happens (k : ℕ) (event : Event) (old new : World) : Type 0 where
  pub keeps : IsWorldOf k new
  pub start : new.start.items ≡ old.start.items
  pub parties : length new.machines.items ≡ length old.machines.items
  pub grows : RecordsGrow (length old.machines.items) event old.records.items new.records.items
