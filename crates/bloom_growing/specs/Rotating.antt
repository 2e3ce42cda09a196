-- A filter that rotates: two Bloom filters of one size. The newer one takes what it doesn't
-- contain, and becomes the older one once it took as many hashes as it is for, as in M. Yoon,
-- "Aging Bloom Filter with Two Active Buffers for Dynamic Sets", 2010.
use Rattle.std.specs.Prelude.{◌≡◌, ℕ, ◌+◌, ◌-◌, ◌^◌, ◌<◌, ◌≤◌, min, Bool, true, false, ◌||◌, List, [], ◌∷◌, nat_eq, if◌then◌else◌}
use Rattle.bloom_plain.specs.Filter.{Filter, Clears, contains, Inserts}
use Rattle.bloom_growing.specs.Growing.{Setup, IsNumber, Took}
use Rattle.bloom_growing.specs.GrowingRates.{Part, part_now, part_after}
use Rattle.bloom_growing.specs.Kinds.{Kind, placement_of}

-- a filter that rotates: what was asked for (the rate of both filters together, the number of items
-- that each is for, and the hasher), its two filters, how many new hashes the newer one took, and
-- how often it turned over
pub record Rotating (S : Type 0) : Type 0 where
  pub setup : Setup S
  pub older : Filter S
  pub newer : Filter S
  pub taken : ℕ
  pub turns : ℕ

-- how many new hashes the older filter took before it became the older: none before the first turn
abbrev pub older_taken : {S : Type 0} → Rotating S → ℕ
older_taken r = if nat_eq r.turns 0 then 0 else r.setup.room

-- whether one of both filters contains a hash
abbrev pub either_contains : {S : Type 0} → Kind → Rotating S → ℕ → Bool
either_contains kind r hash =
    contains (placement_of kind) r.newer hash || contains (placement_of kind) r.older hash

-- the rule of a filter that rotates: the newer filter has room, and each filter is the builders'
-- for these items at half the rate, with hashes inserted, each of which it didn't contain when it
-- came
pub record IsRotating {S : Type 0} (kind : Kind) (r : Rotating S) : Type 0 where
  pub has_room : r.taken < r.setup.room
  pub older : Took kind r.setup [] (older_taken r) r.older
  pub newer : Took kind r.setup [] r.taken r.newer

-- a filter that rotates is new: this was asked for, and both filters are empty
pub record IsUnused {S : Type 0} (kind : Kind) (asked : Setup S) (r : Rotating S) : Type 0 where
  pub setup : r.setup ≡ asked
  pub older : IsNumber kind asked 0 r.older
  pub newer : IsNumber kind asked 0 r.newer
  pub taken : r.taken ≡ 0
  pub turns : r.turns ≡ 0

-- the newer filter took one more hash, which it didn't contain
pub record Fills {S : Type 0} (kind : Kind) (old : Rotating S) (hash : ℕ) (new : Rotating S)
    : Type 0 where
  pub older : new.older ≡ old.older
  pub newer : Inserts (placement_of kind) old.newer hash new.newer false
  pub taken : new.taken ≡ old.taken + 1
  pub turns : new.turns ≡ old.turns

-- the newer filter took the last hash for which it had room: it became the older one, and the older
-- one was cleared. Turns are counted up to 2^64 - 1
pub record Turns {S : Type 0} (kind : Kind) (old : Rotating S) (hash : ℕ) (new : Rotating S)
    : Type 0 where
  pub older : Inserts (placement_of kind) old.newer hash new.older false
  pub newer : Clears old.older new.newer
  pub taken : new.taken ≡ 0
  pub turns : new.turns ≡ min (old.turns + 1) (2 ^ 64 - 1)

-- an insert took the old filters to the new: the reply is whether one of them contained the hash.
-- Where the newer one did, nothing changed. Else that one took the hash, also where the older one
-- contained it
pub record Receives {S : Type 0} (kind : Kind) (old : Rotating S) (hash : ℕ) (new : Rotating S)
    (reply : Bool) : Type 0 where
  pub answers : reply ≡ either_contains kind old hash
  pub setup : new.setup ≡ old.setup
  pub held : contains (placement_of kind) old.newer hash ≡ true → new ≡ old
  pub fills : contains (placement_of kind) old.newer hash ≡ false → old.taken + 1 < old.setup.room
      → Fills kind old hash new
  pub turns : contains (placement_of kind) old.newer hash ≡ false → old.setup.room ≤ old.taken + 1
      → Turns kind old hash new

-- from old to new the hashes of a list came, in order
abbrev pub ReceivesAll : {S : Type 0} → Kind → Rotating S → List ℕ → Rotating S → Type 0
ReceivesAll kind old [] new = new ≡ old
ReceivesAll {S} kind old (hash ∷ later) new = (next : Rotating S) × (reply : Bool)
    × Receives kind old hash next reply × ReceivesAll kind next later new

-- the rates of both filters as they are
abbrev pub both_now : {S : Type 0} → Rotating S → List Part
both_now r = part_now r.older ∷ part_now r.newer ∷ []

-- the mean rates of both filters, each after as many draws as it took new items, which set more
-- bits
abbrev pub both_taken : {S : Type 0} → Rotating S → List Part
both_taken r = part_after r.older (older_taken r) ∷ part_after r.newer r.taken ∷ []
