-- What an insert into a filter that grows does, and where it is refused. The reply, and where a new
-- hash goes, are as in "Scalable Bloom Filters" (P. S. Almeida and others, 2007). What is refused
-- is this project's choice.
use Rattle.std.specs.Prelude.{◌≡◌, ℕ, ◌+◌, ◌^◌, ◌<◌, ◌≤◌, Bool, true, false, [], ◌∷◌, ◌++◌, length, Option, Some, None}
use Rattle.std.specs.Option.{option_map}
use Rattle.bloom_parts.specs.declared.error.FilterError.{FilterError}
use Rattle.bloom_parts.specs.declared.math.rate.Rate.{Rate}
use Rattle.bloom_parts.specs.Rates.{num_of}
use Rattle.bloom_plain.specs.Builders.{RefusesAs}
use Rattle.bloom_growing.specs.declared.growing.error.GrowingError.{GrowingError}
use Rattle.bloom_growing.specs.declared.growing.error.GrowingError.TheVariants.{RateOverflow, TooManyItems, Filter}
use Rattle.bloom_growing.specs.Growing.{Setup, Growing, IsNumber, room_at, den_at, newest_room, has}
use Rattle.bloom_plain.specs.Filter.{Inserts}
use Rattle.bloom_growing.specs.Kinds.{Kind, IsSizeIn, size_refusal_in, placement_of}

-- a filter that grows is new: this was asked for, and its one filter is empty
pub record IsBegun {S : Type 0} (kind : Kind) (asked : Setup S) (g : Growing S) : Type 0 where
  pub setup : g.setup ≡ asked
  pub older : g.older ≡ []
  pub newest : IsNumber kind asked 0 g.newest
  pub taken : g.taken ≡ 0

-- the next filter was begun, and the newest one became an older one
pub record BeginsNext {S : Type 0} (kind : Kind) (old new : Growing S) : Type 0 where
  pub setup : new.setup ≡ old.setup
  pub older : new.older ≡ old.older ++ old.newest ∷ []
  pub newest : IsNumber kind old.setup (length old.older + 1) new.newest
  pub taken : new.taken ≡ 0

-- the newest filter took one more hash, which it didn't contain
pub record Adds {S : Type 0} (kind : Kind) (old : Growing S) (hash : ℕ) (new : Growing S) : Type 0
  where
    pub setup : new.setup ≡ old.setup
    pub older : new.older ≡ old.older
    pub newest : Inserts (placement_of kind) old.newest hash new.newest false
    pub taken : new.taken ≡ old.taken + 1

-- an insert took the old filters to the new: the reply is whether one of them contained the hash.
-- If so nothing changed. Else the newest took it or, where that one was full, the next one, which
-- was begun before
pub record Accepts {S : Type 0} (kind : Kind) (old : Growing S) (hash : ℕ) (new : Growing S)
    (reply : Bool) : Type 0 where
  pub answers : reply ≡ has kind old hash
  pub held : has kind old hash ≡ true → new ≡ old
  pub spare : has kind old hash ≡ false → old.taken < newest_room old → Adds kind old hash new
  pub full : has kind old hash ≡ false → newest_room old ≤ old.taken
      → (next : Growing S) × BeginsNext kind old next × Adds kind next hash new

-- what a filter that grows tells of what the builders tell of its next filter
abbrev pub of_builders : Option FilterError → Option GrowingError
of_builders refusal = option_map Filter refusal

-- filter number i is refused as listed here: for its rate, for its room, or as the builders refuse
-- its size. Where nothing is listed, it is made, or there is no memory for it
pub record RefusesNumber (kind : Kind) (rate : Rate) (room i : ℕ) (error : Option GrowingError)
    : Type 0 where
  pub rate_refused : 2 ^ 64 ≤ den_at rate i → error ≡ Some RateOverflow
  pub room_refused : den_at rate i < 2 ^ 64 → 2 ^ 64 ≤ room_at room i → error ≡ Some TooManyItems
  pub size_refused : den_at rate i < 2 ^ 64 → room_at room i < 2 ^ 64
      → (bits : ℕ) × IsSizeIn kind (room_at room i) (num_of rate) (den_at rate i) bits
      × (refusal : Option FilterError) × RefusesAs (size_refusal_in kind bits) refusal
      × (error ≡ of_builders refusal)

-- an insert is refused only where the next filter is: no filter contains the hash, and the newest
-- is full
pub record RefusesInsert {S : Type 0} (kind : Kind) (g : Growing S) (hash : ℕ)
    (error : Option GrowingError) : Type 0 where
  pub held : has kind g hash ≡ true → error ≡ None
  pub spare : g.taken < newest_room g → error ≡ None
  pub full : has kind g hash ≡ false → newest_room g ≤ g.taken
      → RefusesNumber kind g.setup.rate g.setup.room (length g.older + 1) error
