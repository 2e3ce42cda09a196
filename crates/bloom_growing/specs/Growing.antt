-- A filter that grows: Bloom filters one after the other, each for twice the items of the one
-- before it at half its rate (P. S. Almeida, C. Baquero, N. Preguiça and D. Hutchison, "Scalable
-- Bloom Filters", 2007, with growth 2 and tightening 1/2).
use Rattle.std.specs.Prelude.{◌≡◌, ℕ, ◌+◌, ◌*◌, ◌^◌, ◌≤◌, Bool, false, List, [], ◌∷◌, ◌++◌, length, All, Option, MatchOption, ⊤}
use Rattle.std.specs.List.{list_any}
use Rattle.bloom_parts.specs.declared.hasher.CloneBuildHasher.{CloneBuildHasher}
use Rattle.bloom_parts.specs.declared.hasher.sip.RandomDefaultHasher.{RandomDefaultHasher}
use Rattle.bloom_parts.specs.declared.math.rate.Rate.{Rate}
use Rattle.bloom_parts.specs.Keys.{HasKey}
use Rattle.bloom_parts.specs.Rates.{num_of, den_of}
use Rattle.bloom_plain.specs.Builders.{RateStart}
use Rattle.bloom_plain.specs.Filter.{Filter, contains}
use Rattle.bloom_growing.specs.Kinds.{Kind, InsertsNew, IsMadeIn, placement_of}

-- what was asked for: a rate, which the rates that the filters are sized for stay below together,
-- the room of the first filter, which is the number of items that it is made for, and the hasher of
-- all
pub record Setup (S : Type 0) : Type 0 where
  pub rate : Rate
  pub room : ℕ
  pub hasher : S

-- the setup of these parts
abbrev pub setup_of : {S : Type 0} → Rate → ℕ → S → Setup S
setup_of rate room hasher = record { rate = rate; room = room; hasher = hasher }

-- a filter that grows: its setup, its full filters, the oldest first, its newest filter, and how
-- many new hashes that one took
pub record Growing (S : Type 0) : Type 0 where
  pub setup : Setup S
  pub older : List (Filter S)
  pub newest : Filter S
  pub taken : ℕ

-- the room of filter number i, where the oldest is number 0, from the room of number 0
abbrev pub room_at : ℕ → ℕ → ℕ
room_at room i = room * 2 ^ i

-- the lower part of the rate of filter number i, from the rate asked for. Its upper part is that of
-- the rate asked for
abbrev pub den_at : Rate → ℕ → ℕ
den_at rate i = den_of rate * 2 ^ (i + 1)

-- the room of the newest filter
abbrev pub newest_room : {S : Type 0} → Growing S → ℕ
newest_room g = room_at g.setup.room (length g.older)

-- the builder of a rate with this hasher
abbrev pub rate_start : {S : Type 0} → Rate → S → RateStart S
rate_start rate hasher = record { rate = rate; hasher = hasher }

-- this is the filter that the builders of a kind make for number i
pub record IsNumber {S : Type 0} (kind : Kind) (setup : Setup S) (i : ℕ) (made : Filter S) : Type 0
  where
    pub rate : Rate
    pub num : num_of rate ≡ num_of setup.rate
    pub den : den_of rate ≡ den_at setup.rate i
    pub is_made : IsMadeIn kind (rate_start rate setup.hasher) (room_at setup.room i) made

-- the rate whose half filter number i has, and its room, which may be no number of 64 bits
pub record IsNextRate (rate : Rate) (room i : ℕ) (last : Rate) (many : Option ℕ) : Type 0 where
  pub num : num_of last ≡ num_of rate
  pub den : den_of last * 2 ≡ den_at rate i
  pub some : 1 ≤ room_at room i
  pub fits : MatchOption many (2 ^ 64 ≤ room_at room i) (λ n. n ≡ room_at room i)

-- this is filter number i, its rate and its room
pub record IsMadeAs {S : Type 0} (kind : Kind) (setup : Setup S) (i : ℕ) (made : Filter S)
    (rate : Rate) (room : ℕ) : Type 0 where
  pub number : IsNumber kind setup i made
  pub num : num_of rate ≡ num_of setup.rate
  pub den : den_of rate ≡ den_at setup.rate i
  pub is_room : room ≡ room_at setup.room i

-- whether one of some filters contains a hash
abbrev pub any_contains : {S : Type 0} → Kind → List (Filter S) → ℕ → Bool
any_contains kind filters hash = list_any (λ f. contains (placement_of kind) f hash) filters

-- whether a filter that grows contains a hash
abbrev pub has : {S : Type 0} → Kind → Growing S → ℕ → Bool
has kind g hash = list_any (λ f. contains (placement_of kind) f hash) (g.older ++ g.newest ∷ [])

-- a filter was made as the next behind these older ones, and then took this many hashes. None of
-- them was contained in it, or in an older one, when it came
pub record Took {S : Type 0} (kind : Kind) (setup : Setup S) (older : List (Filter S)) (count : ℕ)
    (filter : Filter S) : Type 0 where
  pub made : Filter S
  pub is_made : IsNumber kind setup (length older) made
  pub hashes : List ℕ
  pub counted : length hashes ≡ count
  pub new : All (λ hash. any_contains kind older hash ≡ false) hashes
  pub did : InsertsNew kind made hashes filter

-- each of these filters, which stand behind those before them, took as many hashes as its room
abbrev pub AreFull :
    {S : Type 0} → Kind → Setup S → List (Filter S) → List (Filter S) → Type 0
AreFull kind setup before [] = ⊤
AreFull kind setup before (f ∷ later) =
    Took kind setup before (room_at setup.room (length before)) f
    × AreFull kind setup (before ++ f ∷ []) later

-- the rule of a filter that grows: all filters but the newest are full
pub record IsGrown {S : Type 0} (kind : Kind) (g : Growing S) : Type 0 where
  pub some_room : 1 ≤ g.setup.room
  pub full : AreFull kind g.setup [] g.older
  pub newest : Took kind g.setup g.older g.taken g.newest
  pub most : g.taken ≤ newest_room g

-- the default hasher has some key, and has taken in nothing
abbrev pub HasSomeKey : CloneBuildHasher RandomDefaultHasher → Type 0
HasSomeKey hasher = (k0 : ℕ) × (k1 : ℕ) × HasKey hasher k0 k1

-- what a filter that grows keeps: the rule, a key, and the rate and the room of its newest filter
pub record IsSound (kind : Kind) (g : Growing (CloneBuildHasher RandomDefaultHasher)) (rate : Rate)
    (room : ℕ) : Type 0 where
  pub grown : IsGrown kind g
  pub key : HasSomeKey g.setup.hasher
  pub num : num_of rate ≡ num_of g.setup.rate
  pub den : den_of rate ≡ den_at g.setup.rate (length g.older)
  pub newest_is : room ≡ newest_room g
