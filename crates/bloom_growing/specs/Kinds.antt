-- The filters of which one that grows, or rotates, consists: they are plain, or blocked. Both kinds
-- have the same parts (`bloom_plain` Filter), and differ in the positions of a hash and in sizes.
use Rattle.std.specs.Prelude.{◌≡◌, ℕ, false, List, [], ◌∷◌, Option}
use Rattle.bloom_parts.specs.declared.error.FilterError.{FilterError}
use Rattle.bloom_parts.specs.Sizing.{IsSizeFor}
use Rattle.bloom_plain.specs.Builders.{RateStart, IsMadeFor, size_refusal}
use Rattle.bloom_plain.specs.Filter.{Filter, Placement, anywhere, Inserts}
use Rattle.bloom_blocked.specs.Blocked.{in_lines}
use Rattle.bloom_blocked.specs.BlockedSizing.{IsSizeInLines, IsMadeInLinesFor, line_size_refusal}

-- the kind of a filter: the positions of a hash lie anywhere, or all in one line of 512 bits
pub data Kind : Type 0 where
  Plain : Kind
  Blocked : Kind

-- where a filter of a kind has the positions of a hash
abbrev pub placement_of : Kind → Placement
placement_of Plain = anywhere
placement_of Blocked = in_lines

-- from old to new the hashes of a list were inserted, in order. None of them was contained when it
-- came
abbrev pub InsertsNew : {S : Type 0} → Kind → Filter S → List ℕ → Filter S → Type 0
InsertsNew kind old [] new = new ≡ old
InsertsNew {S} kind old (hash ∷ later) new =
    (next : Filter S) × Inserts (placement_of kind) old hash next false
    × InsertsNew kind next later new

-- this is the number of bits for items and the rate num / den
abbrev pub IsSizeIn : Kind → ℕ → ℕ → ℕ → ℕ → Type 0
IsSizeIn Plain items num den bits = IsSizeFor items num den bits
IsSizeIn Blocked items num den bits = IsSizeInLines items num den bits

-- this is the filter that the builders make for this many items at a builder's rate
abbrev pub IsMadeIn : {S : Type 0} → Kind → RateStart S → ℕ → Filter S → Type 0
IsMadeIn Plain start items filter = IsMadeFor start items filter
IsMadeIn Blocked start items filter = IsMadeInLinesFor start items filter

-- why the builders refuse a size in bits, if they do
abbrev pub size_refusal_in : Kind → ℕ → Option FilterError
size_refusal_in Plain bits = size_refusal bits
size_refusal_in Blocked bits = line_size_refusal bits
