-- Calls on a filter that threads share. Which steps make up a call is said once for all vectors
-- (`bloom_steps` LiveSteps). These definitions are this project's own.
use Rattle.std.specs.Prelude.{◌≢◌, ℕ, ◌<◌, List, map}
use Rattle.bloom_parts.specs.Made.{SharedWords, BeganWith, FoundByLoad}
use Rattle.bloom_plain.specs.Builders.{RateStart, IsSizeOf, sized_filter, empty_start}
use Rattle.bloom_plain.specs.SharedFilters.{SharedFilter, HaveSameShape, HasFormOf}
use Rattle.bloom_steps.specs.LiveSteps.{TakesWordsOf, WereInserted}
use Rattle.bloom_steps.specs.Loaded.{WereLoaded}

-- a shared filter has the form of the filter for this many items at the rate of a builder
abbrev pub HasFormFor : {S : Type 0} → RateStart S → ℕ → SharedFilter S → Type 0
HasFormFor start items f =
    (bits : ℕ) × IsSizeOf start items bits
    × HasFormOf f (sized_filter (empty_start start bits) items)

-- each item of a list was inserted by its hash under the hasher, by an insert of its own, in order
-- and linked by turns
abbrev pub MakesInserts : {S T : Type 0} → (S → T → ℕ) → SharedFilter S → List T → Type 0
MakesInserts hash_of f items =
    WereInserted f.words f.hashes (map (hash_of f.hasher) items)

-- the words of a filter were taken out: they are what the steps of a take found, in order
abbrev pub TakesWords : {S : Type 0} → SharedFilter S → List ℕ → Type 0
TakesWords f words = TakesWordsOf f.words f.hashes words

-- a vector began with words that were loaded of another, one load for each index
abbrev pub BeganAsLoaded : SharedWords → SharedWords → Type 0
BeganAsLoaded vector other = (words : List ℕ) × WereLoaded other words × BeganWith vector words

-- two filters have equal shapes, and at each index a load of either found the same word
pub record WereFoundAlike {S : Type 0} (f g : SharedFilter S) : Type 0 where
  pub shape : HaveSameShape f g
  pub words : (i : ℕ) → i < f.words.count
      → (found : ℕ) × FoundByLoad f.words i found × FoundByLoad g.words i found

-- at some index a load of one filter found another word than a load of the other
pub record WereFoundToDiffer {S : Type 0} (f g : SharedFilter S) : Type 0 where
  pub index : ℕ
  pub found : ℕ
  pub other : ℕ
  pub here : FoundByLoad f.words index found
  pub there : FoundByLoad g.words index other
  pub differ : found ≢ other
