-- A filter with the default hasher as plain data. The fields are those of fastbloom 0.17.0 with
-- serde. That the key stands as two words, and what is refused, is this project's choice.
use Rattle.std.specs.Prelude.{◌≡◌, ℕ, ◌+◌, ◌-◌, ◌^◌, Option, Some, None, vec_len, nat_eq, nat_le, if◌then◌else◌}
use Rattle.bloom_parts.specs.Keys.{HasKey, key_of}
use Rattle.bloom_parts.specs.declared.error.FilterError.{FilterError}
use Rattle.bloom_parts.specs.declared.error.FilterError.TheVariants.{EmptyWords, TooManyWords, HashCount}
use Rattle.bloom_parts.specs.declared.hasher.CloneBuildHasher.{CloneBuildHasher}
use Rattle.bloom_parts.specs.declared.hasher.sip.RandomDefaultHasher.{RandomDefaultHasher}
use Rattle.bloom_plain.specs.declared.bloom.data.FilterData.{FilterData}
use Rattle.bloom_plain.specs.Filter.{Filter, Placement, anywhere, contains}

-- a filter with the default hasher
abbrev pub DefaultFilter : Type 0
DefaultFilter = Filter (CloneBuildHasher RandomDefaultHasher)

-- why data are refused, if they are; of several reasons the first counts
abbrev pub data_refusal : FilterData → Option FilterError
data_refusal form =
    if nat_eq (vec_len form.bits.bits) 0 then Some EmptyWords
    else if nat_le (2 ^ 58) (vec_len form.bits.bits) then Some TooManyWords
    else if nat_eq form.num_hashes_minus_one (2 ^ 32 - 1) then Some HashCount
    else None

-- data and a filter have the same words, number of hashes and key
pub record IsDataOf (form : FilterData) (f : DefaultFilter) : Type 0 where
  pub words : f.words ≡ form.bits.bits.items
  pub hashes : f.hashes ≡ form.num_hashes_minus_one + 1
  pub key : key_of f.hasher ≡ (form.k0, form.k1)

-- two filters of one placement have equal words, numbers of hashes and keys, and contain the same
-- hashes
pub record AnswerAlike (place : Placement) (f g : DefaultFilter) : Type 0 where
  pub words : g.words ≡ f.words
  pub hashes : g.hashes ≡ f.hashes
  pub key : key_of g.hasher ≡ key_of f.hasher
  pub found : (hash : ℕ) → contains place g hash ≡ contains place f hash

-- two filters of the same data contain the same hashes
abbrev pub DataLaw : Type 0
DataLaw =
    (f g : DefaultFilter) (form : FilterData) → IsDataOf form f → IsDataOf form g
    → AnswerAlike anywhere f g

-- a hasher that has the key of a filter's data gives each item the source hash that the filter's
-- hasher gives it
abbrev pub SameItemsLaw :
    {T : Type 0} → (CloneBuildHasher RandomDefaultHasher → T → ℕ) → Type 0
SameItemsLaw {T} hash_of =
    (f g : DefaultFilter) (form : FilterData) (k0 k1 : ℕ) → HasKey f.hasher k0 k1 → IsDataOf form f
    → HasKey g.hasher form.k0 form.k1 → (item : T) → hash_of g.hasher item ≡ hash_of f.hasher item
