-- Data of filters: for each definition that public clauses cite a case that holds and cases as near
-- as can be that don't. A form is given by what is seen of it.
use Rattle.std.proofs.Common.{◌≡◌, ℕ, Some, None, [], ◌∷◌, get_or, refl, arith, ap, ◌∙◌, sym}
use Rattle.std.specs.Prelude.{vec_len}
use Rattle.bloom_parts.specs.declared.error.FilterError.TheVariants.{EmptyWords, TooManyWords, HashCount}
use Rattle.bloom_parts.specs.declared.hasher.CloneBuildHasher.{CloneBuildHasher}
use Rattle.bloom_parts.specs.declared.hasher.sip.RandomDefaultHasher.{RandomDefaultHasher}
use Rattle.bloom_parts.specs.Keys.{HasKey, key_of}
use Rattle.bloom_plain.specs.Data.{DataLaw, DefaultFilter, IsDataOf, SameItemsLaw, data_refusal}
use Rattle.bloom_plain.specs.Filter.{contains, anywhere}
use Rattle.bloom_plain.specs.declared.bloom.data.FilterData.{FilterData}

-- how many words a form has, and its number of hashes less one
record Shows (form : FilterData) (w n : ℕ) : Type 0 where
  pub words : vec_len form.bits.bits ≡ w
  pub hashes : form.num_hashes_minus_one ≡ n

-- no words and 2^58 words are refused before 2^32 hashes, and also where there are few hashes
data_refusal-cases : (form : FilterData)
    → (Shows form 0 4294967295 → data_refusal form ≡ Some EmptyWords)
    × (Shows form 288230376151711744 4294967295 → data_refusal form ≡ Some TooManyWords)
    × (Shows form 288230376151711744 0 → data_refusal form ≡ Some TooManyWords)
    × (Shows form 1 4294967295 → data_refusal form ≡ Some HashCount)
    × (Shows form 288230376151711743 4294967294 → data_refusal form ≡ None)
    × (Shows form 1 0 → data_refusal form ≡ None)
data_refusal-cases form = (
  λ shows. rw shows.words refl,
  λ shows. rw shows.words refl,
  λ shows. rw shows.words refl,
  λ shows. rw (shows.words, shows.hashes) refl,
  λ shows. rw (shows.words, shows.hashes) refl,
  λ shows. rw (shows.words, shows.hashes) refl,
)

-- a form of the word 5, of two hashes, and of the key of seed 42
record IsFive (form : FilterData) : Type 0 where
  pub words : form.bits.bits.items ≡ 5 ∷ []
  pub hashes : form.num_hashes_minus_one ≡ 1
  pub low : form.k0 ≡ 0
  pub high : form.k1 ≡ 3026418949592973312

-- a filter of one word and this many hashes, under a key
record IsFilter (f : DefaultFilter) (word k low high : ℕ) : Type 0 where
  pub words : f.words ≡ word ∷ []
  pub hashes : f.hashes ≡ k
  pub key : key_of f.hasher ≡ (low, high)

module _ (form : FilterData) (f : DefaultFilter) (is : IsFive form) where
  -- the filter of a form has its word, one hash more than its number, and its key
  is_data_of-cases : (IsFilter f 5 2 0 3026418949592973312 → IsDataOf form f)
      × (IsFilter f 6 2 0 3026418949592973312 → IsDataOf form f → ⊥)
      × (IsFilter f 5 1 0 3026418949592973312 → IsDataOf form f → ⊥)
      × (IsFilter f 5 2 1 3026418949592973312 → IsDataOf form f → ⊥)
      × (IsFilter f 5 2 0 3026418949592973313 → IsDataOf form f → ⊥)
  is_data_of-cases = (
    λ of. record {
      words = rw is.words of.words;
      hashes = rw is.hashes of.hashes;
      key = rw (is.low, is.high) of.key;
    },
    λ of same.
        let wrong : 6 ∷ [] ≡ 5 ∷ [] = sym of.words ∙ same.words ∙ is.words in
        omega (arith, ap (λ words. get_or words 0 0) wrong),
    λ of same. omega (arith, is.hashes, of.hashes, same.hashes),
    λ of same.
        omega (arith, is.low, ap (λ (k : ℕ × ℕ). k.0) of.key, ap (λ (k : ℕ × ℕ). k.0) same.key),
    λ of same.
        omega (arith, is.high, ap (λ (k : ℕ × ℕ). k.1) of.key, ap (λ (k : ℕ × ℕ). k.1) same.key),
  )

-- two filters of the form have equal words, hashes and keys, and answer alike
from_data : DataLaw → (form : FilterData) (f g : DefaultFilter) → IsFive form
    → IsFilter f 5 2 0 3026418949592973312 → IsFilter g 5 2 0 3026418949592973312
    → (g.words ≡ f.words) × (g.hashes ≡ f.hashes) × (key_of g.hasher ≡ key_of f.hasher)
    × ((hash : ℕ) → contains anywhere g hash ≡ contains anywhere f hash)
from_data law form f g is of of' =
    let alike =
    law f g form ((is_data_of-cases form f is).0 of) ((is_data_of-cases form g is).0 of') in
    (alike.words, alike.hashes, alike.key, alike.found)

-- a hasher of the form's key gives an item the source hash that the filter's hasher gives it, also
-- where it is the hasher of a filter of another word
from_same_items : (hash_of : CloneBuildHasher RandomDefaultHasher → ℕ → ℕ) → SameItemsLaw hash_of
    → (form : FilterData) (f g : DefaultFilter) → IsFive form
    → IsFilter f 5 2 0 3026418949592973312 → IsFilter g 6 1 0 3026418949592973312
    → HasKey f.hasher 0 3026418949592973312 → HasKey g.hasher 0 3026418949592973312
    → hash_of g.hasher 8 ≡ hash_of f.hasher 8
from_same_items hash_of law form f g is of of' key key' =
    law f g form 0 3026418949592973312 key ((is_data_of-cases form f is).0 of)
    (rw (is.low, is.high) key') 8
