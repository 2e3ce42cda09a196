-- Filters of the same data.
use Rattle.std.proofs.Common.{◌≡◌, ◌∙◌, ℕ, length, ap, arith, sym}
use Rattle.bloom_plain.proofs.Common.{content, Placement, anywhere}
use Rattle.bloom_parts.specs.Keys.{HasKey, key_of}
use Rattle.bloom_parts.specs.declared.hasher.CloneBuildHasher.{CloneBuildHasher}
use Rattle.bloom_parts.specs.declared.hasher.sip.RandomDefaultHasher.{RandomDefaultHasher}
use Rattle.bloom_plain.specs.Data.{AnswerAlike, DataLaw, DefaultFilter, SameItemsLaw}

-- filters of equal words, numbers of hashes and keys answer alike
pub alike-parts : (at : Placement) (f g : DefaultFilter) → g.words ≡ f.words
    → g.hashes ≡ f.hashes → key_of g.hasher ≡ key_of f.hasher → AnswerAlike at f g
alike-parts at f g words hashes key = record {
  words = words;
  hashes = hashes;
  key = key;
  found = λ hash.
      ap (λ w. at.are_in (length w) g.hashes hash (content w)) words
      ∙ ap (λ k. at.are_in (length f.words) k hash (content f.words)) hashes;
}

-- filters of the same data have equal parts
pub data_law : DataLaw
data_law f g form of made =
    alike-parts anywhere f g (made.words ∙ sym of.words) (omega (arith, made.hashes, of.hashes))
    (made.key ∙ sym of.key)

-- an item has one hash under hashers of one key
pub same_items_law : {T : Type 0} (hash_of : CloneBuildHasher RandomDefaultHasher → T → ℕ)
    (by_key : ℕ → ℕ → T → ℕ)
    → ((b : CloneBuildHasher RandomDefaultHasher) (k0 k1 : ℕ) (item : T) → HasKey b k0 k1
    → hash_of b item ≡ by_key k0 k1 item)
    → SameItemsLaw hash_of
same_items_law hash_of by_key keyed f g form k0 k1 has of made item =
    let low : form.k0 ≡ k0 = sym (ap (λ (k : ℕ × ℕ). k.0) of.key) ∙ has.low in
    let high : form.k1 ≡ k1 = sym (ap (λ (k : ℕ × ℕ). k.1) of.key) ∙ has.high in
    keyed g.hasher form.k0 form.k1 item made
    ∙ ap (λ k. by_key k form.k1 item) low ∙ ap (λ k. by_key k0 k item) high
    ∙ sym (keyed f.hasher k0 k1 item has)
