-- The shape of a shared filter that is made for the items of a rate's builder.
use Rattle.std.proofs.Common.{◌≡◌, ◌∙◌, ◌*◌, ◌≤◌, ℕ, Option, max, replicate, length, sym, subst, ap, arith}
use Rattle.std.proofs.Math.Nat.{max_comm}
use Rattle.fastbloom.proofs.Common.{length-replicate, SharedWords, BeganWith, HasFormFor, SharedFilter, HasFormOf}
use Rattle.bloom_parts.specs.declared.error.FilterError.{FilterError}
use Rattle.bloom_parts.specs.declared.math.rate.Rate.{Rate}
use Rattle.bloom_parts.specs.Rates.{num_of, den_of}
use Rattle.bloom_parts.specs.Sizing.{IsSizeFor, hashes_for}
use Rattle.bloom_plain.specs.Builders.{RateStart, IsSizeOf, RefusesAs, size_refusal, words_for, sized_filter, empty_start}

-- a builder's parts, which came out of the plain builder that it holds
module _ {S : Type 0} (start plain : RateStart S) (of : plain ≡ start) where
  -- the number of bits for the rate and items is that of the builder, where none counts as one
  size_of-parts : (rate : Rate) (expected items bits : ℕ)
      → rate ≡ plain.rate → items ≡ max expected 1
      → IsSizeFor items (num_of rate) (den_of rate) bits → IsSizeOf start expected bits
  size_of-parts rate expected items bits is_rate is_items sized =
      subst (λ r. IsSizeFor (max 1 expected) (num_of r) (den_of r) bits)
      (is_rate ∙ ap (λ b. b.rate) of)
      (subst (λ i. IsSizeFor i (num_of rate) (den_of rate) bits)
      (is_items ∙ max_comm expected 1) sized)

  -- a filter with this number of words and of hashes has the form that is asked for
  form_of-zeros : (f : SharedFilter S) (words : SharedWords) (bits items size hashes : ℕ)
      → f.words ≡ words → BeganWith words (replicate (words_for bits) 0)
      → words.count ≡ words_for bits → size ≡ 64 * words.count
      → f.hashes ≡ max 1 hashes → 1 ≤ hashes → hashes ≡ hashes_for size (max 1 items)
      → f.hasher ≡ plain.hasher
      → HasFormOf f (sized_filter (empty_start start bits) items)
  form_of-zeros f words bits items size hashes is_words began count is_size is_hashes some best
      hasher =
      let as_many : f.hashes ≡ hashes = omega (arith, is_hashes, some) in
      let zeros : words.count ≡ length (replicate (words_for bits) 0) =
      count ∙ sym (length-replicate (words_for bits) 0) in
      record {
        began = subst (λ v. BeganWith v (replicate (words_for bits) 0)) (sym is_words) began;
        words = ap (λ v. v.count) is_words ∙ zeros;
        hashes = as_many ∙ best ∙ ap (λ n. hashes_for n (max 1 items))
            (is_size ∙ ap (λ w. 64 * w) zeros);
        hasher = hasher ∙ ap (λ b. b.hasher) of;
      }

  -- a size that is refused is refused as `zero_words` refuses it
  pub refused-parts : (rate : Rate) (expected items bits : ℕ) (error : Option FilterError)
      → rate ≡ plain.rate → items ≡ max expected 1
      → IsSizeFor items (num_of rate) (den_of rate) bits → RefusesAs (size_refusal bits) error
      → (size : ℕ) × IsSizeOf start expected size × RefusesAs (size_refusal size) error
  refused-parts rate expected items bits error is_rate is_items sized refused =
      (bits, size_of-parts rate expected items bits is_rate is_items sized, refused)

  -- a filter that was made of this number of zero words has the form for the items
  pub form_of-parts : (own_rate : Rate) (own_hasher : S) (expected items bits size num : ℕ)
      (f : SharedFilter S) (zeros : SharedWords)
      → record { rate : own_rate ≡ plain.rate; hasher : own_hasher ≡ plain.hasher }
      → items ≡ max expected 1 → IsSizeFor items (num_of own_rate) (den_of own_rate) bits
      → BeganWith zeros (replicate (words_for bits) 0)
      → zeros.count ≡ words_for bits → size ≡ 64 * zeros.count
      → record { value : num ≡ hashes_for size (max 1 expected); least : 1 ≤ num }
      → record {
        words : f.words ≡ zeros;
        hashes : f.hashes ≡ max 1 num;
        hasher : f.hasher ≡ own_hasher;
      } → HasFormFor start expected f
  form_of-parts own_rate own_hasher expected items bits size num f zeros parts is_items sized began
      count is_size best made = (
        bits,
        size_of-parts own_rate expected items bits parts.rate is_items sized,
        form_of-zeros f zeros bits expected size num made.words began count is_size made.hashes
            best.least best.value (made.hasher ∙ parts.hasher),
      )
