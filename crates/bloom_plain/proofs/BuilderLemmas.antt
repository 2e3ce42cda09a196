-- What builders make.
use Rattle.std.proofs.Common.{◌≡◌, ℕ, ◌*◌, max, nat_eq, List, replicate, Option, sym, ◌∙◌, ap, subst}
use Rattle.bloom_plain.proofs.Common.{eqb-true, eq-eqb, Start, RateStart, Filter, EqualStartsLaw, EqualRateStartsLaw}
use Rattle.std.specs.Cmp.Lexicographic.{pointwise, same_text, nat_list_eq_equiv}
use Rattle.std.proofs.Math.Nat.{max_comm}
use Rattle.std.specs.Iterator.Runs.{WholeRun}
use Rattle.bloom_parts.specs.Rates.{num_of, den_of}

-- what `insert_all` does with an iterator and a filter, it does with an iterator and a filter that
-- are equal to them
pub inserts_all-same : {F T I : Type 0} (Did : F → List T → F → Type 0)
    (steps : I → Option T → I → Type 0) (it : I) (start made filter : F) → start ≡ made
    → (same : I) × (same ≡ it) × WholeRun steps same (λ run. Did start run.items filter)
    → WholeRun steps it (λ run. Did made run.items filter)
inserts_all-same Did steps it start made filter is_made all =
    subst (λ f. WholeRun steps it (λ run. Did f run.items filter)) is_made
    (subst (λ i. WholeRun steps i (λ run. Did start run.items filter)) all.1 all.2)

module _ {S : Type 0} (IsSize : ℕ → ℕ → ℕ → ℕ → Type 0) (inside start : RateStart S)
    (expected items bits : ℕ) (is_start : inside ≡ start) (is_items : items ≡ max expected 1)
    (sized : IsSize items (num_of inside.rate) (den_of inside.rate) bits) where
  -- the number of bits for a rate and items is that for a builder of the rate, where 0 items count
  -- as 1
  pub size_of-rate : IsSize (max 1 expected) (num_of start.rate) (den_of start.rate) bits
  size_of-rate =
      subst (λ b. IsSize (max 1 expected) (num_of b.rate) (den_of b.rate) bits) is_start
      (subst (λ i. IsSize i (num_of inside.rate) (den_of inside.rate) bits)
      (is_items ∙ max_comm expected 1) sized)

  -- a filter that was sized from zero words for a rate's items is made for them
  pub made_for-zeros : (suited : Start S → ℕ → Filter S) (words_of : ℕ → ℕ) (words : List ℕ)
      (filter : Filter S) → words ≡ replicate (words_of bits) 0
      → filter ≡ suited (record { words = words; hasher = inside.hasher }) expected
      → (size : ℕ) × IsSize (max 1 expected) (num_of start.rate) (den_of start.rate) size
      × (filter ≡ suited (record {
        words = replicate (words_of size) 0;
        hasher = start.hasher;
      }) expected)
  made_for-zeros suited words_of words filter zeros made = (
    bits,
    size_of-rate,
    made ∙ ap (λ w. suited (record { words = w; hasher = inside.hasher }) expected) zeros
        ∙ ap (λ b. suited (record {
          words = replicate (words_of bits) 0;
          hasher = b.hasher;
        }) expected) is_start,
  )

-- lists of words are compared word by word
pub equal_starts_law : (S : Type 0) → EqualStartsLaw S
equal_starts_law S a b = (
  (λ same. same_text a.words b.words (sym same)),
  (λ same.
      ap (λ words. pointwise nat_eq a.words words) (sym same) ∙ nat_list_eq_equiv.refl a.words),
)

-- cross products are compared as numbers
pub equal_rate_starts_law : (S : Type 0) → EqualRateStartsLaw S
equal_rate_starts_law S a b = (
  eqb-true (num_of a.rate * den_of b.rate) (num_of b.rate * den_of a.rate),
  eq-eqb (num_of a.rate * den_of b.rate) (num_of b.rate * den_of a.rate),
)
