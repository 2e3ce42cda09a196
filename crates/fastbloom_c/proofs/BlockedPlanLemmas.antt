-- Plans of blocked filters, from the sizes and refusals of `bloom_blocked`.
use Rattle.std.proofs.Common.{◌≡◌, ℕ, ◌*◌, ◌^◌, max, Option, Some, None, ◌∙◌, ap, subst, arith}
use Rattle.std.proofs.Math.Nat.{max_comm}
use Rattle.std.proofs.lemmas.Bool.{le-leb}
use Rattle.std.proofs.lemmas.Option.{none-some}
use Rattle.bloom_parts.specs.declared.error.FilterError.{FilterError}
use Rattle.bloom_parts.specs.declared.error.FilterError.TheVariants.{ZeroRate, SizeOverflow}
use Rattle.bloom_parts.specs.Rates.{rate_refusal}
use Rattle.bloom_blocked.specs.BlockedSizing.{IsSizeInLines, IsTooLargeInLines, hashes_in_lines, line_size_refusal}
use Rattle.fastbloom_c.specs.BlockedPlans.{IsRefusalInLinesFor}

module _ (num den items n d i : ℕ) (is_num : n ≡ num) (is_den : d ≡ den)
    (is_items : i ≡ max items 1) where
  -- the size for a rate and items is that for what the caller gave, where 0 items count as 1
  pub size-given : (bits : ℕ) → IsSizeInLines i n d bits → IsSizeInLines (max 1 items) num den bits
  size-given bits sized =
      subst (λ k. IsSizeInLines (max 1 items) k den bits) is_num
      (subst (λ k. IsSizeInLines (max 1 items) n k bits) is_den
      (subst (λ k. IsSizeInLines k n d bits) (is_items ∙ max_comm items 1) sized))

  -- where the rate has no zero part a plan is refused as its size is
  pub refused-size : (bits : ℕ) (error : Option FilterError) → None ≡ rate_refusal num den
      → IsSizeInLines i n d bits → error ≡ line_size_refusal bits
      → IsRefusalInLinesFor num den items error
  refused-size bits error fits sized refused = record {
    rate = λ zero. absurd (none-some ZeroRate (fits ∙ zero));
    size = λ _. (bits, size-given bits sized, refused);
  }

  -- where its size is too large a plan is refused as such
  pub refused-large : (error : Option FilterError) → None ≡ rate_refusal num den
      → IsTooLargeInLines i n d → error ≡ Some SizeOverflow
      → IsRefusalInLinesFor num den items error
  refused-large error fits (bits, sized, large) is =
      refused-size bits error fits sized (rw (le-leb (2 ^ 64) bits large) is)

-- the number of hashes for these words, and for items where 0 counts as 1
pub hashes-given : (items i words k : ℕ) → i ≡ max items 1 → k ≡ hashes_in_lines (words * 64) i
    → k ≡ hashes_in_lines (64 * words) (max 1 items)
hashes-given items i words k is_items is =
    let bits : words * 64 ≡ 64 * words = omega arith in
    is ∙ ap (λ b. hashes_in_lines b i) bits
    ∙ ap (hashes_in_lines (64 * words)) (is_items ∙ max_comm items 1)
