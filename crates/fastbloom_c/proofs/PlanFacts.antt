-- The numbers that plans return: cases that hold, and the nearest that don't.
use Rattle.std.proofs.Common.{◌≡◌, ◌∙◌, Some, None, refl, ap, arith, lit<, lit≤}
use Rattle.bloom_parts.specs.Roots.{IsRoot}
use Rattle.bloom_parts.specs.Sizing.{IsHalvings, size_for}
use Rattle.bloom_parts.specs.declared.error.FilterError.TheVariants.{ZeroRate}
use Rattle.bloom_plain.specs.Builders.{size_refusal}
use Rattle.bloom_blocked.specs.BlockedSizing.{bits_in_lines, line_size_refusal}
use Rattle.fastbloom_c.specs.Plans.{IsCodeFor, code_or_zero}
use Rattle.fastbloom_c.specs.BlockedPlans.{IsCodeInLinesFor}

-- a rate above one is reached by no halving of one whole, so that one word is enough
halvings-above : IsHalvings 3 2 0
halvings-above =
    let root : IsRoot 0 4294967296 = record { at_most = lit≤ tt; greatest = lit< tt } in
    record { enough = (4294967296, root, lit≤ tt); least = λ other enough. omega arith }

-- a zero part of the rate is refused by its number, 4, and a rate above one isn't refused
code-plan : IsCodeFor 0 1 10 4
    × (IsCodeFor 0 1 10 0 → ⊥)
    × IsCodeFor 3 2 1000 0
    × (IsCodeFor 3 2 1000 5 → ⊥)
code-plan = (
  (Some ZeroRate, record { rate = λ _. refl; size = λ none. cc }, refl),
  λ planned.
      let (refusal, is, same) = planned in
      let four : 0 ≡ 4 = same ∙ ap code_or_zero (is.rate refl) in omega (arith, four),
  (None, record { rate = λ is. cc; size = λ _. (64, (0, halvings-above, refl), refl) }, refl),
  λ refused.
      let (refusal, is, same) = refused in
      let (bits, (parts, halvings, size), why) = is.size refl in
      let none : parts ≡ 0 = omega (arith, halvings.least 0 halvings-above.enough) in
      let word : bits ≡ 64 = size ∙ ap (size_for 1000) none in
      let zero : 5 ≡ 0 = same ∙ ap code_or_zero (why ∙ ap size_refusal word) in
      omega (arith, zero),
)

-- and so is a plan in lines: above a rate of one it has 66 bits
code-plan_in_lines : IsCodeInLinesFor 0 1 10 4
    × (IsCodeInLinesFor 0 1 10 0 → ⊥)
    × IsCodeInLinesFor 3 2 1000 0
    × (IsCodeInLinesFor 3 2 1000 5 → ⊥)
code-plan_in_lines = (
  (Some ZeroRate, record { rate = λ _. refl; size = λ none. cc }, refl),
  λ planned.
      let (refusal, is, same) = planned in
      let four : 0 ≡ 4 = same ∙ ap code_or_zero (is.rate refl) in omega (arith, four),
  (
    None,
    record {
      rate = λ is. cc;
      size = λ _. (66, (64, (0, halvings-above, refl), refl), refl);
    },
    refl,
  ),
  λ refused.
      let (refusal, is, same) = refused in
      let (bits, (plain, (parts, halvings, size), more), why) = is.size refl in
      let none : parts ≡ 0 = omega (arith, halvings.least 0 halvings-above.enough) in
      let word : plain ≡ 64 = size ∙ ap (size_for 1000) none in
      let line : bits ≡ 66 = more ∙ ap (λ b. bits_in_lines b 1000) word in
      let zero : 5 ≡ 0 = same ∙ ap code_or_zero (why ∙ ap line_size_refusal line) in
      omega (arith, zero),
)
