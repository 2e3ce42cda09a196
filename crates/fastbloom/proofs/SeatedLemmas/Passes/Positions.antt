-- A view as a pass, and a position by its word and its mask.
use Rattle.std.proofs.Common.{◌≡◌, ℕ, ◌/◌, ◌%◌, ◌^◌, eqb, sym, ap, ◌∙◌}
use Rattle.fastbloom.proofs.Common.{eqb-true, TableId, bit_is_on-mask, set_of, ones_in, Sight, Sets}
use Rattle.fastbloom.proofs.SeatedLemmas.Sets.{same-tests, on-from, on-to}

-- a view at a table, as a pass
abbrev pub seen : TableId → Sets → Sight
seen table v = record { filter = table; start = v.start; known = v.known; gained = v.gained }

-- a position by its word and its bit
module _ (q found : ℕ) where
  -- the mask of the position
  abbrev pub mask_of : ℕ
  mask_of = 2 ^ (q % 64)

  -- the position alone is set in its mask
  pub mask-alone : (p : ℕ) → set_of (ones_in (q / 64) mask_of) p ≡ eqb p q
  mask-alone p =
      same-tests (set_of (ones_in (q / 64) mask_of) p) (eqb p q)
      (λ is.
      let there = on-from (q / 64) mask_of p is in
      sym (bit_is_on-mask p q there.0) ∙ there.1)
      (λ is.
      let same : p ≡ q = eqb-true p q is in
      on-to (q / 64) mask_of p (ap (λ j. j / 64) same)
      (bit_is_on-mask p q (ap (λ j. j / 64) same) ∙ is))
