-- Cases that the facts of this crate share.
use Rattle.std.proofs.Common.{ℕ, ◌^◌, ◌≤◌, Bool, eqb, [], ◌∷◌, Option, Some, None, IfSome, subst, lit≤}
use Rattle.bloom_parts.proofs.Common.{le_refl, SipState, start, Bracket}
use Rattle.std.proofs.lemmas.Option.{none-some}
use Rattle.bloom_parts.specs.declared.math.estimate.Estimate.{Estimate}

-- the set that has one position alone
abbrev pub only : ℕ → ℕ → Bool
only position p = eqb p position

-- the bracket of these bounds, in units of 2^-63
abbrev pub between : (low high : ℕ) → low ≤ high → high ≤ 2 ^ 63 → Bracket
between low high ordered fits =
    record { low = low; high = high; ordered = ordered; in_range = fits }

-- the bracket of one number of units
abbrev pub exactly : (units : ℕ) → units ≤ 2 ^ 63 → Bracket
exactly units fits = between units units (le_refl units) fits

-- a third, which lies between two units
abbrev pub third : Bracket
third = between 3074457345618258602 3074457345618258603 (lit≤ tt) (lit≤ tt)

-- the estimate of these bounds
abbrev pub from_to : (low high : ℕ) → low ≤ high → Estimate
from_to low high ordered = record {
  low = low;
  high = Some high;
  ordered = λ x is. subst (λ (most : Option ℕ). IfSome most (λ it. low ≤ it)) is ordered;
}

-- the estimate of one number of items
abbrev pub just : ℕ → Estimate
just items = from_to items items (le_refl items)

-- the estimate with a lower bound alone
abbrev pub from : ℕ → Estimate
from low = record { low = low; high = None; ordered = λ x is. absurd (none-some x is) }

-- the hasher with this key, which has taken in nothing
abbrev pub keyed : ℕ → ℕ → SipState
keyed low high = record { low = low; high = high; words = start low high; held = []; count = 0 }

-- the hasher of the key bytes 0 to 15
abbrev pub counting : SipState
counting = keyed 0x0706_0504_0302_0100 0x0f0e_0d0c_0b0a_0908

-- the hasher of the key of zeros after the byte 7
abbrev pub after_one : SipState
after_one = record (keyed 0 0) { held = 7 ∷ []; count = 1 }
