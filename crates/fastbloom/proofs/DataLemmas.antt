-- The data of a filter that threads share are never refused.
use Rattle.std.proofs.Common.{◌≡◌, ◌-◌, ◌^◌, ◌<◌, ◌≤◌, ℕ, None, Some, nat_eq, nat_le, if◌then◌else◌, arith, refl}
use Rattle.std.proofs.lemmas.Bool.{lt-leb, ne_eqb}
use Rattle.bloom_parts.specs.declared.error.FilterError.TheVariants.{EmptyWords, TooManyWords, HashCount}

-- neither no words nor too many, and a number of hashes less one that can be counted up
pub never_refused : (words count less_one : ℕ) → words ≡ count → 1 ≤ count → count < 2 ^ 58
    → less_one < 2 ^ 32 - 1
    → (if nat_eq words 0 then Some EmptyWords
    else if nat_le (2 ^ 58) words then Some TooManyWords
    else if nat_eq less_one (2 ^ 32 - 1) then Some HashCount
    else None) ≡ None
never_refused words count less_one same some few hashes =
    let short : words < 2 ^ 58 = omega (arith, same, few) in
    rw (
      ne_eqb words 0 (λ e. absurd (omega (arith, e, same, some))),
      lt-leb (2 ^ 58) words short,
      ne_eqb less_one (2 ^ 32 - 1) (λ e. absurd (omega (arith, e, hashes))),
    ) refl
