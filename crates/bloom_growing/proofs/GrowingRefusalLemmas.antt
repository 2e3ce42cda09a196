-- Why the next filter of one that grows is refused.
use Rattle.std.proofs.Common.{◌≡◌, ℕ, ◌^◌, ◌<◌, ◌≤◌, max, Option, Some, None, refl, ap, subst, arith}
use Rattle.bloom_growing.proofs.Common.{MatchOption, Memory, Rate, num_of, den_of, IsNextRate, room_at, den_at, of_builders, RefusesNumber, Kind, IsSizeIn, size_refusal_in}
use Rattle.bloom_parts.specs.declared.error.FilterError.{FilterError}
use Rattle.bloom_plain.specs.Builders.{RefusesAs}
use Rattle.bloom_growing.specs.declared.growing.error.GrowingError.{GrowingError}
use Rattle.bloom_growing.specs.declared.growing.error.GrowingError.TheVariants.{RateOverflow, TooManyItems, Filter}

-- the room of a number of which it is told
pub room-of : (rate last : Rate) (room i many : ℕ) (told : Option ℕ) → told ≡ Some many
    → IsNextRate rate room i last told → many ≡ room_at room i
room-of rate last room i many told is next =
    subst (λ o. MatchOption o (2 ^ 64 ≤ room_at room i) (λ n. n ≡ room_at room i)) is next.fits

-- and one that is no number of 64 bits
pub room-past : (rate last : Rate) (room i : ℕ) (told : Option ℕ) → told ≡ None
    → IsNextRate rate room i last told → 2 ^ 64 ≤ room_at room i
room-past rate last room i told is next =
    subst (λ o. MatchOption o (2 ^ 64 ≤ room_at room i) (λ n. n ≡ room_at room i)) is next.fits

module _ (kind : Kind) (rate : Rate) (room i : ℕ) where
  -- a rate that can't be halved is refused
  pub refuses-rate : (den : ℕ) (error : GrowingError) → den ≡ den_at rate i → 2 ^ 64 ≤ den
      → error ≡ RateOverflow → RefusesNumber kind rate room i (Some error)
  refuses-rate den error is large same = record {
    rate_refused = λ _. ap Some same;
    room_refused = λ small _. absurd (omega (arith, small, is, large));
    size_refused = λ small _. absurd (omega (arith, small, is, large));
  }

  -- a room of 2^64 or more is refused, behind a rate that can be halved
  pub refuses-room : (den : ℕ) → den ≡ den_at rate i → den < 2 ^ 64 → 2 ^ 64 ≤ room_at room i
      → RefusesNumber kind rate room i (Some TooManyItems)
  refuses-room den is small large = record {
    rate_refused = λ big. absurd (omega (arith, big, is, small));
    room_refused = λ _ _. refl;
    size_refused = λ _ few. absurd (omega (arith, few, large));
  }

  -- a size is refused as the builders refuse it
  pub refuses-size : (half : Rate) (many : ℕ) (refusal : Option FilterError)
      → num_of half ≡ num_of rate → den_of half ≡ den_at rate i
      → den_of half < 2 ^ 64 → many ≡ room_at room i → many < 2 ^ 64 → 1 ≤ many
      → (bits : ℕ) × IsSizeIn kind (max 1 many) (num_of half) (den_of half) bits
      × RefusesAs (size_refusal_in kind bits) refusal
      → RefusesNumber kind rate room i (of_builders refusal)
  refuses-size half many refusal num den small is few some sized = record {
    rate_refused = λ big. absurd (omega (arith, big, den, small));
    room_refused = λ _ large. absurd (omega (arith, large, is, few));
    size_refused = λ _ _. (
      sized.0,
      subst (λ d. IsSizeIn kind (room_at room i) (num_of rate) d sized.0) den
          (subst (λ n. IsSizeIn kind (room_at room i) n (den_of half) sized.0) num
          (subst (λ n. IsSizeIn kind n (num_of half) (den_of half) sized.0)
          (omega (arith, some, is)) sized.1)),
      refusal,
      sized.2,
      refl,
    );
  }

-- where nothing is refused, memory may be
pub refuses-memory : (kind : Kind) (rate : Rate) (room i : ℕ) → RefusesNumber kind rate room i None
    → RefusesNumber kind rate room i (Some (Filter Memory))
refuses-memory kind rate room i none = record {
  rate_refused = λ big. let wrong = none.rate_refused big in cc;
  room_refused = λ small large. let wrong = none.room_refused small large in cc;
  size_refused = λ small few.
      let size = none.size_refused small few in
      let told = memory (size_refusal_in kind size.0) size.2 size.3 size.4 in
      (size.0, size.1, Some Memory, told, refl);
}
  where
    memory : (listed refusal : Option FilterError) → RefusesAs listed refusal
        → None ≡ of_builders refusal → RefusesAs listed (Some Memory)
    memory None refusal refused is = refl
    memory (Some e) (Some f) refused is = absurd (let wrong : None ≡ Some (Filter f) = is in cc)
    memory (Some e) None refused is = absurd (let wrong : None ≡ Some e = refused in cc)
