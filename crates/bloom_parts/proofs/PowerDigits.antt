-- The binary digits of an exponent, from the highest on.
use Rattle.std.proofs.Common.{◌≡◌, ℕ, zero, suc, ◌+◌, ◌-◌, ◌*◌, ◌/◌, ◌%◌, ◌^◌, ◌<◌, ◌≤◌, refl, arith, sym, ◌∙◌, ap, inl, inr, lit<}
use Rattle.std.proofs.Math.Nat.{two-pow-succ, pow-le-pow_right, div-one, div-eq_of_lt}
use Rattle.std.proofs.lemmas.Nat.{shr-shr, leading_length, ones_le_self}
use Rattle.std.proofs.lemmas.Bool.{cases_lt}
use Rattle.std.specs.Int.Count.{ones_step}
use Rattle.std.specs.Int.RustNames.{count_ones}
use lib.Count.{count_leading_zeros}
use Rattle.bloom_parts.specs.Powers.{next_power, rounded_power, products_of}

-- half an exponent has one digit less
pub half-below : (digits e : ℕ) → e < 2 ^ suc digits → e / 2 < 2 ^ digits
half-below digits e below = omega (arith, below, two-pow-succ digits)

-- how many digits an exponent has
abbrev pub digits_of : ℕ → ℕ
digits_of e = 128 - count_leading_zeros 128 e

-- they are enough for it, and fewer are not
digits-enough : (e : ℕ) → e < 2 ^ 128 → e < 2 ^ digits_of e
digits-enough e fits =
    let (m, sum, below, _) = leading_length 128 e fits in
    let same : digits_of e ≡ m = omega (arith, sum) in
    rw same below

-- an exponent has no more digits than it is given room for
digits-needed : (e digits : ℕ) → e < 2 ^ 128 → e < 2 ^ digits → digits_of e ≤ digits
digits-needed e digits fits below =
    let (m, sum, _, tight) = leading_length 128 e fits in
    elim (cases_lt digits m) as (λ _. digits_of e ≤ digits) [
      | inl fewer ↦
          let more : 2 ^ suc digits ≤ 2 ^ m = pow-le-pow_right (lit< tt) fewer in
          absurd (omega (arith, two-pow-succ digits, more, below, tight))
      | inr enough ↦ omega (arith, enough, sum)
    ]

-- no digits are left of an exponent behind its highest, so none of them is 1
ones-start : (e : ℕ) → e < 2 ^ 128 → count_ones (e / 2 ^ digits_of e) ≡ 0
ones-start e fits =
    let none : e / 2 ^ digits_of e ≡ 0 = div-eq_of_lt (digits-enough e fits) in
    rw none (omega (arith, ones_le_self 0))

-- the ones down to a digit are those above it and the digit
ones-next : (e i : ℕ) → 0 < i →
    count_ones (e / 2 ^ (i - 1)) ≡ e / 2 ^ (i - 1) % 2 + count_ones (e / 2 ^ i)
ones-next e i some =
    let place : i - 1 + 1 ≡ i = omega (arith, some) in
    let half : e / 2 ^ (i - 1) / 2 ≡ e / 2 ^ i = shr-shr e (i - 1) 1 ∙ rw place refl in
    ones_step (e / 2 ^ (i - 1)) ∙ ap (λ n. e / 2 ^ (i - 1) % 2 + count_ones n) half

-- the power to the highest digits of an exponent, all but the i lowest
abbrev power_down_to : ℕ → (ℕ → ℕ → ℕ) → ℕ → ℕ → ℕ → ℕ
power_down_to whole product base e i =
    rounded_power whole product base (digits_of e - i) (e / 2 ^ i)

-- the power to the highest digits, made with this many products
pub record IsSoFar (whole : ℕ) (product : ℕ → ℕ → ℕ) (base e i power count : ℕ) : Type 0 where
  pub value : power ≡ power_down_to whole product base e i
  pub products : count ≤ 2 * (digits_of e - i)
  pub exact : count ≡ digits_of e - i + count_ones (e / 2 ^ i)
  pub fits : power ≤ whole

-- a product that was rounded and counted
abbrev pub IsProduct : ℕ → (ℕ → ℕ → ℕ) → ℕ → ℕ → ℕ → ℕ → ℕ → Type 0
IsProduct whole product x y result before after = record {
  value : result ≡ product x y;
  fits : result ≤ whole;
  products : after ≡ before + 1;
}

module _ (whole : ℕ) (product : ℕ → ℕ → ℕ) (base e : ℕ) where
  -- no digit at all: the power is one whole
  pub power-start : {count : ℕ} → e < 2 ^ 128 → count ≡ 0 →
      IsSoFar whole product base e (digits_of e) whole count
  unfolding rounded_power
  power-start below none = record {
    value =
        let no_digit : digits_of e - digits_of e ≡ 0 = omega arith in
        rw no_digit refl;
    products = omega (arith, none);
    exact = omega (arith, none, ones-start e below);
    fits = omega arith;
  }

  -- one digit more
  power-next : (i power : ℕ) → 0 < i → i ≤ digits_of e →
      power ≡ power_down_to whole product base e i →
      power_down_to whole product base e (i - 1)
      ≡ next_power product base power (e / 2 ^ (i - 1) % 2)
  unfolding rounded_power
  power-next i power some within is =
      let digits : digits_of e - (i - 1) ≡ suc (digits_of e - i) = omega (arith, some, within) in
      let place : i - 1 + 1 ≡ i = omega (arith, some) in
      let half : e / 2 ^ (i - 1) / 2 ≡ e / 2 ^ i = shr-shr e (i - 1) 1 ∙ rw place refl in
      rw (digits, half, is) refl

  -- a place above the lowest, the power down to it, and its square
  module _ {i power count square next : ℕ} (is : IsSoFar whole product base e i power count)
      (some : 0 < i) (within : i ≤ digits_of e)
      (squared : IsProduct whole product power power square count next) where
    -- where the digit below is 1, the power is squared and multiplied
    pub power-one : {times more : ℕ} → e / 2 ^ (i - 1) % 2 ≡ 1 →
        IsProduct whole product square base times next more →
        IsSoFar whole product base e (i - 1) times more
    power-one digit multiplied =
        let next = power-next i power some within is.value in
        record {
          value = multiplied.value ∙ rw squared.value (sym (rw digit at next));
          products =
              omega (arith, multiplied.products, squared.products, is.products, some, within);
          exact =
              omega (
                arith,
                multiplied.products,
                squared.products,
                is.exact,
                some,
                within,
                digit,
                ones-next e i some,
              );
          fits = multiplied.fits;
        }

    -- where it is 0, the power is squared
    pub power-zero : (e / 2 ^ (i - 1) % 2 ≡ 1 → ⊥) →
        IsSoFar whole product base e (i - 1) square next
    power-zero other =
        let next = power-next i power some within is.value in
        let digit : e / 2 ^ (i - 1) % 2 ≡ 0 = omega (arith, other) in
        record {
          value = squared.value ∙ sym (rw digit at next);
          products = omega (arith, squared.products, is.products, some, within);
          exact =
              omega (arith, squared.products, is.exact, some, within, digit, ones-next e i some);
          fits = squared.fits;
        }

  -- high digits that are zero change nothing, since one whole times one whole is one whole
  module _ (exact : product whole whole ≡ whole) where
    -- the power to 0 is one whole, whatever the number of digits
    power-none : (n d : ℕ) → d ≡ 0 → rounded_power whole product base n d ≡ whole
    unfolding rounded_power
    power-none zero d none = refl
    power-none (suc n) d none =
        let rest : rounded_power whole product base n (d / 2) ≡ whole =
        power-none n (d / 2) (omega arith) in
        let digit : d % 2 ≡ 0 = omega arith in
        rw (digit, rest, exact) refl

    -- digits above those of the exponent change nothing
    more-digits : (n m d : ℕ) → n ≤ m → d < 2 ^ n →
        rounded_power whole product base m d ≡ rounded_power whole product base n d
    unfolding rounded_power
    more-digits zero m d more below = power-none m d (omega arith)
    more-digits (suc n) zero d more below = absurd (omega arith)
    more-digits (suc n) (suc m) d more below =
        rw (more-digits n m (d / 2) (omega arith) (half-below n d below)) refl

    -- with no digit left out, it is the power, with at most two products for each digit
    pub power-end : {i power count : ℕ} → IsSoFar whole product base e i power count →
        e < 2 ^ 128 → i ≤ 0 → record {
          value : power ≡ rounded_power whole product base 128 e;
          fits : power ≤ whole;
          products : (digits : ℕ) → e < 2 ^ digits → count ≤ 2 * digits;
          exact : count ≡ products_of e;
        }
    power-end {i} is fits last =
        let none : i ≡ 0 = omega arith in
        let all : digits_of e - i ≡ digits_of e = omega arith in
        let same : e / 2 ^ i ≡ e = rw none (div-one e) in
        let more = more-digits (digits_of e) 128 e (omega arith) (digits-enough e fits) in
        record {
          value = is.value ∙ rw (all, same) (sym more);
          fits = is.fits;
          products = λ digits below.
              omega (arith, is.products, digits-needed e digits fits below);
          exact = is.exact ∙ rw (all, same) refl;
        }
