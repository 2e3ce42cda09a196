-- How many numbers below a bound pass a test.
use Rattle.std.proofs.Common.{◌%◌, ◌&&◌, ◌*◌, ◌+◌, ◌-◌, ◌/◌, ◌<◌, ◌∙◌, ◌≡◌, ◌≢◌, ◌≤◌, ◌⊎◌, Bool, ap, arith, false, if◌then◌else◌, inl, inr, nat_eq, not, refl, suc, sym, true, zero, ℕ}
use Rattle.bloom_steps.proofs.Common.{both_ways, bit_at, bit_is_on, bits_new, bits_on, count_below}

-- tests that agree below a bound pass as many
pub count_below-same : (n : ℕ) (f g : ℕ → Bool) → ((i : ℕ) → i < n → f i ≡ g i)
    → count_below n f ≡ count_below n g
count_below-same zero f g same = refl
count_below-same (suc n) f g same =
    let below = count_below-same n f g (λ i l. same i (omega arith)) in
    ap (λ b. if b then count_below n f + 1 else count_below n f) (same n (omega arith))
    ∙ ap (λ c. if g n then c + 1 else c) below

-- where none passes there are none
count_below-none : (n : ℕ) (f : ℕ → Bool) → ((i : ℕ) → i < n → f i ≡ false) → count_below n f ≡ 0
count_below-none zero f none = refl
count_below-none (suc n) f none =
    ap (λ b. if b then count_below n f + 1 else count_below n f) (none n (omega arith))
    ∙ count_below-none n f (λ i l. none i (omega arith))

-- the numbers that pass are those of a part and those of the rest
pub count_below-part : (n : ℕ) (f g : ℕ → Bool) → ((i : ℕ) → f i ≡ true → g i ≡ true)
    → count_below n g ≡ count_below n f + count_below n (λ i. g i && not (f i))
count_below-part zero f g part = refl
count_below-part (suc n) f g part =
    go (f n) (g n) refl refl (count_below n f) (count_below n g)
    (count_below n (λ i. g i && not (f i))) (count_below-part n f g part)
  where
    go : (a b : Bool) → f n ≡ a → g n ≡ b → (x y z : ℕ) → y ≡ x + z
        → (if b then y + 1 else y)
        ≡ (if a then x + 1 else x) + (if b && not a then z + 1 else z)
    go true true p q x y z e = omega (arith, e)
    go true false p q x y z e = absurd (both_ways (g n) q (part n p))
    go false true p q x y z e = omega (arith, e)
    go false false p q x y z e = e

-- the numbers that pass are those below a number and those from it on
count_below-split : (b a n : ℕ) (f : ℕ → Bool) → n ≡ b + a
    → count_below n f ≡ count_below a f + count_below b (λ j. f (j + a))
count_below-split zero a n f e =
    let same : n ≡ a = omega (arith, e) in
    ap (λ m. count_below m f) same ∙ plus_none (count_below a f)
  where
    plus_none : (x : ℕ) → x ≡ x + 0
    plus_none x = omega arith
count_below-split (suc b) a zero f e = absurd (omega (arith, e))
count_below-split (suc b) a (suc n) f e =
    let same : n ≡ b + a = omega (arith, e) in
    ap (λ t. if t then count_below n f + 1 else count_below n f) (ap f same)
    ∙ go (f (b + a)) (count_below n f) (count_below a f) (count_below b (λ j. f (j + a)))
    (count_below-split b a n f same)
  where
    go : (t : Bool) (x y z : ℕ) → x ≡ y + z
        → (if t then x + 1 else x) ≡ y + (if t then z + 1 else z)
    go true x y z e = omega (arith, e)
    go false x y z e = e

-- where n numbers from a place on are taken away, the count is less by them
count_below-less : (all rest n at : ℕ) (f g h : ℕ → Bool) → all ≡ rest + (n + at)
    → ((j : ℕ) → j < n → (h j ≡ f (j + at)) × (g (j + at) ≡ false))
    → ((p : ℕ) → (p < at) ⊎ (n + at ≤ p) → f p ≡ g p)
    → count_below all f ≡ count_below n h + count_below all g
count_below-less all rest n at f g h e part same =
    let f-all = count_below-split rest (n + at) all f e in
    let f-low = count_below-split n at (n + at) f refl in
    let g-all = count_below-split rest (n + at) all g e in
    let g-low = count_below-split n at (n + at) g refl in
    let low = count_below-same at f g (λ p l. same p (inl l)) in
    let mid = count_below-same n h (λ j. f (j + at)) (λ j l. (part j l).0) in
    let gone = count_below-none n (λ j. g (j + at)) (λ j l. (part j l).1) in
    let high =
    count_below-same rest (λ j. f (j + (n + at))) (λ j. g (j + (n + at)))
    (λ j l. same (j + (n + at)) (inr (omega arith))) in
    omega (arith, f-all, f-low, g-all, g-low, low, mid, gone, high)

-- where a word is taken away, the count is less by the word's bits
pub count_below-word : (w i word : ℕ) (f g : ℕ → Bool) → i < w
    → ((p : ℕ) → p / 64 ≡ i → (bit_is_on word p ≡ f p) × (g p ≡ false))
    → ((p : ℕ) → p / 64 ≢ i → f p ≡ g p)
    → count_below (64 * w) f ≡ bits_on word + count_below (64 * w) g
unfolding bits_on
count_below-word w i word f g l part same =
    count_below-less (64 * w) (64 * w - (64 + 64 * i)) 64 (64 * i) f g (bit_is_on word)
    (omega arith)
    (λ j b.
    let its = part (j + 64 * i) (omega (arith, b)) in
    let bit : j % 64 ≡ (j + 64 * i) % 64 = omega (arith, b) in
    (ap (λ n. nat_eq (bit_at word n) 1) bit ∙ its.0, its.1))
    (λ p out. same p (λ e. elim out [
      | inl low ↦ absurd (omega (arith, low, e))
      | inr high ↦ absurd (omega (arith, high, e))
    ]))

-- where bits of a word are added, the count is more by those of the mask that were clear
pub count_below-gained : (w i mask word : ℕ) (f g : ℕ → Bool) → i < w
    → ((p : ℕ) → f p ≡ true → g p ≡ true)
    → ((p : ℕ) → p / 64 ≡ i
    → (g p && not (f p)) ≡ (bit_is_on mask p && not (bit_is_on word p)))
    → ((p : ℕ) → p / 64 ≢ i → (g p && not (f p)) ≡ false)
    → count_below (64 * w) g ≡ count_below (64 * w) f + bits_new mask word
unfolding bits_new
count_below-gained w i mask word f g l part inside outside =
    let whole = count_below-part (64 * w) f g part in
    let gains =
    count_below-less (64 * w) (64 * w - (64 + 64 * i)) 64 (64 * i) (λ p. g p && not (f p))
    (λ p. false) (λ j. bit_is_on mask j && not (bit_is_on word j)) (omega arith)
    (λ j b.
    let bit : j % 64 ≡ (j + 64 * i) % 64 = omega (arith, b) in (
      ap (λ n. nat_eq (bit_at mask n) 1 && not (nat_eq (bit_at word n) 1)) bit
          ∙ sym (inside (j + 64 * i) (omega (arith, b))),
      refl,
    ))
    (λ p out. outside p (λ e. elim out [
      | inl low ↦ absurd (omega (arith, low, e))
      | inr high ↦ absurd (omega (arith, high, e))
    ])) in
    let none = count_below-none (64 * w) (λ p. false) (λ p b. refl) in
    omega (arith, whole, gains, none)
