-- One step that sets a mask of masks: it sets its part of their bits, and what it found of them.
use Rattle.std.proofs.Common.{◌%◌, ◌*◌, ◌+◌, ◌/◌, ◌<◌, ◌^◌, ◌∙◌, ◌≡◌, ◌≢◌, ◌↔◌, Bool, List, ap, arith, eq-eqb, false, inl, inr, length, nat_eq, refl, slice_index, sym, true, ℕ}
use Rattle.bloom_steps.proofs.Common.{bit_at, both_ways, cases_lt, eqb-true, bit_is_on, content, content-past, End, Or, HasAll, IsThere, Lacks, SetsItsPart}
use Rattle.bloom_steps.proofs.StepLemmas.Driving.{made}
use Rattle.bloom_steps.proofs.StepLemmas.Writing.{content-word}
use Rattle.bloom_steps.proofs.StepLemmas.MaskBits.{lacks-bit, some-bit}

-- the mask of one word
module _ (masks : List ℕ) (i : ℕ) where
  abbrev A : ℕ → Bool
  A = content masks

  abbrev mask : ℕ
  mask = slice_index masks i

  -- the position of a bit of the mask
  there-of : (b : ℕ) → b < 64 → nat_eq (bit_at mask b) 1 ≡ true → IsThere A (Or i mask) (64 * i + b)
  there-of b below is =
      let at : (64 * i + b) / 64 ≡ i = omega (arith, below) in
      let bit : (64 * i + b) % 64 ≡ b = omega (arith, below) in
      record {
        at = at;
        within = content-word masks i (64 * i + b) at
            ∙ ap (λ j. nat_eq (bit_at mask j) 1) bit ∙ is;
      }

  -- the step sets its part
  pub its-part : mask < 2 ^ 64 → mask ≢ 0 → SetsItsPart A (Or i mask)
  its-part fits some = record {
    mask = mask;
    is = refl;
    part = record { fits = fits; bits = λ p at. sym (content-word masks i p at) };
    some =
        let (b, below, is) = some-bit mask fits some in
        (64 * i + b, there-of b below is);
  }

  -- whether it found all set
  pub its-reply : (on : Bool) (found : ℕ) → ((on ≡ true) ↔ HasAll found mask) → (end : End)
      → (on ≡ false) ↔ Lacks A (made (Or i mask) found end)
  its-reply on found whole end = (
    (λ off.
        let (b, below, is, clear) =
        lacks-bit found mask (λ has. both_ways on off (whole.1 has)) in
        let bit : (64 * i + b) % 64 ≡ b = omega (arith, below) in
        (64 * i + b, there-of b below is, ap (λ j. nat_eq (bit_at found j) 1) bit ∙ clear)),
    (λ lacks. go on refl lacks),
  )
    where
      go : (x : Bool) → on ≡ x → Lacks A (made (Or i mask) found end) → on ≡ false
      go false is lacks = is
      go true is (p, there, off) =
          let set : bit_at mask (p % 64) ≡ 1 =
          eqb-true (bit_at mask (p % 64)) 1
          (sym (content-word masks i p there.at) ∙ there.within) in
          let has = whole.0 is (p % 64) (omega arith) set in
          absurd (both_ways (bit_is_on found p) off (eq-eqb (bit_at found (p % 64)) 1 has))

-- each bit of masks lies in one of them
pub masks-bound : (masks : List ℕ) (p : ℕ) → content masks p ≡ true → p / 64 < length masks
masks-bound masks p on = elim (cases_lt (p / 64) (length masks)) [
  | inl within ↦ within
  | inr past ↦ absurd (both_ways (content masks p) (content-past masks p past) on)
]
