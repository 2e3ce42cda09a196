-- Unions of any kind: each step reads a word of the other filter, or sets what such a step found.
use Rattle.std.proofs.Common.{◌*◌, ◌+◌, ◌∙◌, ◌≡◌, ◌⊎◌, List, ap, arith, inl, inr, slice_get, sym, true, ℕ}
use Rattle.bloom_steps.proofs.Common.{some_member, slice_get_within, Union, Or, Other, Any, Each, IsScript, Taken}
use Rattle.bloom_steps.proofs.StepLemmas.Going.{operates, parity, reads}

-- a step sets what another, which read the other filter's word, found
abbrev pub Copies : List Taken → Taken → Type 0
Copies s t = Any s (λ j u. (w : ℕ) × (u.step ≡ Other w) × (t.step ≡ Or w u.found))

-- the steps of a union: those that read are copied
pub record CopySteps (s : List Taken) : Type 0 where
  pub each : Each s (λ i t. ((w : ℕ) × (t.step ≡ Other w)) ⊎ Copies s t)
  pub copied : Each s (λ i t. (w : ℕ) → t.step ≡ Other w → Any s (λ j u. u.step ≡ Or w t.found))

-- the steps of a union on words
pub union-steps : (w k : ℕ) (s : List Taken) → IsScript w k Union s → CopySteps s
union-steps w k s is = record {
  each = λ i t g. elim (parity i) [
    | inl even ↦
        inl (even.0, reads w Or true s is.steps even.0 t (ap (slice_get s) (sym even.1) ∙ g))
    | inr odd ↦
        let within = slice_get_within s i t g in
        let (v, h) = some_member s (2 * odd.0) (omega (arith, odd.1, within)) in
        let write = operates w Or true s is.steps odd.0 v t h (ap (slice_get s) (sym odd.1) ∙ g) in
        inr (2 * odd.0, v, h, (odd.0, reads w Or true s is.steps odd.0 v h, write))
  ];
  copied = λ i t g word is_read. elim (parity i) [
    | inl even ↦
        let within = slice_get_within s i t g in
        let here = ap (slice_get s) (sym even.1) ∙ g in
        let count = is.count in
        let (u, h) = some_member s (2 * even.0 + 1) (omega (arith, even.1)) in
        let load = reads w Or true s is.steps even.0 t here in
        let same : even.0 ≡ word = (let f = sym load ∙ is_read in cc) in (
          2 * even.0 + 1,
          u,
          h,
          operates w Or true s is.steps even.0 t u here h ∙ ap (λ x. Or x t.found) same,
        )
    | inr odd ↦
        let within = slice_get_within s i t g in
        let (v, h) = some_member s (2 * odd.0) (omega (arith, odd.1, within)) in
        let write = operates w Or true s is.steps odd.0 v t h (ap (slice_get s) (sym odd.1) ∙ g) in
        absurd (let f = sym write ∙ is_read in cc)
  ];
}
