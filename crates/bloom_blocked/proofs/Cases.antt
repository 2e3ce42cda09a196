-- Cases that the facts of this crate share. In one line hash 0 has position 0 alone, so that with
-- one hash one step makes its insert or its look-up. Hash 1 has the positions 162 and 13, so that
-- with two hashes it sets the words 8192 and 17179869184.
use Rattle.std.proofs.Common.{◌≡◌, ◌/◌, ◌%◌, ◌<◌, ◌↔◌, ℕ, Bool, false, true, zero, suc, [], ◌∷◌, Some, nat_eq, slice_get, refl, sym, ◌∙◌, ap, subst, arith, lit<}
use Rattle.bloom_blocked.proofs.Common.{eqb-true, ne_eqb, none-some, same_Some, chain, bit_is_on, place, positions, Filter, Contains, Answer, Lacks, SetsByWords, SetsItsPart, IsScript, Taken, inner_of}
use Rattle.std.proofs.lemmas.Nat.Bits.{bit_at-pow_other}
use Rattle.bloom_steps.specs.declared.steps.vocabulary.Step.TheVariants.{Load, Or}
use Rattle.bloom_steps.specs.Steps.{load_at}

-- the greatest hash of 64 bits
abbrev pub greatest : ℕ
greatest = 0xffff_ffff_ffff_ffff

-- a filter of one line of these words, and of a hasher that is told apart by a number
abbrev pub line : ℕ → ℕ → ℕ → ℕ → Filter ℕ
line first third hashes hasher = record {
  words = first ∷ 0 ∷ third ∷ 0 ∷ 0 ∷ 0 ∷ 0 ∷ 0 ∷ [];
  hashes = hashes;
  hasher = hasher;
}

-- a line of zeros
abbrev pub zeros : Filter ℕ
zeros = line 0 0 2 7

-- a line that contains hash 1
abbrev pub with_one : Filter ℕ
with_one = line 8192 17179869184 2 7

-- the position of hash 0
abbrev pub zeroth : ℕ → Bool
zeroth = positions 512 1 (inner_of 0)

-- a step that sets it
abbrev pub sets : ℕ → Bool → Taken
sets found reply = record { step = Or 0 1; found = found; ended = Answer reply }

-- a step that loads its word
abbrev pub loads : ℕ → Bool → Taken
loads found reply = record { step = Load 0; found = found; ended = Answer reply }

-- the mask 1 has the bits of the position
mask-bits : (p : ℕ) → p / 64 ≡ 0 → bit_is_on 1 p ≡ zeroth p
unfolding positions chain
mask-bits zero at = refl
mask-bits (suc p) at =
    ap (λ d. nat_eq d 1) (bit_at-pow_other 0 (suc p % 64) (λ e. absurd (omega (arith, e, at))))
    ∙ sym (ne_eqb (suc p) 0 (λ e. absurd (omega (arith, e))))

-- it is position 0 alone
pub zeroth-only : (p : ℕ) → zeroth p ≡ true → p ≡ 0
unfolding positions chain
zeroth-only p on = eqb-true p 0 on

-- what holds of the first member of a list of one holds of each
pub each-of-one : (t : Taken) (P : ℕ → Taken → Type 0) → P 0 t → (i : ℕ) (u : Taken)
    → slice_get (t ∷ []) i ≡ Some u → P i u
each-of-one t P holds zero u got = subst (P 0) (same_Some t u got) holds
each-of-one t P holds (suc i) u got = absurd (none-some u got)

-- a list of one has no second member
no-second : (t u v : Taken) (i j : ℕ) → i < j → slice_get (t ∷ []) i ≡ Some u
    → slice_get (t ∷ []) j ≡ Some v → ⊥
no-second t u v i zero less got here = omega (arith, less)
no-second t u v i (suc j) less got here = none-some v here

-- a step that lacks a position found that bit clear
zeroth-lacked : (found : ℕ) (reply : Bool) → Lacks zeroth (sets found reply)
    → bit_is_on found 0 ≡ false
zeroth-lacked found reply (p, there, off) =
    subst (λ q. bit_is_on found q ≡ false) (zeroth-only p there.within) off

-- one step is a whole insert, where its reply is false exactly if the bit was clear
pub one-step : (found : ℕ) (reply : Bool) → ((reply ≡ false) ↔ (bit_is_on found 0 ≡ false))
    → SetsByWords zeroth (sets found reply ∷ [])
unfolding positions chain
one-step found reply tells =
    let t = sets found reply in
    record {
      steps = each-of-one t (λ i v. SetsItsPart zeroth v.step) (record {
        mask = 1;
        is = refl;
        part = record { fits = lit< tt; bits = mask-bits };
        some = (0, record { at = refl; within = refl });
      });
      rising = λ i j u v less got here. absurd (no-second t u v i j less got here);
      all = λ p on. (0, t, refl, (let e = zeroth-only p on in omega (arith, e)));
      running = λ i u got short. absurd (omega (arith, short));
      last = λ i u got closes. (
        reply,
        each-of-one t (λ i v. v.ended ≡ Answer reply) refl i u got,
        (
          (λ no. (0, t, refl, (0, record { at = refl; within = refl }, tells.0 no))),
          (λ some.
              tells.1 (each-of-one t (λ i v. Lacks zeroth v → bit_is_on found 0 ≡ false)
              (zeroth-lacked found reply) some.0 some.1 some.2 some.3)),
        ),
      );
    }

-- one load is a whole look-up, where its reply is whether it found the bit set
pub one-load : (found : ℕ)
    → IsScript 8 1 (Contains (inner_of 0)) (loads found (bit_is_on found 0) ∷ [])
unfolding chain
one-load found =
    let t = loads found (bit_is_on found 0) in
    record {
      count = (omega arith, omega arith);
      steps = each-of-one t (λ i u. u.step ≡ load_at (place 512 (inner_of 0) i)) refl;
      stops = record {
        earlier = λ i u got short. absurd (omega (arith, short));
        early = λ i u got closes short. absurd (omega (arith, short));
      };
      running = λ i u got short. absurd (omega (arith, short));
      last = λ i u got closes j v here shuts.
          each-of-one t (λ i u. u.ended ≡ Answer (bit_is_on v.found (place 512 (inner_of 0) j)))
          (each-of-one t (λ j v. t.ended ≡ Answer (bit_is_on v.found (place 512 (inner_of 0) j)))
          refl j v here) i u got;
    }
