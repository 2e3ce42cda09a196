-- Keys of several inputs, each of which has the bytes of its own name: cases that hold, and the
-- nearest that don't.
use Rattle.std.proofs.Common.{◌≡◌, ℕ, true, false, List, [], ◌∷◌, length, Some, refl, sym, ap, subst, ◌∙◌, arith}
use Rattle.summaries_engine.proofs.Common.{chain, content, are_in, positions, sip, start, round, absorb, answer, whole_words, rest, DefaultFilter, positions_of_all, Classic, IsKeyed, wanted_text, IsSummaryOf}
use Rattle.summaries_engine.specs.declared.answers.Wanted.TheVariants.{Found, Absent}
use Rattle.summaries_engine.specs.Inputs.{AnswersInputs, SummarizesInputs}
use Rattle.summaries_engine.proofs.Cases.{both-keys, hash-a, key_a, key_b, made_of, of_a, of_b, one-key, own, shape, summary-a}

-- the hashers of a filter have its key and have taken in nothing
keyed : IsKeyed (Classic (made_of [] 2 3 4))
    × ((f : DefaultFilter) → f.hasher.hasher.count ≡ 1 → IsKeyed (Classic f) → ⊥)
unfolding whole_words rest
keyed = (
  record { low = refl; high = refl; words = refl; held = refl; count = refl },
  λ f one is. let wrong : 1 ≡ 0 = sym one ∙ is.count in omega (arith, wrong),
)

-- the summary of the keys of an input isn't that of other keys
summarizes : SummarizesInputs own 10 (key_a ∷ []) shape of_a
    × (SummarizesInputs own 10 (key_a ∷ []) shape of_b → ⊥)
unfolding content positions chain
summarizes = (
  record { parts = (key_a ∷ []) ∷ []; keys = (both-keys.0, tt); done = summary-a },
  λ did.
      let summary : IsSummaryOf shape (key_a ∷ []) of_b =
      subst (λ keys. IsSummaryOf shape keys of_b) (one-key did.parts did.keys) did.done in
      let wrong : true ≡ false =
      summary.bits 34 ∙ ap (λ h. positions_of_all 64 2 (h ∷ []) 34) hash-a in cc,
)

-- the filter of "a" has "a" alone of both keys, and lacks "b" alone. A zero byte ends a key in
-- place of byte 10
pub text-of-keys : (wanted_text of_a Found 10 (key_b ∷ key_a ∷ []) ≡ 97 ∷ 10 ∷ [])
    × (wanted_text of_a Absent 0 (key_b ∷ key_a ∷ []) ≡ 98 ∷ 0 ∷ [])
    × (wanted_text of_a Found 10 (key_a ∷ []) ≡ 97 ∷ 10 ∷ [])
    × (wanted_text of_a Absent 10 (key_a ∷ []) ≡ [])
    × (wanted_text of_a Found 10 (key_a ∷ key_b ∷ []) ≡ 97 ∷ 10 ∷ [])
unfolding sip start round absorb answer whole_words rest content chain are_in
text-of-keys = (refl, refl, refl, refl, refl)

-- the replies to all keys are written behind what was there. A key that is in isn't left out, nor
-- written as absent
answers : AnswersInputs own of_a Found 10 (key_a ∷ (98 ∷ 10 ∷ []) ∷ []) (Some (5 ∷ []))
    (Some (5 ∷ 97 ∷ 10 ∷ []))
    × (AnswersInputs own of_a Found 10 (key_a ∷ []) (Some []) (Some []) → ⊥)
    × (AnswersInputs own of_a Absent 10 (key_a ∷ []) (Some []) (Some (97 ∷ 10 ∷ [])) → ⊥)
answers = (
  record {
    parts = (key_a ∷ []) ∷ (key_b ∷ []) ∷ [];
    keys = both-keys;
    done = record { text = ap (λ text. 5 ∷ text) (sym text-of-keys.4) };
  },
  λ is.
      let same : ◌≡◌ {A = List ℕ} [] (97 ∷ 10 ∷ []) =
      is.done.text ∙ ap (wanted_text of_a Found 10) (one-key is.parts is.keys) ∙ text-of-keys.2 in
      let wrong : 0 ≡ 2 = ap length same in omega (arith, wrong),
  λ is.
      let same : ◌≡◌ {A = List ℕ} (97 ∷ 10 ∷ []) [] =
      is.done.text ∙ ap (wanted_text of_a Absent 10) (one-key is.parts is.keys) ∙ text-of-keys.3 in
      let wrong : 2 ≡ 0 = ap length same in omega (arith, wrong),
)
