-- What is a script of an insert by words, and steps near one that are none. The set has the
-- positions 0 and 1 in its first word, and 64 in its second.
use Rattle.std.proofs.Common.{◌/◌, ◌<◌, ◌≡◌, ◌∷◌, [], Bool, List, Some, ap, arith, false, lit<, refl, slice_get, subst, suc, sym, true, zero, ℕ}
use Rattle.bloom_steps.proofs.Common.{both_ways, same_Some, slice_get_within, content, Answer, Running, Or, Step, DrivesByWords, Lacks, SetsByWords, SetsItsPart, Any, Taken, word_index}
use Rattle.bloom_steps.proofs.StepFacts.Members.{each-member, took}
use Rattle.bloom_steps.proofs.StepLemmas.MaskSteps.{its-part, masks-bound}

-- the masks of the set
abbrev masks : List ℕ
masks = 3 ∷ 1 ∷ []

-- the set
abbrev A : ℕ → Bool
A = content masks

-- a word without position 1, by one that had it
abbrev found_one : List Taken
found_one = took (Or 0 3) 1 Running ∷ took (Or 1 1) 1 (Answer false) ∷ []

-- its first step found position 1 clear
lacks-one : Lacks A (took (Or 0 3) 1 Running)
unfolding content
lacks-one = (1, record { at = refl; within = refl }, refl)

-- each position lies in one of the two words
in-two : (p : ℕ) → p / 64 < 2 → Any found_one (λ i t. word_index t.step ≡ p / 64)
in-two p below = here (p / 64) refl below
  where
    here : (w : ℕ) → p / 64 ≡ w → p / 64 < 2 → Any found_one (λ i t. word_index t.step ≡ p / 64)
    here zero is below = (0, took (Or 0 3) 1 Running, refl, sym is)
    here (suc zero) is below = (1, took (Or 1 1) 1 (Answer false), refl, sym is)
    here (suc (suc w)) is below = absurd (omega (arith, is, below))

-- two steps, one for each word, are a whole script, and not where it replies true
is_script : SetsByWords A found_one
    × (SetsByWords A (took (Or 0 3) 1 Running ∷ took (Or 1 1) 1 (Answer true) ∷ []) → ⊥)
is_script = (
  record {
    steps =
        each-member (λ i t. SetsItsPart A t.step) found_one (
          its-part masks 0 (lit< tt) (λ e. absurd (omega (arith, e))),
          (its-part masks 1 (lit< tt) (λ e. absurd (omega (arith, e))), tt),
        );
    rising = rises;
    all = λ p on. in-two p (masks-bound masks p on);
    running =
        each-member _ found_one ((λ l. refl), ((λ l. absurd (omega (arith, l))), tt));
    last =
        each-member _ found_one (
          (λ l. absurd (omega (arith, l))),
          (
            (λ l. (
              false,
              refl,
              ((λ e. (0, took (Or 0 3) 1 Running, refl, lacks-one)), (λ some. refl)),
            )),
            tt,
          ),
        );
  },
  (λ is.
      let (reply, ended, tells) = is.last 1 _ refl refl in
      let no = tells.1 (0, took (Or 0 3) 1 Running, refl, lacks-one) in cc),
)
  where
    rises : (i j : ℕ) (t u : Taken) → i < j → slice_get found_one i ≡ Some t
        → slice_get found_one j ≡ Some u → word_index t.step < word_index u.step
    rises zero (suc zero) t u less got here =
        let first = ap (λ (x : Taken). word_index x.step) (same_Some _ _ got) in
        let second = ap (λ (x : Taken). word_index x.step) (same_Some _ _ here) in
        omega (arith, first, second)
    rises i j t u less got here =
        absurd (omega (arith, less, slice_get_within found_one j u here))

-- some step of the two found a position clear
some-lacks : Any found_one (λ i t. Lacks A t)
some-lacks = (0, took (Or 0 3) 1 Running, refl, lacks-one)

-- stores between which these two steps lead are those of an insert that replies false, and of none
-- that replies true
drives : {S : Type 0} (moved : S → Step → ℕ → S → Type 0) (a b c : S)
    → moved a (Or 0 3) 1 b → moved b (Or 1 1) 1 c
    → DrivesByWords moved A a c false
    × ((is : DrivesByWords moved A a c true) → is.taken ≡ found_one → ⊥)
drives moved a b c first second = (
  record {
    taken = found_one;
    script = is_script.0;
    linked = (b, first, (c, second, refl));
    answers = ((λ off. some-lacks), (λ some. refl));
  },
  λ is same.
      both_ways true
      (is.answers.1 (subst (λ s. Any s (λ i t. Lacks A t)) (sym same) some-lacks)) refl,
)
