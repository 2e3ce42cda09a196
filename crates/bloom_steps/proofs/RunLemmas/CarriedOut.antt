-- Records that were carried out on words, one after the other: what each step found, and did.
use Rattle.std.proofs.Common.{[], ◌<◌, ◌∙◌, ◌∷◌, ◌≡◌, List, Some, ap, length, map, refl, slice_get, subst, suc, sym, take, unwrap_or, zero, ℕ}
use Rattle.bloom_steps.proofs.Common.{none-some, same_Some, bit_is_on, content, decides_nothing, End, Record, Began, Did, Step, Or, Other, Zero, CarriedOut, IsCourseOf, CourseTells, Course, found_in, words_after_step, moment, after_records, record_decides, step_decides, word_index}
use Rattle.bloom_steps.specs.declared.steps.vocabulary.Step.TheVariants.{Take}
use Rattle.bloom_steps.proofs.RunLemmas.KindEnds.{kind_tells}
use Rattle.bloom_steps.proofs.RunLemmas.Kinds.{Kind}
use Rattle.bloom_steps.proofs.RunLemmas.Scripted.{FindsBits, FoundBits, IsWithin, StepsWithin}
use Rattle.bloom_steps.proofs.StepLemmas.Deciding.{state-first, state-same}
use Rattle.bloom_steps.proofs.StepLemmas.Writing.{content-step, content-word, length-step}

-- a step that was carried out can be taken into the words before
after-step : (words : List ℕ) (step : Step) (rs : List Record) (p party found : ℕ) (ended : End)
    → content (words_after_step words step) p
    ≡ unwrap_or (step_decides step p) (content words p)
    → after_records (content (words_after_step words step)) rs p
    ≡ after_records (content words) (Did party step found ended ∷ rs) p
after-step words step rs p party found ended did =
    state-same (content (words_after_step words step))
    (λ q. unwrap_or (step_decides step q) (content words q)) (map record_decides rs) p did
    ∙ sym (state-first (content words) (step_decides step) (map record_decides rs) p)

-- each bit is what the last step that decides it made it
pub carried-bits : (words : List ℕ) (rs : List Record) (after : List ℕ) (p : ℕ)
    → CarriedOut words rs after → content after p ≡ after_records (content words) rs p
carried-bits words [] after p made = ap (λ w. content w p) made
carried-bits words (Began party call ∷ rs) after p made =
    carried-bits words rs after p made
    ∙ sym (state-first (content words) decides_nothing (map record_decides rs) p)
carried-bits words (Did party step found ended ∷ rs) after p (within, finds, made) =
    carried-bits (words_after_step words step) rs after p made
    ∙ after-step words step rs p party found ended (content-step words step p within)

-- a step that was carried out, on the words as the records before it left them
pub record IsCarried (words : List ℕ) (rs : List Record) (m : ℕ) (step : Step) (found : ℕ) : Type 0
  where
    pub now : List ℕ
    pub given : ℕ
    pub count : length now ≡ length words
    pub within : word_index step < length now
    pub finds : found ≡ found_in now given step
    pub bits : (p : ℕ) → content now p ≡ after_records (content words) (take m rs) p

-- each step of records that were carried out was
pub carried-step : (words : List ℕ) (rs : List Record) (after : List ℕ) → CarriedOut words rs after
    → (m party : ℕ) (step : Step) (found : ℕ) (ended : End)
    → slice_get rs m ≡ Some (Did party step found ended) → IsCarried words rs m step found
carried-step words [] after made m party step found ended e = absurd (none-some _ e)
carried-step words (Began q call ∷ rs) after made zero party step found ended e =
    absurd (let f = same_Some _ _ e in cc)
carried-step words (Began q call ∷ rs) after made (suc m) party step found ended e =
    let is = carried-step words rs after made m party step found ended e in
    record {
      now = is.now;
      given = is.given;
      count = is.count;
      within = is.within;
      finds = is.finds;
      bits = λ p. is.bits p
          ∙ sym (state-first (content words) decides_nothing (map record_decides (take m rs)) p);
    }
carried-step words (Did q x f d ∷ rs) after (within, (given, finds), made) zero party step found
    ended e =
    let is = same_Some _ _ e in
    let same : x ≡ step = cc in
    let it : f ≡ found = cc in
    record {
      now = words;
      given = given;
      count = refl;
      within = subst (λ y. word_index y < length words) same within;
      finds = sym it ∙ finds ∙ ap (found_in words given) same;
      bits = λ p. refl;
    }
carried-step words (Did q x f d ∷ rs) after (within, finds, made) (suc m) party step found ended e =
    let is = carried-step (words_after_step words x) rs after made m party step found ended e in
    record {
      now = is.now;
      given = is.given;
      count = is.count ∙ length-step words x;
      within = is.within;
      finds = is.finds;
      bits = λ p. is.bits p
          ∙ after-step words x (take m rs) p q f d (content-step words x p within);
    }

-- in a course that was carried out each step finds the bits that are there
pub carried-finds : (run : Course) → CarriedOut run.start run.records run.words → FindsBits run
carried-finds run made m party step found ended at =
    by step (carried-step run.start run.records run.words made m party step found ended at)
  where
    by : (step : Step) → IsCarried run.start run.records m step found
        → FoundBits (moment run m) step found
    by (Zero i) is = tt
    by (Other i) is = tt
    by step is = λ p here.
        ap (λ w. bit_is_on w p) is.finds ∙ sym (content-word is.now (word_index step) p here)
        ∙ is.bits p

-- and each that sets bits, or takes a word, does so in one of the words
carried-steps : (run : Course) → CarriedOut run.start run.records run.words → StepsWithin run
carried-steps run made m party step found ended at =
    let is = carried-step run.start run.records run.words made m party step found ended at in
    by step (subst (λ n. word_index step < n) is.count is.within)
  where
    by : (step : Step) → word_index step < length run.start → IsWithin (length run.start) step
    by (Or i mask) within = within
    by (Take i) within = within
    by step within = tt

-- a course of a kind gives what each kind gives
pub course_tells : (kind : Kind) (words : ℕ) (run : Course) → IsCourseOf words kind.Script run
    → CourseTells kind.Positions kind.is_in run
course_tells kind words run course =
    kind_tells kind run
    (record {
      finds = carried-finds run course.carried;
      within = carried-steps run course.carried;
      bits = λ p. carried-bits run.start run.records run.words p course.carried;
      calls = course.calls;
    })
