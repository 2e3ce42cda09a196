-- Masks set in a store, each by one step.
use Rattle.std.proofs.Common.{[], ◌&&◌, ◌++◌, ◌+◌, ◌/◌, ◌<◌, ◌^◌, ◌∙◌, ◌∷◌, ◌≡◌, ◌≢◌, ◌≤◌, ◌↔◌, Bool, List, Some, ap, arith, false, inl, inr, length, refl, slice_get, slice_index, subst, sym, true, ℕ}
use Rattle.std.proofs.Math.Bool.{and-true}
use Rattle.bloom_steps.proofs.Common.{member-front, member-seam, member_of_more, both_ways, cases_lt, none-some, slice_get_within, bit_is_on, content, bit_is_on-zero, End, Answer, Running, Step, Or, DrivesByWords, HasAll, Lacks, SetsItsPart, SetsMask, AllButLast, Any, Each, Last, Linked, Taken, word_index}
use Rattle.bloom_steps.proofs.StepLemmas.Driving.{linked-more, made}
use Rattle.bloom_steps.proofs.StepLemmas.Finding.{none-more}
use Rattle.bloom_steps.proofs.StepLemmas.Growing.{but_last-more, each-more, last_step-more}
use Rattle.bloom_steps.proofs.StepLemmas.Writing.{content-word}
use Rattle.bloom_steps.proofs.StepLemmas.MaskSteps.{its-part, its-reply}

-- stores, the steps between them, and masks
module _ {S : Type 0} (moved : S → Step → ℕ → S → Type 0) (masks : List ℕ) where
  abbrev A : ℕ → Bool
  A = content masks

  -- the first i masks were set, and `all` is whether all of their bits were found set; the last
  -- step may have left the call in any way
  pub record HasMasked (before now : S) (i : ℕ) (all : Bool) (end : End) : Type 0 where
    pub taken : List Taken
    pub linked : Linked moved before taken now
    pub steps : Each taken (λ j t. SetsItsPart A t.step)
    pub rising : (j l : ℕ) (t u : Taken) → j < l → slice_get taken j ≡ Some t
        → slice_get taken l ≡ Some u → word_index t.step < word_index u.step
    pub below : Each taken (λ j t. word_index t.step < i)
    pub covers : (p : ℕ) → A p ≡ true → p / 64 < i → Any taken (λ j t. word_index t.step ≡ p / 64)
    pub running : AllButLast taken (λ j t. t.ended ≡ Running)
    pub last : Last taken (λ j t. t.ended ≡ end)
    pub tells : (all ≡ false) ↔ Any taken (λ j t. Lacks A t)

  -- no mask yet
  pub masked-none : (store : S) (end : End) → HasMasked store store 0 true end
  masked-none store end = record {
    taken = [];
    linked = refl;
    steps = λ j t got. absurd (none-some t got);
    rising = λ j l t u less got here. absurd (none-some t got);
    below = λ j t got. absurd (none-some t got);
    covers = λ p on less. absurd (omega (arith, less));
    running = λ j t got. absurd (none-some t got);
    last = λ j t got. absurd (none-some t got);
    tells = ((λ off. absurd (both_ways true off refl)), (λ some. absurd (none-some some.1 some.2)));
  }

  -- a word without positions takes no step
  masked-skip : (before now : S) (i : ℕ) (all : Bool) (end : End) → slice_index masks i ≡ 0
      → HasMasked before now i all end → HasMasked before now (i + 1) all end
  masked-skip before now i all end empty done = record {
    taken = done.taken;
    linked = done.linked;
    steps = done.steps;
    rising = done.rising;
    below = λ j t got. let less = done.below j t got in omega (arith, less);
    covers = λ p on less. elim (cases_lt (p / 64) i) [
      | inl early ↦ done.covers p on early
      | inr late ↦
          let at : p / 64 ≡ i = omega (arith, less, late) in
          absurd (both_ways (A p)
          (content-word masks i p at ∙ ap (λ m. bit_is_on m p) empty ∙ bit_is_on-zero p) on)
    ];
    running = done.running;
    last = done.last;
    tells = done.tells;
  }

  -- a word with positions takes one step
  module _ (range : (i : ℕ) → i < length masks → slice_index masks i < 2 ^ 64)
      (before now after : S) (i : ℕ) (within : i < length masks) (all on : Bool)
      (some : slice_index masks i ≢ 0) (found : ℕ)
      (did : moved now (Or i (slice_index masks i)) found after)
      (whole : (on ≡ true) ↔ HasAll found (slice_index masks i)) where
    abbrev mask : ℕ
    mask = slice_index masks i

    masked-step : (end : End) → HasMasked before now i all Running
        → HasMasked before after (i + 1) (all && on) end
    masked-step end done =
        let t = made (Or i mask) found end in
        let s = done.taken in
        record {
          taken = s ++ t ∷ [];
          linked = linked-more moved before now after s t done.linked did;
          steps = each-more s t (λ j t. SetsItsPart A t.step) done.steps
              (its-part masks i (range i within) some);
          rising = λ j m u v less got here. elim (member_of_more s t v m here) [
            | inl (inside, old) ↦ elim (member_of_more s t u j got) [
              | inl (first, one) ↦ done.rising j m u v less one old
              | inr (at_end, is) ↦ absurd (omega (arith, less, inside, at_end))
            ]
            | inr (last, new) ↦ elim (member_of_more s t u j got) [
              | inl (first, one) ↦
                  subst (λ (x : Taken). word_index u.step < word_index x.step) (sym new)
                  (done.below j u one)
              | inr (at_end, is) ↦ absurd (omega (arith, less, last, at_end))
            ]
          ];
          below = λ j u got. elim (member_of_more s t u j got) [
            | inl (first, one) ↦ let less = done.below j u one in omega (arith, less)
            | inr (at_end, is) ↦
                subst (λ (x : Taken). word_index x.step < i + 1) (sym is) (omega arith)
          ];
          covers = λ p has less. elim (cases_lt (p / 64) i) [
            | inl early ↦
                let (j, u, got, word) = done.covers p has early in
                (j, u, member-front s (t ∷ []) u j got, word)
            | inr late ↦ (length s, t, member-seam s [] t, omega (arith, less, late))
          ];
          running = but_last-more s t (λ j u. u.ended ≡ Running) ran;
          last = last_step-more s t (λ j u. u.ended ≡ end) refl;
          tells =
              none-more s t (λ j u. Lacks A u) all on done.tells
              (its-reply masks i on found whole end);
        }
      where
        ran : (j : ℕ) (u : Taken) → slice_get done.taken j ≡ Some u → u.ended ≡ Running
        ran j u got = elim (cases_lt (j + 1) (length done.taken)) [
          | inl short ↦ done.running j u got short
          | inr closes ↦
              let inside = slice_get_within done.taken j u got in
              done.last j u got (omega (arith, closes, inside))
        ]

  -- one mask more
  pub masked-more : (range : (i : ℕ) → i < length masks → slice_index masks i < 2 ^ 64)
      → (before now after : S) (i : ℕ) (all on : Bool) → i < length masks
      → SetsMask moved i (slice_index masks i) now after on
      → ((end : End) → HasMasked before now i all end)
      → (end : End) → HasMasked before after (i + 1) (all && on) end
  masked-more range before now after i all on within (inl (empty, same, all_on)) done end =
      subst (λ x. HasMasked before x (i + 1) (all && on) end) (sym same)
      (subst (λ b. HasMasked before now (i + 1) b end)
      (sym (ap (λ b. all && b) all_on ∙ and-true all))
      (masked-skip before now i all end empty (done end)))
  masked-more range before now after i all on within (inr (some, (found, did, whole))) done end =
      masked-step range before now after i within all on some found did whole end (done Running)

  -- all masks were set
  pub masked-all : (before now : S) (i : ℕ) (all : Bool) → length masks ≤ i
      → ((p : ℕ) → content masks p ≡ true → p / 64 < length masks)
      → ((end : End) → HasMasked before now i all end)
      → DrivesByWords moved (content masks) before now all
  masked-all before now i all past bound done =
      let end = done (Answer all) in
      record {
        taken = end.taken;
        script = record {
          steps = end.steps;
          rising = end.rising;
          all = λ p on. end.covers p on (let less = bound p on in omega (arith, less, past));
          running = end.running;
          last = λ j t got closes. (all, end.last j t got closes, end.tells);
        };
        linked = end.linked;
        answers = end.tells;
      }
