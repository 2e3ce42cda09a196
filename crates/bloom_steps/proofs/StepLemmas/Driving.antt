-- Steps of a plan over a store, one after the other, up to its last.
use Rattle.std.proofs.Common.{[], ◌++◌, ◌+◌, ◌<◌, ◌∙◌, ◌∷◌, ◌≡◌, Bool, List, Option, arith, inl, inr, length, refl, subst, sym, ℕ}
use Rattle.bloom_steps.proofs.Common.{cases_lt, none-some, End, Running, Step, LooksAt, Plan, most_steps, DrivesPlan, Fulfils, Linked, Taken, answer_of, answer_of_end, GoesOn, KeepsOn}
use Rattle.bloom_steps.proofs.StepLemmas.Growing.{EndsNext, FitsNext, KeepsOnAt, goes_on-more, length-more, script-more}
use Rattle.bloom_steps.proofs.StepLemmas.Replying.{answer_of-more}

-- one step more at the end
pub linked-more :
    {S : Type 0} (moved : S → Step → ℕ → S → Type 0) (a b c : S) (s : List Taken) (t : Taken)
    → Linked moved a s b → moved b t.step t.found c → Linked moved a (s ++ t ∷ []) c
linked-more moved a b c [] t link move = (c, subst (λ x. moved x t.step t.found c) link move, refl)
linked-more moved a b c (u ∷ us) t link move =
    (link.0, link.1, linked-more moved link.0 b c us t link.2 move)

-- no steps give no reason to stop
none-keeps : (w : ℕ) (plan : Plan) → KeepsOn w plan []
none-keeps w (LooksAt h) = λ i t got. absurd (none-some t got)
none-keeps w plan = tt

-- a step that was made, with how the call stood after it
abbrev pub made : Step → ℕ → End → Taken
made step found end = record { step = step; found = found; ended = end }

-- stores with a number of words, the steps between them, and a plan
module _ {S : Type 0} (count : S → ℕ) (moved : S → Step → ℕ → S → Type 0) (k : ℕ) (plan : Plan)
  where
    -- so many steps of a plan were made, of which something is kept: the plan goes on, or these
    -- were all and this is its reply
    pub record HasGone (P : List Taken → Type 0) (before now : S) (i : ℕ) (reply : Option Bool)
        : Type 0 where
      pub taken : List Taken
      pub words : count now ≡ count before
      pub turns : length taken ≡ i
      pub linked : Linked moved before taken now
      pub keeps : P taken
      pub goes_on : i < most_steps (count before) k plan → GoesOn (count before) k plan taken
      pub whole : i ≡ most_steps (count before) k plan → Fulfils (count before) k plan taken
      pub said : i ≡ most_steps (count before) k plan → answer_of taken ≡ reply

    -- no step yet
    pub gone-none : (P : List Taken → Type 0) (store : S) (reply : Option Bool)
        → 0 < most_steps (count store) k plan → P [] → HasGone P store store 0 reply
    gone-none P store reply some empty = record {
      taken = [];
      words = refl;
      turns = refl;
      linked = refl;
      keeps = empty;
      goes_on = λ room. record {
        room = room;
        steps = λ i t got. absurd (none-some t got);
        keeps_on = none-keeps (count store) plan;
        running = λ i t got. absurd (none-some t got);
      };
      whole = λ all. absurd (omega (arith, some, all));
      said = λ all. absurd (omega (arith, some, all));
    }

    -- one step more, which leaves the plan going on or is its last
    pub gone-next : (P : List Taken → Type 0) (before now after : S) (s : List Taken) (i : ℕ)
        (reply : Option Bool) → count now ≡ count before → Linked moved before s now
        → GoesOn (count before) k plan s → length s + 1 ≡ i
        → (step : Step) (found : ℕ) → FitsNext (count before) plan s step
        → record { moved : moved now step found after; words : count after ≡ count now }
        → ((end : End) → P (s ++ made step found end ∷ []))
        → KeepsOnAt (count before) plan s (made step found Running)
        → (i ≡ most_steps (count before) k plan
        → (end : End) × EndsNext (count before) k plan s (made step found end)
        × (answer_of_end end ≡ reply))
        → HasGone P before after i reply
    gone-next P before now after s i reply words linked on turns step found fits did keeps stays
        ends =
        elim (cases_lt i (most_steps (count before) k plan)) [
          | inl more ↦
              let t = made step found Running in
              record {
                taken = s ++ t ∷ [];
                words = did.words ∙ words;
                turns = length-more s t ∙ turns;
                linked = linked-more moved before now after s t linked did.moved;
                keeps = keeps Running;
                goes_on = λ _.
                    goes_on-more (count before) k plan s t on fits refl
                    (omega (arith, turns, more)) stays;
                whole = λ all. absurd (omega (arith, more, all));
                said = λ all. absurd (omega (arith, more, all));
              }
          | inr late ↦
              let room = on.room in
              let end = ends (omega (arith, late, room, turns)) in
              let t = made step found end.0 in
              record {
                taken = s ++ t ∷ [];
                words = did.words ∙ words;
                turns = length-more s t ∙ turns;
                linked = linked-more moved before now after s t linked did.moved;
                keeps = keeps end.0;
                goes_on = λ more. absurd (omega (arith, late, more));
                whole = λ _. script-more (count before) k plan s t on fits end.1;
                said = λ _. answer_of-more s t ∙ end.2;
              }
        ]

    -- all steps of a plan carry it out
    pub gone-all : (P : List Taken → Type 0) (before now : S) (i : ℕ) (reply : Option Bool)
        → HasGone P before now i reply → i ≡ most_steps (count before) k plan
        → DrivesPlan moved (count before) k plan before now reply
    gone-all P before now i reply gone all = record {
      taken = gone.taken;
      script = gone.whole all;
      linked = gone.linked;
      answers = sym (gone.said all);
    }

-- nothing is kept of the words that steps found
abbrev pub KeepsNothing : List Taken → Type 0
KeepsNothing s = Unit {0}
