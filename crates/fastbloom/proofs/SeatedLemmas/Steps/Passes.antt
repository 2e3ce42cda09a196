-- What holds of the seat of a pass as it makes a step.
use Rattle.std.proofs.Common.{◌≡◌, ◌≢◌, ℕ, true, set, get_or, sum_by, inl, inr, sym, ◌∙◌, subst, arith}
use Rattle.fastbloom.proofs.Common.{or_cases, content, IsPart, set_of, Standing, Has, IsSeated, passes_of, sure_in, Shows, Sets, First, Pass, Spent}
use Rattle.fastbloom.proofs.SeatedLemmas.Words.{content-word}
use Rattle.fastbloom.proofs.SeatedLemmas.Rules.Seats.{passes-set}

-- a pass is no other kind of seat
pub pass-not_first : (v : Sets) → v.role ≡ Pass → v.role ≢ First
pass-not_first v is first = let bad : Pass ≡ First = sym is ∙ first in cc

pub pass-not_spent : (v : Sets) → v.role ≡ Pass → v.role ≢ Spent
pass-not_spent v is spent = let bad : Pass ≡ Spent = sym is ∙ spent in cc

-- a view that stands for the same number of passes keeps their number
pub same-passes : {count passes : ℕ} (s : Standing) → IsSeated count passes s → (seat : ℕ)
    (v w : Sets) → Has s seat v → w.passes ≡ v.passes
    → sum_by passes_of (set s.views seat w) ≡ passes
same-passes s rule seat v w at same =
    let more = passes-set s.views seat v w at in omega (arith, more, same, rule.few)

-- what a pass is sure of is set
module _ {count passes : ℕ} (s : Standing) (rule : IsSeated count passes s) (seat : ℕ) (v : Sets)
    (at : Has s seat v) (live : v.role ≢ Spent) where
  pub sure-on : IsPart (sure_in v) (content s.words)
  sure-on p sure = elim (or_cases (content v.start p) (set_of v.known p) sure) [
    | inl begun ↦
        rule.start_is_set p (subst (λ l. content l p ≡ true) (rule.same_start seat v at live) begun)
    | inr known ↦ rule.known_is_set seat v at p known
  ]

  pub shows : (i : ℕ) → Shows v i (get_or s.words i 0)
  shows i p here sure = sym (content-word s.words i p here) ∙ sure-on p sure
