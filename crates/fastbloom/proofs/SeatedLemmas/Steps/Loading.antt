-- A load by a pass keeps the rule.
use Rattle.std.proofs.Common.{◌≡◌, ℕ, ◌<◌, length, set, get_or, length-set, inl, inr, refl, sym, ◌∙◌, arith}
use mathlib.Core.Option.{none}
use Rattle.fastbloom.proofs.Common.{step, keeps, Allows, content, IsPart, set_of, ones_in, IsSeated, Sets, Pass}
use Rattle.fastbloom.specs.Plays.{Sat, after_load, loaded}
use Rattle.fastbloom.proofs.SeatedLemmas.Sets.{in-left, in-either, on-from}
use Rattle.fastbloom.proofs.SeatedLemmas.Words.{content-word, content-same}
use Rattle.fastbloom.proofs.SeatedLemmas.Rules.Seats.{as-many}
use Rattle.fastbloom.proofs.SeatedLemmas.Rules.Stepping.{kept-by-step}
use Rattle.fastbloom.proofs.SeatedLemmas.Steps.Passes.{pass-not_first, pass-not_spent, same-passes, shows}

-- a load by a pass
pub loads : (count passes slots seat : ℕ) (me : Sat) (i : ℕ) → i < count → me.0.role ≡ Pass
    → Allows (IsSeated count passes) slots seat me i (λ n. n) (loaded (step slots i 0 0 none) me)
loads count passes slots seat me i within pass s rule sized at fits =
    let found : ℕ = get_or s.words i 0 in
    let v : Sets = me.0 in
    let room : i < length s.words = omega (arith, rule.count) in
    let w : Sets = after_load v i found in
    let on : IsPart (set_of w.known) (content s.words) = λ p known.
    elim (in-either v.known (ones_in i found) p known) [
      | inl old ↦ rule.known_is_set seat v at p old
      | inr new ↦
          let there = on-from i found p new in content-word s.words i p there.0 ∙ there.1
    ] in (
      w,
      keeps,
      tt,
      as-many (same-passes s rule seat v w at refl)
          (kept-by-step s rule seat v w (set s.words i found) at record {
            count = length-set s.words i found;
            live = λ is. (is, refl);
            settled = (pass-not_first v pass, pass-not_first v pass);
            grown = λ p on. content-same s.words i p room ∙ on;
            known = λ p known. content-same s.words i p room ∙ on p known;
            gained_known = λ p is.
                in-left v.known (ones_in i found) p (rule.gained_known seat v at p is);
            gained = λ p is. inl is;
            kept = λ p is. is;
            gained_by = λ p is. pass;
            one_each = λ is. rule.one_each seat v at pass;
            accounted = λ p on. inl (sym (content-same s.words i p room) ∙ on);
          }),
      (refl, shows s rule seat v at (pass-not_spent v pass) i),
    )
