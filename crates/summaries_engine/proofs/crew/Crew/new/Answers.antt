use Rattle.std.proofs.Common.{◌≡◌, ◌++◌, [], ◌∷◌, arith, refl, subst, sym}
use Rattle.std.proofs.lemmas.List.{length-append}
use Rattle.summaries_engine.proofs.Common.{All-push, HoldTogether}
use Rattle.summaries_engine.proofs.CrewLemmas.{copies-hold}
use Rattle.summaries_engine.proofs.crew.Crew.new.Goals as goal

-- all filters are empty
pub returns-clause-none : goal.returns-clause-none
returns-clause-none g c =
    let empty = c.args.empty in
    let copies = c.filters.filters.items in
    subst (HoldTogether empty []) (sym c.in_ok-push-2.ensures.items)
    (copies-hold empty c.requires.empty (copies ++ empty ∷ [])
    (omega (arith, length-append copies (empty ∷ [])))
    (All-push (λ f. f ≡ empty) copies empty c.filters.invariant.copies refl))
