use Rattle.bloom_steps.proofs.LiveLemmas.{insert-answers, call-replies}
use Rattle.bloom_steps.proofs.steps.calls.insert_in_turn.Goals as goal

pub unreachable-requires : goal.unreachable-requires
unreachable-requires g c =
    let none = c.in-None.ensures.did in
    call-replies _ _ _ _ none (insert-answers _ _ _ _ c.requires none.script)
