use Rattle.bloom_engine.proofs.FailedLemmas.{served_before-kept}
use Rattle.bloom_engine.proofs.ServedLemmas.{served_upto-kept}
use Rattle.bloom_engine.proofs.engine.serve.Goals as goal

pub returns-clause-bad : goal.returns-clause-bad
returns-clause-bad g c = λ n is.
    served_upto-kept n _ _ _ _ _ _ _ (c.serve_lines-served.ensures.bad n is) c.flush.ensures.bytes

pub returns-clause-input : goal.returns-clause-input
returns-clause-input g c = λ is.
    served_before-kept _ _ _ _ _ _ (c.serve_lines-served.ensures.input is) c.flush.ensures.bytes
