use Rattle.std.proofs.Common.{arith}
use Rattle.summaries_engine.proofs.LoadedLemmas.{number-there}
use Rattle.summaries_engine.proofs.head.number_of.Goals as goal

-- the number of the chunk there
pub returns : goal.returns
returns c =
    number-there c.args.head.now c.args.place c.as_chunks.result.0.now c.as_chunks.ensures.front
    (omega arith) c.in-Some.number.now c.in-Some.ensures.lookup.1 _ c.from_le_bytes.ensures
