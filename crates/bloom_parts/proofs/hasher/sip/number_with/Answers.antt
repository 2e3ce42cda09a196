use Rattle.std.proofs.Common.{arith}
use Rattle.bloom_parts.proofs.BufferLemmas.{holds}
use Rattle.bloom_parts.proofs.FillLemmas.{filled-start, filled-next, filled-all}
use Rattle.bloom_parts.proofs.hasher.sip.number_with.Goals as goal

pub bytes-init : goal.bytes-init
bytes-init c =
    let before = holds _ _ (omega arith) c.requires.padding c.number_of-word.ensures.bytes in
    filled-start _ _ c.args.bytes.now _ _ before c.number_of-word.ensures.value (omega arith)

pub bytes-preserved : goal.bytes-preserved
bytes-preserved c =
    filled-next _ _ _ _ _ _ (λ i. (c.type_inv.bytes i).fits) c.bytes.invariant c.bytes-test.true
    c.requires.room

pub returns : goal.returns
returns c =
    filled-all _ _ _ _ _ _ (λ i. (c.type_inv.bytes i).fits) c.bytes.invariant (omega arith)
