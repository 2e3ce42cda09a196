use Rattle.std.proofs.Common.{arith}
use Rattle.bloom_files.proofs.FileLemmas.{good, head-is, last-numbers}
use Rattle.bloom_files.proofs.head.head_in.Goals as goal

pub returns-clause-bytes : goal.returns-clause-bytes
returns-clause-bytes c = λ layout size none.
    let bytes = c.args.bytes.now in
    let last = last-numbers layout bytes none in
    head-is layout bytes (λ i. omega (arith, c.type_inv.bytes i)) size
    (good bytes size c.requires).first last.0 last.1
