use Rattle.std.proofs.Common.{◌++◌, length, take_all, ap, arith, ◌∙◌}
use Rattle.bloom_files.proofs.Common.{sip, bytes_of, numbers_in, sealed_numbers}
use Rattle.bloom_files.proofs.NumberLemmas.{length-bytes_of}
use Rattle.bloom_files.proofs.SealLemmas.{seal-begins, seal-goes_on}
use Rattle.bloom_files.proofs.head.right_seal.Goals as goal

pub begin_seal-hasher-requires : goal.begin_seal-hasher-requires
begin_seal-hasher-requires c =
    let size = ap length c.head_bytes_in-bytes.ensures in
    let whole = length-bytes_of (numbers_in c.args.layout c.args.head.now 0) in
    omega (arith, size, whole)

pub words-init : goal.words-init
words-init c =
    seal-begins c.args.layout c.begin_seal-hasher.result c.args.head.now _
    c.head_bytes_in-bytes.ensures c.begin_seal-hasher.ensures

pub words-preserved : goal.words-preserved
words-preserved c =
    seal-goes_on _ _ _ c.args.words.now c.words.word-index c.words-test.true c.words.invariant
    c.write_u64.ensures.taken

pub returns : goal.returns
returns c =
    let words = c.args.words.now in
    let all = take_all c.words.word-index words (omega arith) in
    c.finish.ensures.hash 0 0 _ c.words.invariant
    ∙ ap (λ l. sip 0 0 (bytes_of (sealed_numbers c.args.layout c.args.head.now) ++ bytes_of l)) all
