use Rattle.std.proofs.Common.{◌≡◌, ◌<◌, Err, length, arith, rules}
use Rattle.std.proofs.lemmas.List.{nil_from_length}
use Rattle.bloom_files.proofs.BlockLemmas.{written-more, written-part, written-whole}
use Rattle.bloom_files.proofs.streams.put_words.Goals as goal

pub returns-in_err-put_block-clause-part : goal.returns-in_err-put_block-clause-part
returns-in_err-put_block-clause-part g c =
    let is : c.from_residual.result ≡ Err c.in_err-put_block.field-0.0 = search rules in
    rw is (written-part _ _ _ _ c.pieces.invariant _ _ _ c.split_at.ensures.by_index.0
    c.in_err-put_block.ensures.part)

pub pieces-smaller : goal.pieces-smaller
pieces-smaller g c =
    let less : length c.split_at.result.1.now < length c.pieces.rest.now =
    omega (arith, c.split_at.ensures.back_len, c.min.ensures, c.pieces-test.true) in
    less

pub pieces-preserved : goal.pieces-preserved
pieces-preserved g c =
    written-more _ _ _ _ c.pieces.invariant _ _ _ c.split_at.ensures.by_index.0
    c.in_ok-put_block.ensures.whole

pub returns-clause-whole : goal.returns-clause-whole
returns-clause-whole g c = written-whole _ _ _ _ c.pieces.invariant
    (nil_from_length c.pieces.rest.now (omega (arith, c.pieces-test.false)))
