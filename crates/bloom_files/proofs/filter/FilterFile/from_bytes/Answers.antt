use Rattle.bloom_files.proofs.FileLemmas.{file-of}
use Rattle.bloom_files.proofs.filter.FilterFile.from_bytes.Goals as goal

pub returns-clause-file : goal.returns-clause-file
returns-clause-file g c =
    let made = c.from_head.ensures in
    file-of _ _ c.args.bytes.now _ _ _ c.layout.ensures made.head made.words made.range
    c.in_ok-head.ensures.file
