use Rattle.std.proofs.Common.{◌≡◌, ◌*◌, ◌%◌, length, arith, rules}
use Rattle.bloom_files.proofs.BlockLemmas.{reads-block, counts-block}
use Rattle.bloom_files.proofs.streams.read_block.Goals as goal

pub returns-clause-taken : goal.returns-clause-taken
returns-clause-taken g c =
    let read = c.in-Ok.ensures in
    let pushed = c.push_numbers.ensures in
    let size : length c.read_full.new.bytes ≡ 8 * c.args.more = search rules in
    let whole : length c.read_full.new.bytes % 8 ≡ 0 = omega (arith, size) in
    reads-block _ _ _ _ c.read_full.new.bytes _ _ whole pushed.words c.in-Ok.count
    (omega (arith, read.count, size)) read.taken (pushed.bytes whole) c.write.ensures.taken

pub returns-clause-count : goal.returns-clause-count
returns-clause-count g c =
    let read = c.in-Ok.ensures in
    let size : length c.read_full.new.bytes ≡ 8 * c.args.more = search rules in
    let whole : length c.read_full.new.bytes % 8 ≡ 0 = omega (arith, size) in
    omega (
      arith,
      size,
      counts-block _ _ c.read_full.new.bytes whole c.push_numbers.ensures.words,
    )

pub push_numbers-requires : goal.push_numbers-requires
push_numbers-requires g c =
    let size : length c.read_full.new.bytes ≡ 8 * c.args.more = search rules in
    omega (arith, size, c.requires.room)
