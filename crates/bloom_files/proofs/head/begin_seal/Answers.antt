use Rattle.std.proofs.Common.{[], length-take, arith}
use Rattle.bloom_files.proofs.head.begin_seal.Goals as goal

pub slice_bounds-write-end : goal.slice_bounds-write-end
slice_bounds-write-end c = omega (arith, length-take 40 c.args.head.now, c.requires)

pub slice_bounds-write-end-in-Lines : goal.slice_bounds-write-end-in-Lines
slice_bounds-write-end-in-Lines c = omega (arith, length-take 40 c.args.head.now, c.requires)

pub returns-in-Whole : goal.returns-in-Whole
returns-in-Whole c =
    rw c.in-Whole.is (c.write.ensures.taken 0 0 [] c.default-hasher.ensures)

pub returns-in-Lines : goal.returns-in-Lines
returns-in-Lines c =
    rw c.in-Lines.is
    (c.write-in-Lines.ensures.taken 0 0 _ (c.write.ensures.taken 0 0 [] c.default-hasher.ensures))
