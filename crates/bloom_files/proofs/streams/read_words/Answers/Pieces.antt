-- `read_words` after one more block.
use Rattle.std.proofs.Common.{length, arith, ap}
use Rattle.bloom_files.proofs.BlockLemmas.{reads-both}
use Rattle.bloom_files.proofs.streams.read_words.Goals as goal

-- the words so far were read, and the room fits them
pub pieces-more : goal.pieces-preserved
pieces-more g c =
    let so_far = c.pieces.invariant in
    let read = c.in_ok-read_block.ensures in
    let same = c.make_room.ensures.same in
    let few = c.make_room.ensures.few in
    let kept = c.read_block.ensures.capacity in
    record {
      reads = reads-both _ _ _ _ _ _ _ _ _ so_far.reads same read.taken;
      within = omega (arith, read.count, ap length same);
      room = omega (arith, kept, few, so_far.room, read.count, ap length same);
    }
