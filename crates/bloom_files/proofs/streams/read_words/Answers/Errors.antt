-- What `read_words` says where the words aren't read.
use Rattle.std.proofs.Common.{◌≡◌, Err, rules, arith}
use Rattle.bloom_files.proofs.BlockLemmas.{fails-later, length-read, room-later, room-of-read, stops-later}
use Rattle.bloom_files.proofs.streams.read_words.Goals as goal

-- why a block wasn't read
pub stops-block : goal.returns-in_err-read_block-clause-stops
stops-block g c =
    let is : c.from_residual-in_err-read_block.result ≡ Err c.in_err-read_block.field-0.0 =
    search rules in
    let so_far = c.pieces.invariant.reads in
    rw is (stops-later _ _ _ _ _ _ so_far.taken (omega (arith, length-read _ _ _ _ _ so_far))
    c.in_err-read_block.ensures.stops)

-- what was read where a read of a block failed
pub input-block : goal.returns-in_err-read_block-clause-input
input-block g c =
    let is : c.from_residual-in_err-read_block.result ≡ Err c.in_err-read_block.field-0.0 =
    search rules in
    let so_far = c.pieces.invariant.reads in
    rw is (fails-later _ _ _ _ _ _ _ so_far.taken (omega (arith, length-read _ _ _ _ _ so_far))
    c.in_err-read_block.ensures.input)

-- how much room there is where a block wasn't read
pub room-block : goal.returns-in_err-read_block-clause-room
room-block g c =
    let so_far = c.pieces.invariant in
    let read = c.read_block.ensures in
    room-later _ _ _ _ _ read.capacity
    (room-of-read _ _ _ _ _ _ so_far.reads (omega (arith, c.make_room.ensures.few, so_far.room)))
    read.gave

-- how much room there is where no more was given
pub room-none : goal.returns-in_err-make_room-clause-room
room-none g c =
    let so_far = c.pieces.invariant in
    room-of-read _ _ _ _ _ _ so_far.reads (omega (arith, c.make_room.ensures.few, so_far.room))
