use Rattle.std.proofs.Common.{arith}
use Rattle.bloom_plain.specs.CommandOf.{operation_of}
use Rattle.bloom_plain.proofs.ListLemmas.{carries_out-next}
use Rattle.bloom_plain.proofs.bloom.BloomFilter.replay.Goals as goal

pub commands-preserved : goal.commands-preserved
commands-preserved g c = record {
  did =
      carries_out-next operation_of _ _ _ c.args.list.now c.commands.command-index _ _ _ _
      c.commands-test.true c.command-item.is c.commands.invariant.did
      c.carry_out-reply.ensures c.add_reply.ensures.reply;
  few = omega (arith, c.add_reply.ensures.few, c.commands.invariant.few);
  room = omega (arith, c.add_reply.ensures.room, c.commands.invariant.room);
}
