mod Errors
mod Pieces
use Rattle.std.proofs.Common.{length, arith, ap}
use Rattle.bloom_files.proofs.BlockLemmas.{reads-none, room-of-read}
use Rattle.bloom_files.proofs.streams.read_words.Answers.Errors.{input-block, room-block, room-none, stops-block}
use Rattle.bloom_files.proofs.streams.read_words.Answers.Pieces.{pieces-more}
use Rattle.bloom_files.proofs.streams.read_words.Goals as goal

pub pieces-init : goal.pieces-init
pieces-init g c = record {
  reads = reads-none _ _ _ c.requires.empty;
  within = omega (arith, ap length c.requires.empty);
  room = omega (arith, c.requires.none);
}

pub pieces-preserved : goal.pieces-preserved
pieces-preserved = pieces-more

pub returns-in_err-read_block-clause-stops : goal.returns-in_err-read_block-clause-stops
returns-in_err-read_block-clause-stops = stops-block

pub returns-in_err-read_block-clause-input : goal.returns-in_err-read_block-clause-input
returns-in_err-read_block-clause-input = input-block

pub returns-in_err-read_block-clause-room : goal.returns-in_err-read_block-clause-room
returns-in_err-read_block-clause-room = room-block

pub returns-in_err-make_room-clause-room : goal.returns-in_err-make_room-clause-room
returns-in_err-make_room-clause-room = room-none

pub returns-clause-room : goal.returns-clause-room
returns-clause-room g c =
    room-of-read _ _ _ _ _ _ c.pieces.invariant.reads c.pieces.invariant.room
