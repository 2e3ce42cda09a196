use Rattle.std.proofs.Common.{◌≤◌, ◌+◌, ◌-◌, ◌*◌, [], length, vec_capacity}
use Rattle.bloom_files.specs.FileReads.{ReadsWords}
use Rattle.bloom_files.proofs.streams.read_words.Given as goal

-- the words so far were read, and there is room for at most twice as many, and a block
abbrev pub invariant-pieces : goal.invariant-pieces
invariant-pieces g l = record {
  reads : ReadsWords (g.R.Read.remaining l.fn.input) (g.R.Read.remaining l.input) []
      l.words.items l.fn.hasher l.hasher;
  within : length l.words.items ≤ l.count;
  room : vec_capacity l.words ≤ 2 * length l.words.items + 512;
}

-- the words that are left
abbrev pub decreases-pieces : goal.decreases-pieces
decreases-pieces g l = l.count - length l.words.items
