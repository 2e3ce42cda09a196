use Rattle.std.proofs.Common.{◌≡◌, length}
use Rattle.std.specs.Io.KnownBytes.{Keeps}
use Rattle.lines.proofs.reads.read_some.Given as goal

-- nothing was taken yet
abbrev pub invariant-tries : goal.invariant-tries
invariant-tries g l = record {
  kept : Keeps (g.R.Read.remaining l.fn.input) (g.R.Read.remaining l.input);
  room : length l.bytes ≡ length l.fn.bytes;
}

-- nothing was taken yet
abbrev pub invariant-rounds : goal.invariant-rounds
invariant-rounds g l = record {
  kept : Keeps (g.R.Read.remaining l.fn.input) (g.R.Read.remaining l.input);
  room : length l.bytes ≡ length l.fn.bytes;
}
