use Rattle.std.proofs.Common.{◌≡◌, ◌≤◌, ◌-◌, length, take}
use Rattle.std.specs.Io.KnownBytes.{Consumes}
use Rattle.lines.proofs.reads.read_full.Given as goal

-- the bytes that were read lie in front
abbrev pub invariant-reads : goal.invariant-reads
invariant-reads g l = record {
  taken : Consumes (g.R.Read.remaining l.fn.input) (g.R.Read.remaining l.input)
      (take l.count l.bytes);
  count : l.count ≤ length l.bytes;
  room : length l.bytes ≡ length l.fn.bytes;
}

-- the room that is left
abbrev pub decreases-reads : goal.decreases-reads
decreases-reads g l = length l.initial.bytes - l.count
