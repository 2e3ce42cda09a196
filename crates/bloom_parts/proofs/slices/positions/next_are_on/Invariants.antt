use Rattle.std.proofs.Common.{◌≤◌, ◌==◌}
use Rattle.bloom_parts.specs.Stretches.{Advances, TellsNext}
use Rattle.bloom_parts.proofs.slices.positions.next_are_on.Given as goal

-- as many are set as places were looked at, exactly if these are all set
abbrev pub invariant-places : goal.invariant-places
invariant-places l = record {
  chain : Advances l._place l.fn.chain l.chain;
  most : l.on ≤ l._place;
  on : TellsNext l._place l.fn.chain l.words (l.on == l._place);
}
