use Rattle.std.proofs.Common.{◌-◌, ◌≤◌, true}
use Rattle.bloom_parts.specs.Stretches.{Advances, TellsNext}
use Rattle.bloom_parts.proofs.slices.positions.each_is_on.Given as goal

-- the places so far are set
abbrev pub invariant-places : goal.invariant-places
invariant-places l = record {
  chain : Advances l.found l.fn.chain l.chain;
  most : l.found ≤ l.fn.count;
  on : TellsNext l.found l.fn.chain l.words true;
}

-- the places that are left
abbrev pub decreases-places : goal.decreases-places
decreases-places l = l.fn.count - l.found
