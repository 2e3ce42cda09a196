use Rattle.std.proofs.Common.{◌-◌, ◌≡◌, ◌≤◌, length, take}
use Rattle.duplicates_engine.specs.Ahead.{AreLookedAtUpTo}
use Rattle.duplicates_engine.proofs.ahead.find_lines.Given as goal

-- so many lines were looked at, and the rest stands behind them
abbrev pub invariant-lines : goal.invariant-lines
invariant-lines g l = record {
  looked : AreLookedAtUpTo (g.V.Sieve.has_hash l.sieve) g.row.END l.longest l.waiting l.rest
      (take l.count l.lines);
  count : l.count ≤ 64;
  room : length l.lines ≡ 64;
}

-- the lines that there is room for
abbrev pub decreases-lines : goal.decreases-lines
decreases-lines g l = 64 - l.count
