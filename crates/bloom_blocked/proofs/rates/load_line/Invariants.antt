use Rattle.std.proofs.Common.{◌≡◌, ℕ, ◌+◌, ◌*◌, ◌<◌, length, get_or}
use Rattle.bloom_parts.specs.Made.{FoundByLoad}
use Rattle.bloom_blocked.proofs.rates.load_line.Given as goal

-- the words so far were loaded, each to its own index
abbrev pub invariant-words : goal.invariant-words
invariant-words g l = record {
  count : length l.loaded ≡ 8;
  each : (i : ℕ) → i < l.word
      → FoundByLoad (g.W.TurnWords.vector l.words) (8 * l.line + i) (get_or l.loaded i 0);
}
