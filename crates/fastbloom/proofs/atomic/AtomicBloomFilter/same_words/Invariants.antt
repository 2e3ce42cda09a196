use Rattle.std.proofs.Common.{ℕ, ◌<◌}
use Rattle.bloom_parts.specs.Made.{FoundByLoad}
use Rattle.fastbloom.proofs.atomic.AtomicBloomFilter.same_words.Given as goal

-- each word so far was loaded of both filters, and found alike
abbrev pub invariant-words : goal.invariant-words
invariant-words g l = (i : ℕ) → i < l.word
    → (found : ℕ) × FoundByLoad l.self.words i found × FoundByLoad l.other.words i found
