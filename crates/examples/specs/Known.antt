-- What a pass knows of many hashes.
use Rattle.std.specs.Prelude.{ℕ, List, Contains}
use Rattle.fastbloom.specs.Passes.{SeatedFilter, Sight, Knows}

-- a pass knows all positions of each of these hashes
abbrev pub KnowsAll : SeatedFilter → Sight → List ℕ → Type 0
KnowsAll f pass hashes = (hash : ℕ) → Contains hashes hash → Knows f pass hash
