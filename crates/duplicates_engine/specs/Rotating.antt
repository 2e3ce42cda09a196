-- A filter that rotates as a sieve of lines.
use Rattle.std.specs.Prelude.{ℕ, Bool, List, map}
use Rattle.std.specs.declared.hash.Hasher as hasher
use Rattle.bloom_growing.specs.Kinds.{Kind}
use Rattle.bloom_growing.specs.Rotating.{Rotating, Receives, ReceivesAll}
use Rattle.duplicates_engine.specs.Plain.{line_hash}

module _ {S H : Type 0} (kind : Kind) (h : hasher.Ghosts H) (build : S → H) where
  -- the hashes of these lines came, in order, from some filter on
  abbrev pub rotating_recalls : Rotating S → List (List ℕ) → Type 0
  rotating_recalls r lines =
      (start : Rotating S)
      × ReceivesAll kind start (map (line_hash h (build r.setup.hasher)) lines) r

  -- the hash of one line came, with this reply
  abbrev pub rotating_receives : Rotating S → List ℕ → Bool → Rotating S → Type 0
  rotating_receives old line reply new =
      Receives kind old (line_hash h (build old.setup.hasher) line) new reply
