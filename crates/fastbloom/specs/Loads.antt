-- What a pass comes to know as it loads words, which its look-ups and meetings do.
use Rattle.std.specs.Prelude.{◌≡◌, ◌/◌, ◌<◌, ◌⊎◌, ℕ, Bool, true, false}
use Rattle.bloom_parts.specs.Content.{content}
use Rattle.bloom_parts.specs.Places.{IsPart}
use Rattle.fastbloom.specs.Passes.{Sight, known_of, sure_of, IsSamePass}

-- from old to new a pass loaded the word of a position, and `answer` is whether the position is set
pub record LooksAt (position : ℕ) (old new : Sight) (answer : Bool) : Type 0 where
  pub same : IsSamePass old new
  pub gained : new.gained ≡ old.gained
  pub kept : IsPart (known_of old) (known_of new)
  pub on : answer ≡ true → known_of new position ≡ true
  pub off : answer ≡ false → sure_of new position ≡ false
  pub grown : (p : ℕ) → known_of new p ≡ true
      → (known_of old p ≡ true) ⊎ (p / 64 ≡ position / 64)

-- from old to new a pass looked at the words before one, and knows all that these began with
pub record Views (word : ℕ) (old new : Sight) : Type 0 where
  pub same : IsSamePass old new
  pub gained : new.gained ≡ old.gained
  pub kept : IsPart (known_of old) (known_of new)
  pub shown : (p : ℕ) → p / 64 < word → content old.start p ≡ true → known_of new p ≡ true
