-- What is known of lines that wait before they are taken: their lengths and hashes. Which hashes a
-- line has, a sieve says for itself. The byte `end` ends a line.
use Rattle.std.specs.Prelude.{◌≡◌, ◌≤◌, ℕ, ◌+◌, List, [], ◌∷◌, take, drop}
use Rattle.lines.specs.Reading.{HasEndAtBy}
use Rattle.duplicates_engine.specs.declared.ahead.Looked.{Looked}

module _ (has_hash : List ℕ → ℕ → Type 0) (end longest : ℕ) where
  -- the first line of these bytes has its end there, isn't too long, and has this length and hash
  pub record IsLookedAt (bytes : List ℕ) (looked : Looked) : Type 0 where
    pub ends : HasEndAtBy end bytes looked.length
    pub short : looked.length ≤ longest
    pub hashed : has_hash (take looked.length bytes) looked.hash

  -- the same of the first lines, in order, with these bytes behind them
  abbrev pub AreLookedAtUpTo : List ℕ → List ℕ → List Looked → Type 0
  AreLookedAtUpTo bytes rest [] = rest ≡ bytes
  AreLookedAtUpTo bytes rest (looked ∷ later) =
      IsLookedAt bytes looked × AreLookedAtUpTo (drop (looked.length + 1) bytes) rest later

  -- the same of the first lines, whatever stands behind them
  abbrev pub AreLookedAt : List ℕ → List Looked → Type 0
  AreLookedAt bytes all = (rest : List ℕ) × AreLookedAtUpTo bytes rest all
