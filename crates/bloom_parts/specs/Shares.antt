-- The share of a position, where a filter has one hash: the hashes that lie there. They are a run,
-- and any two runs are nearly of equal length (D. Lemire, "Fast random integer generation in an
-- interval", 2019).
use Rattle.std.specs.Prelude.{◌≡◌, ◌↔◌, ℕ, ◌+◌, ◌-◌, ◌*◌, ◌^◌, ◌<◌, ◌≤◌, Bool, true}
use Rattle.std.specs.Int.{div_ceil}
use Rattle.bloom_parts.specs.Places.{positions}

-- the least hash whose position among n is i or later
abbrev pub share_start : ℕ → ℕ → ℕ
share_start n i = div_ceil (i * 2 ^ 64) n

-- the set has this member and no other
abbrev pub IsOnly : (ℕ → Bool) → ℕ → Type 0
IsOnly A p = (q : ℕ) → (A q ≡ true) ↔ (q ≡ p)

-- position i is the only one of the hashes from the start of its share to that of the next
abbrev pub ShareLaw : Type 0
ShareLaw = (n i hash : ℕ) → 0 < n → hash < 2 ^ 64 →
    IsOnly (positions n 1 hash) i ↔ ((share_start n i ≤ hash) × (hash < share_start n (i + 1)))

-- every position has a share
abbrev pub ReachedLaw : Type 0
ReachedLaw = (n i : ℕ) → 0 < n → n ≤ 2 ^ 64 → share_start n i < share_start n (i + 1)

-- the shares of two positions differ by at most one hash
abbrev pub EvenLaw : Type 0
EvenLaw = (n i j : ℕ) → 0 < n →
    share_start n (i + 1) - share_start n i ≤ share_start n (j + 1) - share_start n j + 1
