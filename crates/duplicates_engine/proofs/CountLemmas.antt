-- Counts, from line to line.
use Rattle.std.proofs.Common.{◌≡◌, ◌+◌, ◌-◌, ◌^◌, ℕ, min, Bool, true, false, cond, List, [], ◌∷◌, ◌++◌, length-append, refl, arith}
use Rattle.std.specs.List.{count_by}
use Rattle.std.proofs.lemmas.List.Sums.{sum_by_push}
use Rattle.duplicates_engine.proofs.Common.{Total, Counts, CountsLine, is_longer}

-- the counts of no lines
abbrev pub nothing : Total
nothing = record { tally = record { read = 0; held = 0 }; longer = 0 }

pub counts-nil : (longest : ℕ) → Counts longest [] [] nothing
counts-nil longest = record { read = refl; held = refl; longer = refl }

-- one more is counted or not, up to 2^64 - 1
count-more : {A : Type 0} (P : A → Bool) (all : List A) (one : A) (count more : ℕ)
    → count ≡ min (count_by P all) (2 ^ 64 - 1)
    → more ≡ cond (P one) (min (count + 1) (2 ^ 64 - 1)) count
    → more ≡ min (count_by P (all ++ one ∷ [])) (2 ^ 64 - 1)
count-more P all one count more is now =
    rw (sum_by_push (λ a. cond (P a) 1 0) all one) (by (P one) now)
  where
    by : (b : Bool) → more ≡ cond b (min (count + 1) (2 ^ 64 - 1)) count
        → more ≡ min (count_by P all + cond b 1 0) (2 ^ 64 - 1)
    by true now = omega (arith, is, now)
    by false now = omega (arith, is, now)

-- the counts after one more line
pub counts-more : (longest : ℕ) (lines : List (List ℕ)) (replies : List Bool) (line : List ℕ)
    (reply : Bool) (total more : Total) → Counts longest lines replies total
    → CountsLine total more (is_longer longest line) reply
    → Counts longest (lines ++ line ∷ []) (replies ++ reply ∷ []) more
counts-more longest lines replies line reply total more is one = record {
  read = simp length-append (omega (arith, is.read, one.read));
  held = count-more (λ r. r) replies reply total.tally.held more.tally.held is.held one.held;
  longer =
      count-more (is_longer longest) lines line total.longer more.longer is.longer one.longer;
}
