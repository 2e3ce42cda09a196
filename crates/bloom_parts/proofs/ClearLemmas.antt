-- Words that are made 0, from the front on.
use Rattle.std.proofs.Common.{◌≡◌, ℕ, zero, suc, ◌+◌, ◌≤◌, List, [], ◌∷◌, length, set, replicate, refl, ap, arith}
use lib.Lanes.{put_chunk}

-- the first n words are 0
abbrev pub cleared : ℕ → List ℕ → List ℕ
cleared zero xs = xs
cleared (suc n) [] = []
cleared (suc n) (x ∷ xs) = 0 ∷ cleared n xs

-- a front of n zeros written over the words
pub cleared-front : (n : ℕ) (xs : List ℕ) → put_chunk 0 xs (replicate n 0) ≡ cleared n xs
cleared-front zero [] = refl
cleared-front zero (x ∷ xs) = refl
cleared-front (suc n) [] = refl
cleared-front (suc n) (x ∷ xs) = ap (λ l. 0 ∷ l) (cleared-front n xs)

-- n more words are cleared by writing zeros
pub cleared-group : (n i m : ℕ) (xs : List ℕ) → m ≡ i + n
    → put_chunk i (cleared i xs) (replicate n 0) ≡ cleared m xs
cleared-group n zero m xs to = let e : m ≡ n = omega arith in rw e (cleared-front n xs)
cleared-group n (suc i) m [] to = let e : m ≡ suc (i + n) = omega arith in rw e refl
cleared-group n (suc i) m (x ∷ xs) to =
    let e : m ≡ suc (i + n) = omega arith in
    rw e (ap (λ l. 0 ∷ l) (cleared-group n i (i + n) xs refl))

-- one more word is cleared by setting it
pub cleared-next : (i m : ℕ) (xs : List ℕ) → m ≡ i + 1 → set (cleared i xs) i 0 ≡ cleared m xs
cleared-next zero m [] to = let e : m ≡ suc 0 = omega arith in rw e refl
cleared-next zero m (x ∷ xs) to = let e : m ≡ suc 0 = omega arith in rw e refl
cleared-next (suc i) m [] to = let e : m ≡ suc (i + 1) = omega arith in rw e refl
cleared-next (suc i) m (x ∷ xs) to =
    let e : m ≡ suc (i + 1) = omega arith in
    rw e (ap (λ l. 0 ∷ l) (cleared-next i (i + 1) xs refl))

-- at the end every word is 0
pub cleared-all : (n : ℕ) (xs : List ℕ) → length xs ≤ n → cleared n xs ≡ replicate (length xs) 0
cleared-all zero [] all = refl
cleared-all zero (x ∷ xs) all = absurd (omega arith)
cleared-all (suc n) [] all = refl
cleared-all (suc n) (x ∷ xs) all = ap (λ l. 0 ∷ l) (cleared-all n xs (omega arith))
