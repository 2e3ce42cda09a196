-- How many words a reading of a vector gives, and how each was found.
use Rattle.std.proofs.Common.{◌≡◌, ◌∙◌, ℕ, zero, suc, ◌+◌, ◌≤◌, List, [], ◌∷◌, Some, length, true, ◌<◌, ap, refl, slice_get, sym, subst, inl, inr, arith}
use Rattle.fastbloom.proofs.Common.{cases_eq, FoundByLoad, SharedWords, SharedFilter}
use Rattle.std.specs.Iterator.{Yields}
use Rattle.std.specs.Iterator.Runs.{Run, YieldsRun}
use Rattle.bloom_parts.specs.Reading.{Reading, ReadsNext}
use Rattle.bloom_steps.specs.Loaded.{WereLoaded}

-- a reading after some words: it stays on its vector, has gone on by as many words, and isn't past
-- the last
record CameTo (n : ℕ) (s t : Reading) (count : ℕ) : Type 0 where
  pub size : t.vector.count ≡ n
  pub next : t.next ≡ s.next + count
  pub most : t.next ≤ n

-- a reading goes on by one index for each word that it reads
counted : (n : ℕ) (s t : Reading) (words : List ℕ) → Yields ReadsNext s words t
    → s.vector.count ≡ n → s.next ≤ n → CameTo n s t (length words)
counted n s t [] came size most =
    subst (λ (r : Reading). CameTo n s r 0) came
    record { size = size; next = omega arith; most = most }
counted n s t (word ∷ words) came size most =
    let first = came.1 in
    let later = counted n came.0 t words came.2 (ap (λ (v : SharedWords). v.count) first.0 ∙ size)
    (omega (arith, first.1.1, first.1.2, size)) in
    record { size = later.size; next = omega (arith, later.next, first.1.2); most = later.most }

-- a whole reading from word 0 on gives as many words as the vector has
pub read-whole : (run : Run ReadsNext) (reading : Reading) (vector : SharedWords)
    → run.from ≡ reading → reading.vector ≡ vector → reading.next ≡ 0 → run.whole ≡ true
    → length run.items ≡ vector.count
unfolding YieldsRun
read-whole run reading vector from of start whole =
    let size = ap (λ (r : Reading). r.vector.count) from ∙ ap (λ (v : SharedWords). v.count) of in
    let first = ap (λ (r : Reading). r.next) from ∙ start in
    let came = run.gave.0 in
    let last = counted _ run.from came.0 run.items came.1 refl (omega (arith, first)) in
    let ended = (came.2 whole).1 in
    omega (arith, last.size, last.next, last.most, ended.1.0, first, size)

-- each word of a reading was found by a load of the word of its index
each-loaded : (s t : Reading) (words : List ℕ) → Yields ReadsNext s words t
    → (i : ℕ) → i < length words
    → (found : ℕ) × FoundByLoad s.vector (s.next + i) found × (slice_get words i ≡ Some found)
each-loaded s t [] came i within = absurd (omega (arith, within))
each-loaded s t (word ∷ words) came zero within =
    (word, subst (λ n. FoundByLoad s.vector n word) (omega arith) came.1.1.0, refl)
each-loaded s t (word ∷ words) came (suc i) within =
    let mid = came.0 in
    let later = each-loaded mid t words came.2 i (omega (arith, within)) in
    let on : mid.next + i ≡ s.next + suc i = omega (arith, came.1.1.2) in (
      later.0,
      subst (λ n. FoundByLoad s.vector n later.0) on
          (subst (λ v. FoundByLoad v (mid.next + i) later.0) came.1.0 later.1),
      later.2,
    )

-- a whole reading from word 0 on loads each word of the vector
pub read-loaded : (run : Run ReadsNext) (reading : Reading) (vector : SharedWords) (words : List ℕ)
    → run.from ≡ reading → reading.vector ≡ vector → reading.next ≡ 0 → run.whole ≡ true
    → words ≡ run.items → WereLoaded vector words
unfolding YieldsRun
read-loaded run reading vector words from of start whole are =
    let same = ap (λ (r : Reading). r.vector) from ∙ of in
    let first = ap (λ (r : Reading). r.next) from ∙ start in
    let count = read-whole run reading vector from of start whole in
    subst (WereLoaded vector) (sym are) record {
      count = count;
      each = λ i within.
          let loaded =
          each-loaded run.from run.gave.0.0 run.items run.gave.0.1 i
          (omega (arith, within, count)) in
          let on : run.from.next + i ≡ i = omega (arith, first) in (
            loaded.0,
            subst (λ n. FoundByLoad vector n loaded.0) on
                (subst (λ v. FoundByLoad v (run.from.next + i) loaded.0) same loaded.1),
            loaded.2,
          );
    }

-- what holds below a number and at it holds below the next
pub below-next : (P : ℕ → Type 0) (n : ℕ) → ((i : ℕ) → i < n → P i) → P n
    → (i : ℕ) → i < n + 1 → P i
below-next P n below here i within = elim (cases_eq i n) [
  | inl same ↦ subst P (sym same) here
  | inr other ↦ below i (omega (arith, within, other))
]

-- what was loaded of a filter as it is opened was loaded of the filter
pub loaded-of : {S : Type 0} {inside f : SharedFilter S} (at found : ℕ) → inside ≡ f
    → FoundByLoad inside.words at found → FoundByLoad f.words at found
loaded-of at found of here =
    subst (λ (h : SharedFilter _). FoundByLoad h.words at found) of here
