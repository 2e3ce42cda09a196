-- Sieves that tell of a line however many came behind it.
use Rattle.std.proofs.Common.{◌≡◌, ◌<◌, ℕ, Bool, true, false, List, [], ◌∷◌, ◌++◌, length, None, sym, ◌∙◌, ap, subst, length-append, arith}
use Rattle.duplicates_engine.proofs.Common.{All, true≢false, IsNew}
use Rattle.std.proofs.lemmas.List.Elements.{All-get_or, All-push, All-weaker}
use Rattle.std.proofs.Math.Seq.{get_or-append_seam}

-- a sieve that has these lines, and answers true of a line that it has
pub always-new : (P : List ℕ → Type 0) (line : List ℕ) (reply : Bool) → (P line → reply ≡ true)
    → reply ≡ false → (lines : List (List ℕ)) → All P lines → IsNew None lines line
always-new P line reply seen is lines had front behind other cut reach same =
    let at : length front < length (front ++ other ∷ behind) =
    omega (arith, length-append front (other ∷ behind)) in
    true≢false
    (sym (seen (subst P (get_or-append_seam front other behind [] ∙ same)
    (All-get_or P (front ++ other ∷ behind) (length front) [] at (subst (All P) cut had))))
    ∙ is)

-- under the same hasher a line keeps its hash
pub keeps-hash : {S : Type 0} (hash_of : S → List ℕ → ℕ) {old new : S} → new ≡ old
    → (line : List ℕ) (hash : ℕ) → hash ≡ hash_of old line → hash ≡ hash_of new line
keeps-hash hash_of same line hash is = is ∙ ap (λ s. hash_of s line) (sym same)

-- a sieve that has a line by its hash
module _ {V S : Type 0} (contains : V → ℕ → Bool) (hash_of : S → List ℕ → ℕ) (hasher_of : V → S)
    (old new : V) (line : List ℕ) (same : hasher_of new ≡ hasher_of old)
    (here : contains new (hash_of (hasher_of old) line) ≡ true)
    (stays : (hash : ℕ) → contains old hash ≡ true → contains new hash ≡ true) where
  -- behind one more line, the sieve has that line and all that it had
  pub hashed-more : (lines : List (List ℕ))
      → All (λ l. contains old (hash_of (hasher_of old) l) ≡ true) lines
      → All (λ l. contains new (hash_of (hasher_of new) l) ≡ true) (lines ++ line ∷ [])
  hashed-more lines had =
      let has : List ℕ → Type 0 = λ l. contains new (hash_of (hasher_of new) l) ≡ true in
      All-push has lines line
      (All-weaker (λ l. contains old (hash_of (hasher_of old) l) ≡ true) has
      (λ other was. subst (λ s. contains new (hash_of s other) ≡ true) (sym same)
      (stays (hash_of (hasher_of old) other) was))
      lines had)
      (subst (λ s. contains new (hash_of s line) ≡ true) (sym same) here)
