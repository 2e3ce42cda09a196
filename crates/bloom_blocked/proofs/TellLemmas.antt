-- What bits tell of some of many hashes, and of those that stand at these places among all.
use Rattle.std.proofs.Common.{◌≡◌, ◌≤◌, ◌<◌, ◌+◌, ◌-◌, ◌*◌, ℕ, Bool, true, ◌&&◌, not, min, set, List, [], ◌∷◌, length, nat_lt, slice_index, take, drop, refl, sym, ◌∙◌, ap, arith, inl, inr, length-drop}
use Rattle.std.specs.List.{list_any}
use Rattle.bloom_blocked.proofs.Common.{cases_lt, lt-ltb, le-ltb, or_left, content, content-zeros, many-stretch, line_positions, are_in_line, all_are_in_lines, TellsNewInLines}
use Rattle.std.proofs.lemmas.List.{get_or-take, get_or-drop, length-take-le, take-take}
use Rattle.std.proofs.lemmas.List.Sums.{AllPass-from_list_all}
use Rattle.bloom_parts.specs.Many.{with_all, is_found, is_new, Tells}
use Rattle.bloom_blocked.proofs.BitLemmas.{bits-word}
use Rattle.bloom_blocked.proofs.PositionLemmas.{line-greater}

module _ (is_in : ℕ → (ℕ → Bool) → Bool) (hashes : List ℕ) (at n q : ℕ) (small : q < n) where
  -- a hash of a part is found as at its place among all
  pub found-part : (A : ℕ → Bool)
      → is_found is_in A (take n (drop at hashes)) q ≡ is_found is_in A hashes (at + q)
  found-part A =
      ap (λ hash. is_in hash A)
      (get_or-take n (drop at hashes) q 0 small ∙ get_or-drop at hashes q 0)

  -- and where the part is inserted into what the hashes before it set, it is new as there
  pub new-part : (on : ℕ → ℕ → Bool) (A B : ℕ → Bool)
      → ((p : ℕ) → B p ≡ with_all on A (take at hashes) p)
      → is_new on is_in B (take n (drop at hashes)) q ≡ is_new on is_in A hashes (at + q)
  new-part on A B before =
      let part = take n (drop at hashes) in
      let upto : q ≡ at + q - at = omega arith in
      let cut : take q part ≡ take (at + q - at) (drop at hashes) =
      take-take q n (drop at hashes) (omega (arith, small))
      ∙ ap (λ j. take j (drop at hashes)) upto in
      let sets : (p : ℕ) → with_all on B (take q part) p
      ≡ with_all on A (take (at + q) hashes) p =
      many-stretch on A B (with_all on B (take q part)) hashes at (at + q) (omega arith) before
      (λ p. ap (λ l. with_all on B l p) cut) in
      ap (λ C. not (is_found is_in C part q)) (λ i p. sets p i)
      ∙ ap not (found-part (with_all on A (take (at + q) hashes)))

module _ (hashes words : List ℕ) (turn end v : ℕ) (F G : ℕ → Bool) (within : turn < length words)
    (ended : end ≡ min (length hashes) (64 * turn + 64)) (more : 64 * turn ≤ length hashes) where
  -- one more word of bits, which tell of 64 hashes or fewer
  pub tells-turn : ((q : ℕ) → q < end - 64 * turn → F q ≡ G (64 * turn + q))
      → ((p : ℕ) → content words p ≡ (nat_lt p (64 * turn) && (nat_lt p (length hashes) && G p)))
      → Tells F (take (end - 64 * turn) (drop (64 * turn) hashes)) (v ∷ [])
      → (p : ℕ) → content (set words turn v) p
      ≡ (nat_lt p (64 * (turn + 1)) && (nat_lt p (length hashes) && G p))
  tells-turn same before told =
      let at = 64 * turn in
      let n = end - at in
      let part = take n (drop at hashes) in
      let fits : at + n ≤ length hashes = omega (arith, ended, more) in
      let long : length part ≡ n =
      length-take-le n (drop at hashes) (omega (arith, length-drop at hashes, fits)) in
      bits-word G (length hashes) words turn n v within fits
      (λ few. omega (arith, ended, more, few)) (omega (arith, ended)) before
      (λ q. told q ∙ ap (λ l. nat_lt q l && F q) long ∙ elim (cases_lt q n) [
        | inl small ↦ rw (lt-ltb q n small) (same q small)
        | inr large ↦ rw (le-ltb q n large) refl
      ])

-- where all hashes are contained, none is new
pub none-new : (lines k : ℕ) (A : ℕ → Bool) (hashes : List ℕ)
    → all_are_in_lines lines k hashes A ≡ true → TellsNewInLines lines k A hashes (0 ∷ [])
none-new lines k A hashes all i =
    content-zeros 1 i ∙ sym (elim (cases_lt i (length hashes)) [
      | inl within ↦
          let on = line_positions lines k in
          let held = line-greater lines k (slice_index hashes i) A
          (with_all on A (take i hashes))
          (λ p on_p. or_left (A p) (list_any (λ hash. on hash p) (take i hashes)) on_p)
          (AllPass-from_list_all (λ h. are_in_line lines k h A) hashes all i 0 within) in
          rw (lt-ltb i (length hashes) within) (ap not held)
      | inr past ↦ rw (le-ltb i (length hashes) past) refl
    ])
