-- What contracts say of look-ups, of passes that meet, and of words in the end: cases that hold,
-- and the nearest that don't. Hash 1 has the positions 0 and 20 among 64 bits.
use Rattle.std.proofs.Common.{◌≡◌, ℕ, zero, suc, ◌+◌, ◌/◌, ◌<◌, Bool, true, false, ◌||◌, List, [], ◌∷◌, slice_index, inl, inr, refl, ap, ◌∙◌, arith, lit<, lit≤}
use Rattle.fastbloom.proofs.Common.{both_ways, or_cases, TableId, chain, content, place, Closes, Finds, GrowsBeside, Meets, Sight, known_of, sure_of, set_of}
use Rattle.fastbloom.proofs.Cases.{nothing, one-from, only-first, pass, same-pass, single-from, table}

-- from a pass that knows nothing of a word of zeros
abbrev Looks : ℕ → ℕ → Sight → Bool → Type 0
Looks bits hashes new answer = Finds bits hashes 1 (pass 0 [] []) new answer

-- a look at hash 1 by two hashes finds its first position set, and its second clear
finds : Looks 64 2 (pass 0 (0 ∷ []) []) false
unfolding set_of chain content
finds = record {
  on = 1;
  most = lit≤ tt;
  looks = record {
    same = same-pass 0 [] [] (0 ∷ []) [];
    gained = refl;
    kept = λ p is. absurd (nothing p is);
    found = λ i below. ap (λ j. set_of (0 ∷ []) (place 64 1 j)) (only-first i below);
  };
  all = λ wrong. absurd (both_ways false refl wrong);
  off = λ same. (
    lit< tt,
    refl,
    λ p is. inr (record {
      index = 0;
      below = lit< tt;
      word = ap (λ q. q / 64) (one-from 0 p is);
    }),
  );
}

-- it isn't told true of a position that it doesn't know then, nor false where it knows all, or
-- where the filter began with all
finds-not : (Looks 64 2 (pass 0 (0 ∷ []) []) true → ⊥)
    × (Looks 64 1 (pass 0 (0 ∷ []) []) false → ⊥)
    × (Finds 64 1 1 (pass 1 [] []) (pass 1 [] []) false → ⊥)
unfolding set_of chain content
finds-not = (
  λ did. both_ways (known_of (pass 0 (0 ∷ []) []) (place 64 1 1)) refl
      (did.looks.found 1 (omega (arith, (did.all refl).0))),
  λ did. (let last = did.off refl in
      both_ways (sure_of (pass 0 (0 ∷ []) []) (place 64 1 did.on)) last.1
      (ap (λ j. sure_of (pass 0 (0 ∷ []) []) (place 64 1 j)) (only-first did.on last.0))),
  λ did. (let last = did.off refl in
      both_ways (sure_of (pass 1 [] []) (place 64 1 did.on)) last.1
      (ap (λ j. sure_of (pass 1 [] []) (place 64 1 j)) (only-first did.on last.0))),
)

-- it comes to know nothing of a word that it didn't load, gains nothing, forgets nothing, and stays
-- of its filter
keeps : (Looks 128 1 (pass 0 (0 ∷ 64 ∷ []) []) true → ⊥)
    × (Looks 64 1 (pass 0 (0 ∷ []) (0 ∷ [])) true → ⊥)
    × (Finds 64 1 1 (pass 0 (5 ∷ []) []) (pass 0 (0 ∷ []) []) true → ⊥)
    × (Looks 64 1 (record (pass 0 (0 ∷ []) []) { filter = table 1 8 }) true → ⊥)
unfolding set_of chain
keeps = (
  λ did. elim ((did.all refl).1 64 refl) [
    | inl was ↦ nothing 64 was
    | inr near ↦
        let here : near.index ≡ 0 = only-first near.index near.below in
        omega (arith, near.word ∙ ap (λ j. place 128 1 j / 64) here)
  ],
  λ did. (let wrong : ◌≡◌ {A = List ℕ} (0 ∷ []) [] = did.looks.gained in cc),
  λ did. both_ways (set_of (0 ∷ []) 5) refl (did.looks.kept 5 refl),
  λ did. omega (arith, ap (λ (t : TableId). t.views_name) did.looks.same.filter),
)

-- with three hashes among 128 bits, hash 1 has the positions 0, 40 and 64: a look that finds 40
-- clear doesn't load the word of 64
finds-past : Looks 128 3 (pass 0 (0 ∷ 64 ∷ []) []) false → ⊥
unfolding set_of chain content
finds-past did = let last = did.off refl in past did.on last.0 did.looks.found last.1 last.2
  where
    new : Sight
    new = pass 0 (0 ∷ 64 ∷ []) []

    first_word : (index : ℕ) → index < 2 → 1 ≡ place 128 1 index / 64 → ⊥
    first_word zero below wrong = omega (arith, wrong)
    first_word (suc zero) below wrong = omega (arith, wrong)
    first_word (suc (suc index)) below wrong = omega (arith, below)

    past : (on : ℕ) → on < 3 → ((i : ℕ) → i < on → known_of new (place 128 1 i) ≡ true)
        → sure_of new (place 128 1 on) ≡ false
        → GrowsBeside 128 1 (on + 1) (pass 0 [] []) new → ⊥
    past zero below found off grows = both_ways (sure_of new 0) off refl
    past (suc zero) below found off grows = elim (grows 64 refl) [
      | inl was ↦ nothing 64 was
      | inr near ↦ first_word near.index near.below near.word
    ]
    past (suc (suc on)) below found off grows =
        both_ways (known_of new 40) refl (found 1 (omega arith))

-- two passes that met know what either knew, and what the filter began with
meets : Meets (pass 1 (5 ∷ []) []) (pass 1 (7 ∷ []) (7 ∷ []))
    (pass 1 (5 ∷ 7 ∷ 0 ∷ []) []) (pass 1 (5 ∷ 7 ∷ 0 ∷ []) (7 ∷ []))
unfolding set_of
meets = record {
  same_a = same-pass 1 (5 ∷ []) [] (5 ∷ 7 ∷ 0 ∷ []) [];
  same_b = same-pass 1 (7 ∷ []) (7 ∷ []) (5 ∷ 7 ∷ 0 ∷ []) (7 ∷ []);
  gained_a = refl;
  gained_b = refl;
  known_a = known;
  known_b = known;
  start_a = begun;
  start_b = begun;
}
  where
    known : (p : ℕ) → (set_of (5 ∷ []) p || set_of (7 ∷ []) p) ≡ true
        → set_of (5 ∷ 7 ∷ 0 ∷ []) p ≡ true
    known p is = elim (or_cases (set_of (5 ∷ []) p) (set_of (7 ∷ []) p) is) [
      | inl first ↦ ap (set_of (5 ∷ 7 ∷ 0 ∷ [])) (one-from 5 p first)
      | inr second ↦ ap (set_of (5 ∷ 7 ∷ 0 ∷ [])) (one-from 7 p second)
    ]

    begun : (p : ℕ) → content (1 ∷ []) p ≡ true → set_of (5 ∷ 7 ∷ 0 ∷ []) p ≡ true
    begun p is = ap (set_of (5 ∷ 7 ∷ 0 ∷ [])) (single-from 0 p (lit< tt) is)

-- neither of two passes learned nothing of the other, nor of the filter, took what the other
-- gained, gave up what it gained, or is of another start
meets-not : (Meets (pass 0 (5 ∷ []) []) (pass 0 (7 ∷ []) [])
    (pass 0 (5 ∷ []) []) (pass 0 (5 ∷ 7 ∷ []) []) → ⊥)
    × (Meets (pass 0 (5 ∷ []) []) (pass 0 (7 ∷ []) [])
    (pass 0 (5 ∷ 7 ∷ []) []) (pass 0 (7 ∷ []) []) → ⊥)
    × (Meets (pass 1 [] []) (pass 1 [] []) (pass 1 [] []) (pass 1 (0 ∷ []) []) → ⊥)
    × (Meets (pass 1 [] []) (pass 1 [] []) (pass 1 (0 ∷ []) []) (pass 1 [] []) → ⊥)
    × (Meets (pass 0 (5 ∷ []) []) (pass 0 (5 ∷ []) (5 ∷ []))
    (pass 0 (5 ∷ []) (5 ∷ [])) (pass 0 (5 ∷ []) (5 ∷ [])) → ⊥)
    × (Meets (pass 0 (5 ∷ []) []) (pass 0 (5 ∷ []) (5 ∷ []))
    (pass 0 (5 ∷ []) []) (pass 0 (5 ∷ []) []) → ⊥)
    × (Meets (pass 0 [] []) (pass 0 [] []) (pass 2 [] []) (pass 0 [] []) → ⊥)
    × (Meets (pass 0 [] []) (pass 0 [] []) (pass 0 [] []) (pass 2 [] []) → ⊥)
unfolding set_of content
meets-not = (
  λ met. both_ways (set_of (5 ∷ []) 7) refl (met.known_a 7 refl),
  λ met. both_ways (set_of (7 ∷ []) 5) refl (met.known_b 5 refl),
  λ met. nothing 0 (met.start_a 0 refl),
  λ met. nothing 0 (met.start_b 0 refl),
  λ met. (let wrong : ◌≡◌ {A = List ℕ} (5 ∷ []) [] = met.gained_a in cc),
  λ met. (let wrong : ◌≡◌ {A = List ℕ} [] (5 ∷ []) = met.gained_b in cc),
  λ met. omega (arith, ap (λ words. slice_index words 0) met.same_a.start),
  λ met. omega (arith, ap (λ words. slice_index words 0) met.same_b.start),
)

-- the word 1048577 has the bits 0, of the start, and 20, which was gained: in the end neither is
-- clear, and no pass gained what the filter began with
closes : Closes (pass 1 (20 ∷ []) (20 ∷ [])) (1048577 ∷ [])
    × (Closes (pass 1 (20 ∷ []) []) (1 ∷ []) → ⊥)
    × (Closes (pass 1 (20 ∷ []) []) (1048576 ∷ []) → ⊥)
    × (Closes (pass 1 (0 ∷ []) (0 ∷ [])) (1 ∷ []) → ⊥)
unfolding content set_of
closes = (
  record {
    start = λ p begun. ap (content (1048577 ∷ [])) (single-from 0 p (lit< tt) begun);
    known = λ p known. ap (content (1048577 ∷ [])) (one-from 20 p known);
    gained = λ p gained. ap (content (1 ∷ [])) (one-from 20 p gained);
  },
  λ ends. both_ways (content (1 ∷ []) 20) refl (ends.known 20 refl),
  λ ends. both_ways (content (1048576 ∷ []) 0) refl (ends.start 0 refl),
  λ ends. both_ways (content (1 ∷ []) 0) (ends.gained 0 refl) refl,
)
