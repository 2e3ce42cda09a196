-- Calls on blocked filters, at values from outside: for each definition that public clauses cite a
-- case that holds and cases as near as can be that don't.
use Rattle.std.proofs.Common.{◌≡◌, ◌≤◌, ◌<◌, ◌+◌, ◌^◌, ℕ, true, false, ◌||◌, [], ◌∷◌, replicate, refl, ap, ◌∙◌, arith, lit<}
use Rattle.std.proofs.lemmas.Bool.{both_ways, false_from_ne_true}
use Rattle.bloom_blocked.proofs.Common.{chain, content, positions, are_in, Filter, num_lines_of, InsertsAllInLines, InsertsItemsInLines, line_positions, positions_in_lines, in_lines, contains, Inserts}
use Rattle.bloom_parts.proofs.PublishedLemmas.{content-past}
use Rattle.bloom_plain.proofs.CaseLemmas.{content-case}
use Rattle.bloom_blocked.proofs.Cases.{line, zeros, with_one}
use Rattle.bloom_blocked.proofs.PositionLemmas.{line_range_law}

-- sixteen words are two lines
num_lines_of-case : (hasher : ℕ)
    → num_lines_of (record { words = replicate 16 0; hashes = 1; hasher = hasher }) ≡ 2
num_lines_of-case hasher = refl

-- hash 1 is contained where both positions are set, and not without one of them
contains-in_lines : (contains in_lines with_one 1 ≡ true)
    × (contains in_lines (line 8192 0 2 7) 1 ≡ false)
    × (contains in_lines (line 8192 17179869184 3 7) 1 ≡ false)
unfolding content are_in chain
contains-in_lines = (refl, refl, refl)

-- past the bits of one line no hash has a position
past-line : (k hash p : ℕ) → hash < 2 ^ 64 → 512 ≤ p → line_positions 1 k hash p ≡ false
past-line k hash p fits past =
    false_from_ne_true (line_positions 1 k hash p)
    (λ on. let below = line_range_law 1 k hash p (lit< tt) fits on in omega (arith, below, past))

-- what an insert of hash 1 leaves has the content of a line and the positions of the hash
with-one : (old : Filter ℕ) → ((p : ℕ) → 512 ≤ p → content old.words p ≡ false)
    → (p : ℕ) → 512 ≤ p → (content old.words p || line_positions 1 2 1 p) ≡ false
with-one old none p past =
    ap (λ b. b || line_positions 1 2 1 p) (none p past) ∙ past-line 2 1 p (lit< tt) past

-- an insert sets the positions of its hash in the line, and tells what was contained
inserts-in_lines : Inserts in_lines zeros 1 with_one false
    × (Inserts in_lines zeros 1 with_one true → ⊥)
    × (Inserts in_lines zeros 1 (line 8192 0 2 7) false → ⊥)
unfolding content positions chain are_in
inserts-in_lines = (
  record {
    answers = refl;
    bits =
        content-case with_one.words (λ p. content zeros.words p || line_positions 1 2 1 p) refl
        (with-one zeros (λ p past. content-past zeros.words p (omega (arith, past))));
    shape = record { words = refl; hashes = refl };
    hasher = refl;
  },
  λ did. both_ways true did.answers refl,
  λ did. both_ways false refl (did.bits 162),
)

-- many inserts leave out no hash, set no position beside theirs, clear none, and leave shape and
-- hasher
inserts_all_in_lines-cases : InsertsAllInLines zeros (1 ∷ []) with_one
    × (InsertsAllInLines zeros (0 ∷ 1 ∷ []) with_one → ⊥)
    × (InsertsAllInLines zeros (1 ∷ []) (line 8193 17179869184 2 7) → ⊥)
    × (InsertsAllInLines (line 1 0 2 7) [] zeros → ⊥)
    × (InsertsAllInLines zeros (1 ∷ []) (line 8192 17179869184 3 7) → ⊥)
    × (InsertsAllInLines zeros (1 ∷ []) (line 8192 17179869184 2 8) → ⊥)
unfolding content positions chain
inserts_all_in_lines-cases = (
  record {
    bits =
        content-case with_one.words
        (λ p. content zeros.words p || positions_in_lines 1 2 (1 ∷ []) p) refl
        (λ p past.
        ap (λ b. b || (line_positions 1 2 1 p || false))
        (content-past zeros.words p (omega (arith, past)))
        ∙ ap (λ b. b || false) (past-line 2 1 p (lit< tt) past));
    shape = record { words = refl; hashes = refl };
    hasher = refl;
  },
  λ did. both_ways false refl (did.bits 0),
  λ did. both_ways true (did.bits 0) refl,
  λ did. both_ways false refl (did.bits 0),
  λ did. omega (arith, did.shape.hashes),
  λ did. omega (arith, did.hasher),
)

-- items are inserted by their hashes under the old hasher
inserts_items_in_lines-case : InsertsItemsInLines (λ hasher item. hasher + item) zeros (1 ∷ 2 ∷ [])
    with_one ≡ InsertsAllInLines zeros (8 ∷ 9 ∷ []) with_one
inserts_items_in_lines-case = refl
