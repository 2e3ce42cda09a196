-- Cases that the facts of this crate share: filters of one word and three hashes, of which hash 1
-- has the positions 0, 20 and 32, and the line `i 1` that was carried out.
use Rattle.std.proofs.Common.{◌≡◌, ℕ, false, List, [], ◌∷◌, Some, refl, ◌∙◌, ap, lit<}
use Rattle.bloom_engine.proofs.Common.{codes, both_ways, content, state_after, positions, are_in, Filter, Line, Insert, operations, Carried}
use Rattle.bloom_parts.specs.Chain.{chain}
use Rattle.bloom_parts.specs.Operations as command
use Rattle.bloom_plain.specs.Replies.{CarriesOut, replies}
use Rattle.bloom_plain.proofs.CaseLemmas.{content-case, content-past, positions-past}

-- a filter of one word and three hashes
abbrev pub one_word : ℕ → Filter (Unit {0})
one_word word = record { words = word ∷ []; hashes = 3; hasher = tt }

-- no bit is set
abbrev pub zeros : Filter (Unit {0})
zeros = one_word 0

-- the bits of hash 1 are set
abbrev pub with_one : Filter (Unit {0})
with_one = one_word 0x1_0010_0001

-- the line `i 1` was carried out
inserted : CarriesOut zeros (command.Insert 1 ∷ []) with_one (false ∷ [])
unfolding content positions chain are_in
inserted = record {
  bits = content-case with_one.words
      (state_after 64 3 (content (0 ∷ [])) (command.Insert 1 ∷ [])) refl
      (λ p past. rw (positions-past 64 3 1 p (lit< tt) (lit< tt) past)
      (content-past (0 ∷ []) p past));
  answers = refl;
  shape = record { words = refl; hashes = refl };
  hasher = refl;
}

-- and its reply was written
pub carried : Carried zeros with_one (Some []) (Some (codes "false\n")) (Insert 1 ∷ [])
carried = record { given = false ∷ []; filter = inserted; text = refl }

-- another reply may not be written
pub carried-text : (lines : List Line) → lines ≡ Insert 1 ∷ []
    → Carried zeros with_one (Some []) (Some (codes "true\n")) lines → ⊥
unfolding chain are_in content
carried-text lines is did =
    let given : did.given ≡ false ∷ [] = did.filter.answers
    ∙ ap (λ l. replies 64 3 (content (0 ∷ [])) (operations l)) is in
    let text : codes "true\n" ≡ codes "false\n" = rw (is, given) at did.text in
    cc

-- the filter may not stay as it was
pub carried-bits : (lines : List Line) → lines ≡ Insert 1 ∷ []
    → Carried zeros zeros (Some []) (Some (codes "false\n")) lines → ⊥
unfolding content positions chain
carried-bits lines is did =
    both_ways (content (0 ∷ []) 0) refl
    (did.filter.bits 0 ∙ ap (λ l. state_after 64 3 (content (0 ∷ [])) (operations l) 0) is)
