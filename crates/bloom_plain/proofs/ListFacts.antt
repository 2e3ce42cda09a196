-- Lists of commands, at values from outside: for each definition that public clauses cite a case
-- that holds and cases as near as can be that don't. With one hash, hash 0 has position 0.
use Rattle.std.proofs.Common.{◌≡◌, ℕ, true, false, List, [], ◌∷◌, map, Bor, refl, arith, lit<}
use Rattle.bloom_plain.proofs.Common.{chain, content, state_after, positions, are_in, Filter, CarriesOut}
use Rattle.bloom_parts.specs.Operations as operation
use Rattle.bloom_plain.specs.CommandOf.{operation_of, Fits}
use Rattle.bloom_plain.specs.declared.bloom.command.Command.{Command}
use Rattle.bloom_plain.specs.declared.bloom.command.Command.TheVariants.{Insert, Contains, Clear, Union, Intersect}
use Rattle.bloom_plain.proofs.CaseLemmas.{content-case, content-past, positions-past}
use Rattle.bloom_plain.proofs.FilterFacts.{filter}

-- a reference to a filter
abbrev lent : Filter ℕ → Bor (Filter ℕ)
lent f = record { ref_ptr = (0, 0); now = f }

-- a reference to a filter of word 6
abbrev pub six : Bor (Filter ℕ)
six = lent (filter (6 ∷ []) 1 8)

-- a reference to a filter of word 8
abbrev pub eight : Bor (Filter ℕ)
eight = lent (filter (8 ∷ []) 1 9)

-- a filter of one word and one hash, under hasher 7
abbrev pub one_hash : ℕ → Filter ℕ
one_hash word = filter (word ∷ []) 1 7

-- a list intersects with 6, inserts hash 0, unites with 8, and looks hash 0 up
abbrev pub commands : List (Command ℕ)
commands = Intersect six ∷ Insert 0 ∷ Union eight ∷ Contains 0 ∷ []

-- a command stands for the operation of its name, with the content of the filter that it names
operation_of-cases : (map operation_of commands
    ≡ operation.Intersect (content (6 ∷ [])) ∷ operation.Insert 0
    ∷ operation.Union (content (8 ∷ [])) ∷ operation.Contains 0 ∷ [])
    × (operation_of {S = ℕ} Clear ≡ operation.Clear)
operation_of-cases = (refl, refl)

-- the list makes 4 of 5, then 5, and then 13, and replies to the insert and to the look-up
pub carried_out : CarriesOut (one_hash 5) (map operation_of commands) (one_hash 13)
    (false ∷ true ∷ [])
unfolding content positions chain are_in
carried_out = record {
  bits = content-case (13 ∷ []) (state_after 64 1 (content (5 ∷ [])) (map operation_of commands))
      refl
      (λ p past. rw (content-past (8 ∷ []) p past)
      (rw (positions-past 64 1 0 p (lit< tt) (lit< tt) past)
      (rw (content-past (6 ∷ []) p past) refl)));
  answers = refl;
  shape = record { words = refl; hashes = refl };
  hasher = refl;
}

-- each reply is the look-up just before its command, a union has none, no command is left out or
-- moved, and shape and hasher stay
carries_out-cases :
    (CarriesOut (one_hash 5) (map operation_of commands) (one_hash 13) (true ∷ true ∷ []) → ⊥)
    × (CarriesOut (one_hash 5) (map operation_of commands) (one_hash 13)
    (false ∷ true ∷ true ∷ []) → ⊥)
    × (CarriesOut (one_hash 5) (map operation_of commands) (one_hash 5) (false ∷ true ∷ []) → ⊥)
    × (CarriesOut (one_hash 5) (map operation_of commands) (one_hash 12) (false ∷ true ∷ []) → ⊥)
    × (CarriesOut (one_hash 5) (map operation_of commands) (filter (13 ∷ 0 ∷ []) 1 7)
    (false ∷ true ∷ []) → ⊥)
    × (CarriesOut (one_hash 5) (map operation_of commands) (filter (13 ∷ []) 1 8)
    (false ∷ true ∷ []) → ⊥)
unfolding content positions chain are_in
carries_out-cases = (
  λ did. let wrong : true ∷ true ∷ [] ≡ false ∷ true ∷ [] = did.answers in cc,
  λ did. let wrong : false ∷ true ∷ true ∷ [] ≡ false ∷ true ∷ [] = did.answers in cc,
  λ did. let wrong : false ≡ true = did.bits 3 in cc,
  λ did. let wrong : false ≡ true = did.bits 0 in cc,
  λ did. omega (arith, did.shape.words),
  λ did. omega (arith, did.hasher),
)

-- the filter that a command names has as many words and hashes as this one
fits-cases : Fits (one_hash 5) Clear × Fits (one_hash 5) (Union eight)
    × Fits (one_hash 5) (Intersect six)
    × (Fits (one_hash 5) (Union (lent (filter (6 ∷ 0 ∷ []) 1 8))) → ⊥)
    × (Fits (one_hash 5) (Union (lent (filter (6 ∷ []) 2 8))) → ⊥)
    × (Fits (one_hash 5) (Intersect (lent (filter (6 ∷ 0 ∷ []) 1 8))) → ⊥)
    × (Fits (one_hash 5) (Intersect (lent (filter (6 ∷ []) 2 8))) → ⊥)
fits-cases = (
  tt,
  record { words = refl; hashes = refl },
  record { words = refl; hashes = refl },
  λ fits. omega (arith, fits.words),
  λ fits. omega (arith, fits.hashes),
  λ fits. omega (arith, fits.words),
  λ fits. omega (arith, fits.hashes),
)
