-- The hash that a sieve has of a line: a case that holds, and the nearest that doesn't.
use Rattle.std.proofs.Common.{◌≡◌, ℕ, List, sym, ◌∙◌, arith}
use Rattle.std.specs.declared.hash.Hasher as hasher
use Rattle.duplicates_engine.specs.Plain.{IsLineHash, line_hash}

-- where a hasher of this builder returns 1 of a line, its hash is 1, and isn't 2
is_hash : {H : Type 0} (h : hasher.Ghosts H) (build : ℕ → H) (line : List ℕ)
    → line_hash h (build 7) line ≡ 1
    → IsLineHash h build 7 line 1 × (IsLineHash h build 7 line 2 → ⊥)
is_hash h build line one =
    (sym one, λ two. let wrong : 2 ≡ 1 = two ∙ one in omega (arith, wrong))
