-- The hash of an item, with hashers that hold a number or some bytes, at values worked out by hand:
-- for each definition that public clauses cite a case that holds, or one that doesn't beside it.
use Rattle.std.proofs.Common.{◌≡◌, ℕ, ◌+◌, ◌*◌, List, [], ◌∷◌, ◌++◌, length, Bor, refl, sym, ap, ◌∙◌, append-nil, append_assoc, arith}
use Rattle.std.specs.List.{fold, concat}
use Rattle.std.specs.declared.hash.BuildHasher as builder
use Rattle.std.specs.declared.hash.Hasher as hasher
use Rattle.bloom_plain.specs.SourceHash.{hash_by, source_hash_of, lent_hash_of, IsFunctionOfBytes}

-- a hasher that takes ten times its number and as many more as bytes are written, and answers one
-- more
abbrev in_tens : hasher.Ghosts ℕ
in_tens = record { write = λ held bytes. held * 10 + length bytes; finish = λ held. held + 1 }

-- a builder that builds a hasher of twice its number
abbrev doubled : builder.Ghosts ℕ ℕ
doubled = record { build_hasher = λ build. 2 * build }

-- an item that writes itself twice, and then once more
abbrev thrice : ℕ → List (List ℕ)
thrice item = (item ∷ item ∷ []) ∷ (item ∷ []) ∷ []

-- writes of two bytes and of one take 5 to 521, and no write leaves it
hash_by-cases : (hash_by in_tens 5 ((8 ∷ 9 ∷ []) ∷ (8 ∷ []) ∷ []) ≡ 522)
    × (hash_by in_tens 5 [] ≡ 6)
hash_by-cases = (refl, refl)

-- a builder of 3 builds a hasher of 6; an item that is lent has the source hash of its value
source_hash_of-cases : (source_hash_of doubled in_tens thrice 3 8 ≡ 622)
    × ((item : Bor ℕ) → item.now ≡ 8 → lent_hash_of doubled in_tens thrice 3 item ≡ 622)
source_hash_of-cases = (refl, λ item is. ap (source_hash_of doubled in_tens thrice 3) is)

-- a hasher that keeps the bytes written, and answers how many there are
abbrev kept : hasher.Ghosts (List ℕ)
kept = record { write = λ held bytes. held ++ bytes; finish = length }

-- a hasher that counts its writes
abbrev counts : hasher.Ghosts ℕ
counts = record { write = λ held bytes. held + 1; finish = λ held. held }

-- writes one after the other write their bytes joined
written : (held : List ℕ) (writes : List (List ℕ))
    → fold (λ held bytes. held ++ bytes) held writes ≡ held ++ concat writes
written held [] = sym (append-nil held)
written held (bytes ∷ writes) =
    written (held ++ bytes) writes ∙ append_assoc held bytes (concat writes)

-- a number of bytes is a function of them, and a number of writes is none
is_function_of_bytes-cases : IsFunctionOfBytes kept [] length
    × ((f : List ℕ → ℕ) → IsFunctionOfBytes counts 0 f → ⊥)
is_function_of_bytes-cases = (
  λ writes. ap length (written [] writes),
  λ f is. let wrong : 0 ≡ 1 = is [] ∙ sym (is ([] ∷ [])) in omega (arith, wrong),
)
