-- The laws of filters and of builders, each used at filters, hashes and lists that differ where
-- they may. The laws of combinations are in SetFacts.
use Rattle.std.proofs.Common.{◌≡◌, ◌↔◌, ◌*◌, ◌^◌, ◌<◌, ℕ, true, false, ◌&&◌, [], ◌∷◌, map, refl, sym, ap, lit<, lit≤}
use Rattle.std.specs.Prelude.{IsTrue}
use Rattle.bloom_plain.proofs.Common.{eqb-true, chain, Insert, Contains, Union, Intersect, positions, are_in, Start, RateStart, same_start, same_rate_start, operation_of, Filter, SameShape, anywhere, contains, same_filter, CarriesOut, InsertsAll}
use Rattle.std.proofs.lemmas.List.Elements.{All-from_recursion}
use Rattle.bloom_parts.specs.Content.{content, AreWords}
use Rattle.bloom_parts.specs.Rates.{num_of, den_of}
use Rattle.bloom_plain.specs.Laws.{InsertLaw, KeptByInsertLaw, KeptByUnionLaw, Spares, KeptByListLaw, KeptByInsertsLaw, IntersectionLaw, UnionLaw, ClearLaw, SameContent, Rebuilds, RebuiltLaw, EqualityLaw, EqualContentLaw, EqualStartsLaw, EqualRateStartsLaw, JoinedListsLaw, FoundLaw, FoundAfterInsertsLaw, FoundAfterReplayLaw, UnitedInsertsLaw}
use Rattle.bloom_plain.specs.declared.bloom.command.Command.TheVariants as command
use Rattle.bloom_plain.proofs.BuilderFacts.{start, half, quarters}
use Rattle.bloom_plain.proofs.FilterFacts.{filter, one_word, shape}
use Rattle.bloom_plain.proofs.InsertFacts.{inserts-first, inserts-rest, inserts-zero, inserts_all}
use Rattle.bloom_plain.proofs.ListFacts.{one_hash, six, eight, commands, carried_out}
use Rattle.bloom_plain.proofs.ReplyLemmas.{carries_out-insert, carries_out-contains}
use Rattle.bloom_plain.proofs.SetFacts as set

-- a hash whose first position among 64 bits is 2
abbrev at_two : ℕ
at_two = 576460752303423488

-- hash 0 is contained where position 0 is set
zero-found : contains anywhere (one_word 1) 0 ≡ true
unfolding content chain are_in
zero-found = refl

-- an insert of hash 1 answers what was found before, and afterwards the hash is contained
from_insert : InsertLaw anywhere ℕ
    → (false ≡ contains anywhere (one_word 1) 1) × (contains anywhere (one_word 1048577) 1 ≡ true)
from_insert law = law (one_word 1) (one_word 1048577) 1 false inserts-rest

-- an insert of hash 1 keeps hash 0 contained
from_kept_by_insert : KeptByInsertLaw anywhere ℕ → contains anywhere (one_word 1048577) 0 ≡ true
from_kept_by_insert law = law (one_word 1) (one_word 1048577) 1 0 false inserts-rest zero-found

-- and so does a list of that insert
from_kept_by_inserts : KeptByInsertsLaw ℕ → contains anywhere (one_word 1048577) 0 ≡ true
from_kept_by_inserts law =
    law (one_word 1) (one_word 1048577) (1 ∷ []) 0
    (false ∷ [], carries_out-insert (one_word 1) 1 (one_word 1048577) false inserts-rest) zero-found

-- a union of 5 with 6 keeps hash 0 contained, which 6 doesn't contain
from_kept_by_union : KeptByUnionLaw anywhere ℕ → contains anywhere (one_word 7) 0 ≡ true
unfolding content chain are_in
from_kept_by_union law = law (one_word 5) set.six (one_word 7) 0 set.unites-cases.0 refl

-- an intersection with 6 spares position 2
spares-two : Spares (positions 64 1 at_two) (Intersect (content (6 ∷ [])))
unfolding content positions chain
spares-two p is = ap (content (6 ∷ [])) (eqb-true p 2 is)

-- a list of four commands, of which one intersects with 6, keeps a hash of position 2 contained
from_kept_by_list : KeptByListLaw ℕ → contains anywhere (one_hash 13) at_two ≡ true
unfolding content positions chain are_in
from_kept_by_list law =
    law (one_hash 5) (one_hash 13) (map operation_of commands) at_two (false ∷ true ∷ [])
    carried_out
    (All-from_recursion (Spares (positions 64 1 at_two)) (map operation_of commands)
    (spares-two, (tt, (tt, (tt, tt))))) refl

-- the intersection of 5 and 6 contains hash 0 exactly if both do
from_intersection : IntersectionLaw anywhere ℕ
    → contains anywhere (one_word 4) 0
    ≡ (contains anywhere (one_word 5) 0 && contains anywhere set.six 0)
from_intersection law =
    law (one_word 5) set.six (one_word 4) 0 (record { words = refl; hashes = refl })
    set.intersects-cases.0

-- a union contains hash 0, which the first filter contained or the other
from_union : UnionLaw anywhere ℕ → (contains anywhere (one_word 7) 0 ≡ true)
    × (contains anywhere (filter (7 ∷ []) 2 8) 0 ≡ true)
unfolding content chain are_in
from_union law = (
  law (one_word 5) set.six (one_word 7) 0 (record { words = refl; hashes = refl })
      set.unites-cases.0 refl,
  law set.six (one_word 5) (filter (7 ∷ []) 2 8) 0 (record { words = refl; hashes = refl })
      (set.unites-words 6 5 7 8 7 refl) refl,
)

-- a cleared filter doesn't contain hash 1
from_clear : ClearLaw anywhere ℕ → contains anywhere (one_word 0) 1 ≡ false
from_clear law = law (one_word 5) (one_word 0) 1 (lit≤ tt) set.clears

-- an insert of hash 0 and a look-up of it make one list
from_joined : JoinedListsLaw ℕ
    → CarriesOut (one_word 0) (Insert 0 ∷ Contains 0 ∷ []) (one_word 1) (false ∷ true ∷ [])
from_joined law =
    law (one_word 0) (one_word 1) (one_word 1) (Insert 0 ∷ []) (Contains 0 ∷ []) (false ∷ [])
    (true ∷ []) (carries_out-insert (one_word 0) 0 (one_word 1) false inserts-zero)
    (carries_out-contains (one_word 1) 0 true (sym zero-found))

-- hash 0 is found that was inserted after an intersection and before a union
from_found : FoundLaw ℕ → contains anywhere (one_hash 13) 0 ≡ true
from_found law =
    law (one_hash 5) (one_hash 13) (Intersect (content (6 ∷ [])) ∷ [])
    (Union (content (8 ∷ [])) ∷ Contains 0 ∷ []) 0 (false ∷ true ∷ []) carried_out
    (All-from_recursion (Spares (positions 64 1 0)) (Union (content (8 ∷ [])) ∷ Contains 0 ∷ [])
    (tt, (tt, tt)))

-- and so it is after `replay`
from_found_after_replay : FoundAfterReplayLaw ℕ → contains anywhere (one_hash 13) 0 ≡ true
from_found_after_replay law =
    law (one_hash 5) (one_hash 13) (command.Intersect six ∷ [])
    (command.Union eight ∷ command.Contains 0 ∷ []) 0 (false ∷ true ∷ []) carried_out
    (All-from_recursion (λ c. Spares (positions 64 1 0) (operation_of c))
    (command.Union eight ∷ command.Contains 0 ∷ []) (tt, (tt, tt)))

-- the first and the last of two inserted hashes are contained after both
from_found_after_inserts : FoundAfterInsertsLaw ℕ → (contains anywhere (one_word 1048577) 1 ≡ true)
    × (contains anywhere (one_word 1048577) 0 ≡ true)
from_found_after_inserts law = (
  law (one_word 0) (one_word 1048577) [] (0 ∷ []) 1 inserts_all,
  law (one_word 0) (one_word 1048577) (1 ∷ []) [] 0 inserts_all,
)

-- the union of a filter with hash 0 and one with hash 1 is what inserts of both make
from_united_inserts : UnitedInsertsLaw ℕ
    → InsertsAll (one_word 0) (0 ∷ 1 ∷ []) (one_word 1048577)
unfolding content
from_united_inserts law =
    law (one_word 0) (one_word 1) (one_word 1048577) (one_word 1048577) (0 ∷ []) (1 ∷ [])
    (false ∷ [], carries_out-insert (one_word 0) 0 (one_word 1) false inserts-zero)
    (false ∷ [], carries_out-insert (one_word 0) 1 (one_word 1048577) false inserts-first)
    (set.unites-words 1 1048577 1048577 7 7 refl)

-- what is made of the parts of a filter of no hashes or one equals it and answers alike
from_rebuilt : RebuiltLaw ℕ → (made : Filter ℕ) → Rebuilds (one_word 5) made
    → (made ≡ one_word 5)
    × ((hash : ℕ) → contains anywhere made hash ≡ contains anywhere (one_word 5) hash)
from_rebuilt law made did = law (one_word 5) made (shape 5) did

-- a filter equals one of word 5 and two hashes exactly if it has these, whatever its hasher
from_equality : EqualityLaw ℕ → IsTrue (same_filter (one_word 5) (filter (5 ∷ []) 2 8))
    × ((g : Filter ℕ) → IsTrue (same_filter (one_word 5) g) ↔ ((5 ∷ [] ≡ g.words) × (2 ≡ g.hashes)))
from_equality law =
    ((law (one_word 5) (filter (5 ∷ []) 2 8)).1 (refl, refl), λ g. law (one_word 5) g)

-- filters of one shape, one of which has word 5, are equal exactly if their contents are
from_equal_content : EqualContentLaw ℕ → (g : Filter ℕ) → AreWords g.words
    → SameShape (one_word 5) g → IsTrue (same_filter (one_word 5) g) ↔ SameContent (one_word 5) g
from_equal_content law g fit same =
    law (one_word 5) g (All-from_recursion (λ w. w < 2 ^ 64) (5 ∷ []) (lit< tt, tt)) fit same

-- builders equal one of word 5 exactly if they have this word, whatever their hashers
from_equal_starts : EqualStartsLaw ℕ → (b : Start ℕ)
    → IsTrue (same_start (start (5 ∷ []) 7) b) ↔ (5 ∷ [] ≡ b.words)
from_equal_starts law b = law (start (5 ∷ []) 7) b

-- builders at one half and at two quarters are equal, and any of a den that is twice its num
from_equal_rate_starts : EqualRateStartsLaw ℕ → IsTrue (same_rate_start half quarters)
    × ((b : RateStart ℕ)
    → IsTrue (same_rate_start half b) ↔ (1 * den_of b.rate ≡ num_of b.rate * 2))
from_equal_rate_starts law = ((law half quarters).1 refl, λ b. law half b)
