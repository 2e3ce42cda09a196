-- Hashers at values from outside: for each definition that public clauses cite a case that holds
-- and cases as near as can be that don't. Hashes were made by the crate siphasher 0.3.10
-- (`SipHasher13`), under the key bytes 0, 1, .., 15 and under a key that was drawn.
use Rattle.std.proofs.Common.{◌≡◌, ℕ, zero, suc, List, [], ◌∷◌, fold, length, slice_index, refl, ap, arith, lit<}
use Rattle.bloom_parts.specs.declared.hasher.CloneBuildHasher.{CloneBuildHasher}
use Rattle.bloom_parts.specs.declared.hasher.sip.RandomDefaultHasher.{RandomDefaultHasher}
use Rattle.bloom_parts.proofs.Common.{AreBytes, IsKept, SipState, write, finish, Hashed, Takes, Answers}
use Rattle.bloom_parts.specs.HasherWords.{IsHashing}
use Rattle.bloom_parts.specs.Keys.{HasKey, key_of, key_low, key_high}
use Rattle.bloom_parts.specs.Laws.{HashesPieces, CuttingLaw, JoiningLaw}
use Rattle.bloom_parts.specs.Sip.{start, round, absorb, answer, whole_words, rest, sip}
use Rattle.bloom_parts.specs.States.{state_words, of_words}
use Rattle.bloom_parts.proofs.Cases.{keyed, counting, after_one}
use Rattle.bloom_parts.proofs.HashedLemmas.{takes, answers}

-- no bytes, fifteen, and sixteen under a drawn key
sip-cases : (sip 0x0706_0504_0302_0100 0x0f0e_0d0c_0b0a_0908 [] ≡ 0xabac_0158_050f_c4dc)
    × (sip 0x0706_0504_0302_0100 0x0f0e_0d0c_0b0a_0908
    (3 ∷ 10 ∷ 17 ∷ 24 ∷ 31 ∷ 38 ∷ 45 ∷ 52 ∷ 59 ∷ 66 ∷ 73 ∷ 80 ∷ 87 ∷ 94 ∷ 101 ∷ [])
    ≡ 0x57c2_a248_9d64_ff8f)
    × (sip 0x13e9_af8a_fe6d_2007 0x6c0f_6b9c_16d8_bb7a
    (85 ∷ 70 ∷ 43 ∷ 235 ∷ 109 ∷ 100 ∷ 2 ∷ 81 ∷ 214 ∷ 144 ∷ 49 ∷ 206 ∷ 65 ∷ 22 ∷ 186 ∷ 127 ∷ [])
    ≡ 0x15c6_f4e8_996a_1aa9)
unfolding sip start round absorb answer whole_words rest
sip-cases = (refl, refl, refl)

-- a hasher that has taken in nothing: neither word of its key, its state, what it holds, nor the
-- number of its bytes may be another
hashed-cases : Hashed (keyed 0 0) 0 0 []
    × (Hashed (keyed 0 0) 1 0 [] → ⊥)
    × (Hashed (keyed 0 0) 0 1 [] → ⊥)
    × (Hashed (record (keyed 0 0) { words = start 0 1 }) 0 0 [] → ⊥)
    × (Hashed (record (keyed 0 0) { held = 0 ∷ [] }) 0 0 [] → ⊥)
    × (Hashed (record (keyed 0 0) { count = 1 }) 0 0 [] → ⊥)
unfolding start whole_words rest
hashed-cases = (
  record { low = refl; high = refl; words = refl; held = refl; count = refl },
  λ is. omega (arith, is.low),
  λ is. omega (arith, is.high),
  λ is. omega (arith, ap (λ s. s.v1) is.words),
  λ is. omega (arith, ap length is.held),
  λ is. omega (arith, is.count),
)

hashed-one : Hashed after_one 0 0 (7 ∷ [])
unfolding whole_words rest
hashed-one = record { low = refl; high = refl; words = refl; held = refl; count = refl }

hashed-counting : Hashed counting 0x0706_0504_0302_0100 0x0f0e_0d0c_0b0a_0908 []
unfolding whole_words rest
hashed-counting = record { low = refl; high = refl; words = refl; held = refl; count = refl }

-- seven bytes and ten more are two words, taken in one after the other, and one byte that is left
write-case : write (record (keyed 0 0) { held = 1 ∷ 0 ∷ 0 ∷ 0 ∷ 0 ∷ 0 ∷ 0 ∷ []; count = 255 })
    (2 ∷ 3 ∷ 0 ∷ 0 ∷ 0 ∷ 0 ∷ 0 ∷ 0 ∷ 0 ∷ 4 ∷ [])
    ≡ record (keyed 0 0) {
      words = absorb (absorb (start 0 0) 0x0200_0000_0000_0001) 3;
      held = 4 ∷ [];
      count = 9;
    }
unfolding write whole_words rest
write-case = refl

-- after the byte 7: it isn't two bytes, nor an 8, and what was taken in before it counts
takes-cases : Takes (keyed 0 0) after_one (7 ∷ [])
    × (Takes (keyed 0 0) after_one (7 ∷ 7 ∷ []) → ⊥)
    × (Takes (keyed 0 0) after_one (8 ∷ []) → ⊥)
    × (Takes after_one (record after_one { count = 2 }) (7 ∷ []) → ⊥)
    × (Takes counting after_one (7 ∷ []) → ⊥)
unfolding start write whole_words rest
takes-cases = (
  takes (keyed 0 0) after_one (7 ∷ []) refl,
  λ taken. omega (arith, (taken 0 0 [] hashed-cases.0).count),
  λ taken. omega (arith, ap (λ held. slice_index held 0) (taken 0 0 [] hashed-cases.0).held),
  λ taken. omega (arith, ap (λ held. slice_index held 1) (taken 0 0 (7 ∷ []) hashed-one).held),
  λ taken. omega (arith, (taken _ _ [] hashed-counting).low),
)

-- the hash of the bytes that were taken in, and no other, is the answer
answers-cases : Answers counting 0xabac_0158_050f_c4dc
    × (Answers counting 0xabac_0158_050f_c4dd → ⊥)
    × ((hash : ℕ) → Answers after_one hash → hash ≡ sip 0 0 (7 ∷ []))
unfolding finish sip start round absorb answer whole_words rest
answers-cases = (
  λ k0 k1 bytes is. answers counting k0 k1 bytes is,
  λ told. omega (arith, told _ _ [] hashed-counting),
  λ hash told. told 0 0 (7 ∷ []) hashed-one,
)

-- two bytes in one piece have the hash that they have in two
from_cutting : CuttingLaw → (hash : ℕ) → HashesPieces 0 0 ((7 ∷ 8 ∷ []) ∷ []) hash
    → hash ≡ 0xcef0_aac2_190e_4bfa
unfolding finish start round absorb answer write whole_words rest
from_cutting law hash is =
    law 0 0 ((7 ∷ 8 ∷ []) ∷ []) ((7 ∷ []) ∷ (8 ∷ []) ∷ []) hash 0xcef0_aac2_190e_4bfa is
    (record {
      fresh = keyed 0 0;
      last = after_two;
      begins = hashed-cases.0;
      taken =
          (after_one, takes-cases.0, (after_two, takes after_one after_two (8 ∷ []) refl, refl));
      answers = λ k0 k1 bytes taken. answers after_two k0 k1 bytes taken;
    }) refl
  where
    after_two : SipState
    after_two = record after_one { held = 7 ∷ 8 ∷ []; count = 2 }

-- the law of joining, at two pieces of a byte each
from_joining : JoiningLaw → (hasher : SipState) (k0 k1 : ℕ) → Hashed hasher k0 k1 []
    → finish (fold write hasher ((7 ∷ []) ∷ (8 ∷ []) ∷ [])) ≡ sip k0 k1 (7 ∷ 8 ∷ [])
from_joining law hasher k0 k1 is = law hasher k0 k1 ((7 ∷ []) ∷ (8 ∷ []) ∷ []) is

-- the two words of the key bytes 0 to 15
abbrev key_bytes : List ℕ
key_bytes = 0 ∷ 1 ∷ 2 ∷ 3 ∷ 4 ∷ 5 ∷ 6 ∷ 7 ∷ 8 ∷ 9 ∷ 10 ∷ 11 ∷ 12 ∷ 13 ∷ 14 ∷ 15 ∷ []

key-words : (key_low key_bytes ≡ 0x0706_0504_0302_0100)
    × (key_high key_bytes ≡ 0x0f0e_0d0c_0b0a_0908)
key-words = (refl, refl)

-- the builder of this hasher
abbrev builder : SipState → CloneBuildHasher RandomDefaultHasher
builder hasher = record { hasher = hasher }

-- the words of a key have their order, and no byte was taken in
has_key-cases : HasKey (builder (keyed 1 2)) 1 2
    × (HasKey (builder (keyed 1 2)) 2 1 → ⊥)
    × (HasKey (builder after_one) 0 0 → ⊥)
unfolding whole_words rest
has_key-cases = (
  record { low = refl; high = refl; words = refl; held = refl; count = refl },
  λ is. omega (arith, is.low),
  λ is. omega (arith, is.count),
)

key_of-case : key_of (builder (keyed 1 2)) ≡ (1, 2)
key_of-case = refl

-- 255 is a byte, and 256 is none
are_bytes-cases : AreBytes (255 ∷ []) × (AreBytes (0 ∷ 256 ∷ []) → ⊥)
are_bytes-cases = (greatest, λ are. omega (arith, are 1))
  where
    greatest : AreBytes (255 ∷ [])
    greatest zero = lit< tt
    greatest (suc i) = omega arith

-- a hasher keeps at most seven bytes that count, zeros behind them, and a number below 256
is_kept-cases : IsKept (1 ∷ 2 ∷ 3 ∷ 4 ∷ 5 ∷ 6 ∷ 7 ∷ 0 ∷ []) 255
    × (IsKept (1 ∷ 2 ∷ 3 ∷ 4 ∷ 0 ∷ 0 ∷ 0 ∷ 0 ∷ []) 11 → ⊥)
    × (IsKept (0 ∷ 0 ∷ 0 ∷ 0 ∷ 0 ∷ 0 ∷ 0 ∷ 0 ∷ []) 256 → ⊥)
is_kept-cases = (
  record { padding = refl; small = lit< tt },
  λ is. omega (arith, ap (λ buffer. slice_index buffer 3) is.padding),
  λ is. omega (arith, is.small),
)

-- a state has the four words of SipHash in their order
state-words : (state_words (record { v0 = 1; v1 = 2; v2 = 3; v3 = 4 })
    ≡ record { v0 = 1; v1 = 2; v2 = 3; v3 = 4 })
    × (of_words (record { v0 = 1; v1 = 2; v2 = 3; v3 = 4 })
    ≡ record { v0 = 1; v1 = 2; v2 = 3; v3 = 4 })
state-words = (refl, refl)

-- the eight words of a hasher of the key 1 and 2 before the first whole word
abbrev eight : ℕ → ℕ → List ℕ
eight word count =
    1 ∷ 2 ∷ 0x736f_6d65_7073_6574 ∷ 0x646f_7261_6e64_6f6f ∷ 0x6c79_6765_6e65_7260
    ∷ 0x7465_6462_7974_6571 ∷ word ∷ count ∷ []

-- after two bytes, of which the first is the lowest; the number of bytes and both words of the key
-- count, what is no byte was never taken in, and a whole word goes into the state
is_hashing-cases : IsHashing 1 2 (3 ∷ 4 ∷ []) (eight 0x0403 2)
    × (IsHashing 1 2 (3 ∷ 4 ∷ []) (eight 0x0304 2) → ⊥)
    × (IsHashing 1 2 (0 ∷ []) (eight 0 0) → ⊥)
    × (IsHashing 3 2 [] (eight 0 0) → ⊥)
    × (IsHashing 1 3 [] (eight 0 0) → ⊥)
    × (IsHashing 1 2 (256 ∷ []) (eight 256 1) → ⊥)
    × (IsHashing 1 2 (1 ∷ 2 ∷ 3 ∷ 4 ∷ 5 ∷ 6 ∷ 7 ∷ 8 ∷ 9 ∷ []) (eight 9 9) → ⊥)
unfolding start round absorb whole_words rest
is_hashing-cases = (
  record { small = two_bytes; words = refl },
  λ is. omega (arith, ap (λ words. slice_index words 6) is.words),
  λ is. omega (arith, ap (λ words. slice_index words 7) is.words),
  λ is. omega (arith, ap (λ words. slice_index words 0) is.words),
  λ is. omega (arith, ap (λ words. slice_index words 1) is.words),
  λ is. omega (arith, is.small 0),
  λ is. omega (arith, ap (λ words. slice_index words 2) is.words),
)
  where
    two_bytes : AreBytes (3 ∷ 4 ∷ [])
    two_bytes zero = lit< tt
    two_bytes (suc zero) = lit< tt
    two_bytes (suc (suc i)) = lit< tt
