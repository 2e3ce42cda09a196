-- The bytes of a file, and its seal, at values from outside: a wrong constant in a definition fails
-- here. The files are those of `Cases`; a program in Python made the seals.
use Rattle.std.proofs.Common.{◌≡◌, ◌^◌, ◌<◌, [], ◌∷◌, refl, arith}
use Rattle.bloom_files.proofs.Common.{All-from_recursion, sip, start, round, absorb, answer, whole_words, rest, Head, Whole, Lines, numbers_in, right_seal}
use Rattle.bloom_files.specs.File.{FitsWords, HasOwnKey, bytes_of, head_numbers, head_of, seal_of}
use Rattle.bloom_files.proofs.Cases.{crabs, filter, head_with, its_head, its_seal, line_head, line_words, low}

-- the lowest byte of a number comes first, and the first number before the second
bytes : (bytes_of (0x0807_0605_0403_0201 ∷ 9 ∷ [])
    ≡ 1 ∷ 2 ∷ 3 ∷ 4 ∷ 5 ∷ 6 ∷ 7 ∷ 8 ∷ 9 ∷ 0 ∷ 0 ∷ 0 ∷ 0 ∷ 0 ∷ 0 ∷ 0 ∷ []) × (bytes_of [] ≡ [])
unfolding bytes_of
bytes = (refl, refl)

-- the mark, the hashes, the words and the key come first, then the seal, the number of the layout
-- and 0; the mark is `fbloom`, 0 and `1`
numbers : (head_numbers its_head 77
    ≡ 0x3100_6d6f_6f6c_6266 ∷ 3 ∷ 1 ∷ 0x0706_0504_0302_0100 ∷ 0x0f0e_0d0c_0b0a_0908
    ∷ 77 ∷ 0 ∷ 0 ∷ [])
    × (numbers_in Lines line_head 77
    ≡ 0x3100_6d6f_6f6c_6266 ∷ 3 ∷ 8 ∷ 0x0706_0504_0302_0100 ∷ 0x0f0e_0d0c_0b0a_0908
    ∷ 77 ∷ 1 ∷ 0 ∷ [])
    × (bytes_of (head_numbers its_head 0x5d9d_8dee_d40a_1ba8) ≡ head_with its_seal (low 0) (low 0))
unfolding bytes_of
numbers = (refl, refl, refl)

-- the head of two words
abbrev of_two : Head
of_two = record { num_hashes = 2; num_words = 2; k0 = 5; k1 = 6 }

-- the seal of the file of one word, of its head alone, and of two words in either order
seals : (seal_of its_head (0x1080_0080_4000_1400 ∷ []) ≡ 0x5d9d_8dee_d40a_1ba8)
    × (seal_of its_head [] ≡ 0x81c8_a5c6_2159_b46b)
    × (seal_of of_two (1 ∷ 0x8000_0000_0000_0000 ∷ []) ≡ 0xdae2_f0c7_09e0_6c64)
    × (seal_of of_two (0x8000_0000_0000_0000 ∷ 1 ∷ []) ≡ 0xfb54_f7f9_3fbb_0c76)
unfolding bytes_of sip start round absorb answer whole_words rest
seals = (refl, refl, refl, refl)

-- the seal of the file of one line, and of the same words where they are no lines
line-seals : (right_seal Lines line_head line_words ≡ 0xf4fb_88c6_d0f2_93cb)
    × (right_seal Whole line_head line_words ≡ 0xd607_fc21_b403_85d3)
unfolding bytes_of sip start round absorb answer whole_words rest
line-seals = (refl, refl)

-- the head of a filter tells its hashes, words and key
heads : (head_of crabs ≡ its_head)
    × (head_of (filter (7 ∷ 8 ∷ []) 5 1 2)
    ≡ record { num_hashes = 5; num_words = 2; k0 = 1; k1 = 2 })
heads = (refl, refl)

-- the greatest numbers of 64 bits fit, and none of 65 bits does
fits : FitsWords (filter (0xffff_ffff_ffff_ffff ∷ []) 3
    0xffff_ffff_ffff_ffff 0xffff_ffff_ffff_ffff)
    × (FitsWords (filter (0 ∷ 0x1_0000_0000_0000_0000 ∷ []) 3 0 0) → ⊥)
    × (FitsWords (filter (0 ∷ []) 3 0x1_0000_0000_0000_0000 0) → ⊥)
    × (FitsWords (filter (0 ∷ []) 3 0 0x1_0000_0000_0000_0000) → ⊥)
fits = (
  record {
    words = All-from_recursion (λ word. word < 2 ^ 64) (0xffff_ffff_ffff_ffff ∷ [])
        (omega arith, tt);
    low = omega arith;
    high = omega arith;
  },
  λ is. omega (arith, is.words 1 0 (omega arith)),
  λ is. omega (arith, is.low),
  λ is. omega (arith, is.high),
)

-- the hashers of the filter have its key, and took in nothing
own_key : HasOwnKey crabs
    × (HasOwnKey (record {
      words = 0 ∷ [];
      hashes = 1;
      hasher = record {
        hasher = record { low = 0; high = 0; words = start 0 0; held = 7 ∷ []; count = 1 };
      };
    }) → ⊥)
unfolding whole_words rest
own_key = (
  record { low = refl; high = refl; words = refl; held = refl; count = refl },
  λ is. omega (arith, is.count),
)
