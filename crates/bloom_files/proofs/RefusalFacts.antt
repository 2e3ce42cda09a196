-- Why a file is refused, at the borders of each reason and where two meet.
use Rattle.std.proofs.Common.{◌≡◌, ℕ, List, [], ◌∷◌, ◌++◌, Some, None, refl}
use Rattle.bloom_files.proofs.Common.{sip, start, round, absorb, answer, whole_words, rest, NotAFilter, Version, HashCount, EmptyWords, TooManyWords, Cut, TooLong, Reserved, Blocked, NotBlocked, PartOfALine, Seal, Whole, Lines}
use Rattle.bloom_files.specs.FileLayouts.{head_refusal_in, refusal_in}
use Rattle.bloom_files.specs.FileRefusals.{head_in, head_refusal, number_at, whole_head_refusal}
use Rattle.bloom_files.proofs.Cases.{first, head_with, high, its_head, its_seal, its_word, line_body, line_file, line_seal, line_unsealed, low, name, seven, start_with, unsealed, worked}

-- each number stands at its place; one past the end is 0, also where some of its bytes are there
numbers : (number_at worked 1 ≡ 3)
    × (number_at worked 5 ≡ 0x5d9d_8dee_d40a_1ba8)
    × (number_at worked 8 ≡ 0x1080_0080_4000_1400)
    × (number_at worked 9 ≡ 0)
    × (number_at (1 ∷ 1 ∷ 1 ∷ 1 ∷ 1 ∷ 1 ∷ 1 ∷ []) 0 ≡ 0)
    × (head_in worked ≡ its_head)
unfolding whole_words
numbers = (refl, refl, refl, refl, refl, refl)

-- a file begins with its name and version, which is reported behind the name
mark : (head_refusal first ≡ None)
    × (head_refusal [] ≡ Some NotAFilter)
    × (head_refusal name ≡ Some NotAFilter)
    × (head_refusal (70 ∷ 98 ∷ 108 ∷ 111 ∷ 111 ∷ 109 ∷ 0 ∷ 49 ∷ []) ≡ Some NotAFilter)
    × (head_refusal (102 ∷ 98 ∷ 108 ∷ 111 ∷ 111 ∷ 109 ∷ 1 ∷ 50 ∷ []) ≡ Some NotAFilter)
    × (head_refusal (name ++ 50 ∷ []) ≡ Some Version)
    × (head_refusal (name ++ 1 ∷ []) ≡ Some Version)
    × (head_refusal (name ++ 50 ∷ low 0) ≡ Some Version)
unfolding whole_words
mark = (refl, refl, refl, refl, refl, refl, refl, refl)

-- there are from 1 to 2^32 - 1 hashes, once all eight bytes of their number are there
hashes : (head_refusal (first ++ seven) ≡ None)
    × (head_refusal (first ++ low 0) ≡ Some HashCount)
    × (head_refusal (first ++ low 1) ≡ None)
    × (head_refusal (first ++ 255 ∷ 255 ∷ 255 ∷ 255 ∷ 0 ∷ 0 ∷ 0 ∷ 0 ∷ []) ≡ None)
    × (head_refusal (first ++ 0 ∷ 0 ∷ 0 ∷ 0 ∷ 1 ∷ 0 ∷ 0 ∷ 0 ∷ []) ≡ Some HashCount)
unfolding whole_words
hashes = (refl, refl, refl, refl, refl)

-- and from 1 to 2^58 - 1 words, which is reported behind the number of hashes
words : (head_refusal (first ++ low 3 ++ seven) ≡ None)
    × (head_refusal (first ++ low 3 ++ low 0) ≡ Some EmptyWords)
    × (head_refusal (first ++ low 3 ++ low 1) ≡ None)
    × (head_refusal (first ++ low 3 ++ 255 ∷ 255 ∷ 255 ∷ 255 ∷ 255 ∷ 255 ∷ 255 ∷ 3 ∷ []) ≡ None)
    × (head_refusal (first ++ low 3 ++ high 4) ≡ Some TooManyWords)
    × (head_refusal (first ++ low 0 ++ low 0) ≡ Some HashCount)
    × (head_refusal (first ++ low 0 ++ high 4) ≡ Some HashCount)
unfolding whole_words
words = (refl, refl, refl, refl, refl, refl, refl)

-- a head is good whatever its seal is; its last two numbers are 0, where the first may be that of
-- lines, which is reported by itself. The first numbers are reported before
whole_head : (whole_head_refusal (head_with (low 1) (low 0) (low 0)) ≡ None)
    × (whole_head_refusal (head_with its_seal (low 1) (low 0)) ≡ Some Blocked)
    × (whole_head_refusal (head_with its_seal (low 2) (low 0)) ≡ Some Reserved)
    × (whole_head_refusal (head_with its_seal (high 1) (low 0)) ≡ Some Reserved)
    × (whole_head_refusal (head_with its_seal (low 1) (low 1)) ≡ Some Reserved)
    × (whole_head_refusal (head_with its_seal (low 0) (high 1)) ≡ Some Reserved)
    × (whole_head_refusal (start_with 0 its_seal (low 2) (low 0)) ≡ Some EmptyWords)
unfolding whole_words
whole_head = (refl, refl, refl, refl, refl, refl, refl)

-- where lines are read their number is wanted, and whole lines of eight words
line_head : (head_refusal_in Lines (start_with 16 line_seal (low 1) (low 0)) ≡ None)
    × (head_refusal_in Lines (start_with 4 line_seal (low 1) (low 0)) ≡ Some PartOfALine)
    × (head_refusal_in Lines (start_with 9 line_seal (low 1) (low 0)) ≡ Some PartOfALine)
    × (head_refusal_in Lines (start_with 7 line_seal (low 0) (low 0)) ≡ Some NotBlocked)
    × (head_refusal_in Lines (start_with 8 line_seal (low 2) (low 0)) ≡ Some Reserved)
    × (head_refusal_in Lines (start_with 8 line_seal (low 0) (low 1)) ≡ Some Reserved)
    × (head_refusal_in Lines (start_with 0 line_seal (low 0) (low 0)) ≡ Some EmptyWords)
    × (head_refusal_in Whole (start_with 8 line_seal (low 1) (low 0)) ≡ Some Blocked)
unfolding whole_words
line_head = (refl, refl, refl, refl, refl, refl, refl, refl)

-- a file is good with its seal or with none, and refused with another; its size is reported before
-- the end of its head, and that before the seal. A head that promises 2^57 words is cut
file : (refusal_in Whole worked ≡ None)
    × (refusal_in Whole unsealed ≡ None)
    × (refusal_in Whole (head_with (low 1) (low 0) (low 0) ++ its_word) ≡ Some Seal)
    × (refusal_in Whole (head_with its_seal (low 0) (low 0) ++ low 5) ≡ Some Seal)
    × (refusal_in Whole (first ++ low 0 ++ low 1) ≡ Some HashCount)
    × (refusal_in Whole first ≡ Some Cut)
    × (refusal_in Whole (first ++ low 3 ++ high 2 ++ low 9) ≡ Some Cut)
    × (refusal_in Whole (head_with its_seal (low 0) (low 1) ++ seven) ≡ Some Cut)
    × (refusal_in Whole (head_with (low 1) (low 0) (low 1) ++ its_word ++ 0 ∷ []) ≡ Some TooLong)
    × (refusal_in Whole (head_with (low 1) (low 2) (low 0) ++ its_word) ≡ Some Reserved)
    × (refusal_in Whole (head_with (low 1) (low 1) (low 0) ++ its_word) ≡ Some Blocked)
unfolding sip start round absorb answer whole_words rest
file = (refl, refl, refl, refl, refl, refl, refl, refl, refl, refl, refl)

-- the bytes of the seal that the words of the file of one line have where they are no lines
abbrev other_seal : List ℕ
other_seal = 211 ∷ 133 ∷ 3 ∷ 180 ∷ 33 ∷ 252 ∷ 7 ∷ 214 ∷ []

-- the same of lines, whose seal covers the number of the layout too
line_files : (refusal_in Lines line_file ≡ None)
    × (refusal_in Lines line_unsealed ≡ None)
    × (refusal_in Lines (start_with 8 other_seal (low 1) (low 0) ++ line_body) ≡ Some Seal)
    × (refusal_in Whole (start_with 8 other_seal (low 0) (low 0) ++ line_body) ≡ None)
    × (refusal_in Lines (start_with 8 line_seal (low 0) (low 0) ++ its_word) ≡ Some Cut)
    × (refusal_in Lines (start_with 1 line_seal (low 1) (low 0) ++ its_word) ≡ Some PartOfALine)
    × (refusal_in Whole line_file ≡ Some Blocked)
    × (refusal_in Lines worked ≡ Some NotBlocked)
unfolding sip start round absorb answer whole_words rest
line_files = (refl, refl, refl, refl, refl, refl, refl, refl)
