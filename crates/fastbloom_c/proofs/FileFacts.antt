-- The heads that C gives, and the numbers of their refusals, at values from outside.
use Rattle.std.proofs.Common.{◌≡◌, ◌^◌, ◌+◌, ◌-◌, ℕ, List, [], ◌∷◌, ◌++◌, replicate, Some, None, refl}
use Rattle.bloom_files.specs.declared.error.FileError.TheVariants.{NotAFilter, EmptyWords, TooManyWords, PartOfALine}
use Rattle.fastbloom_c.specs.Files.{head_for, line_words_refusal, head_words_refusal, file_code_or_zero}

-- a refusal has the number of the header, and 0 stands for none
number-code : (file_code_or_zero None ≡ 0) × (file_code_or_zero (Some NotAFilter) ≡ 9)
number-code = (refl, refl)

-- from one word to 2^58 - 1 aren't refused
words-refused : (head_words_refusal 0 ≡ Some EmptyWords)
    × (head_words_refusal 1 ≡ None)
    × (head_words_refusal (2 ^ 58 - 1) ≡ None)
    × (head_words_refusal (2 ^ 58) ≡ Some TooManyWords)
words-refused = (refl, refl, refl, refl)

-- whole lines aren't refused, from one to 2^58 - 8 words; too many words are told before a part of
-- a line
line_words-refused : (line_words_refusal 0 ≡ Some EmptyWords)
    × (line_words_refusal 7 ≡ Some PartOfALine)
    × (line_words_refusal 8 ≡ None)
    × (line_words_refusal 9 ≡ Some PartOfALine)
    × (line_words_refusal (2 ^ 58 - 8) ≡ None)
    × (line_words_refusal (2 ^ 58 - 1) ≡ Some PartOfALine)
    × (line_words_refusal (2 ^ 58 + 1) ≡ Some TooManyWords)
line_words-refused = (refl, refl, refl, refl, refl, refl, refl)

-- a key whose bytes are 1, 2, twelve zeros, 3 and 4
abbrev a_key : List ℕ
a_key = 1 ∷ 2 ∷ replicate 12 0 ++ 3 ∷ 4 ∷ []

-- the first byte of a key is the lowest of its first word, and the last one the highest of its
-- second; 0 hashes count as 1, and words and more hashes are as they are
head-fields : ((head_for 7 0 a_key).k0 ≡ 0x0201)
    × ((head_for 7 0 a_key).k1 ≡ 0x0403_0000_0000_0000)
    × ((head_for 7 0 []).num_hashes ≡ 1)
    × ((head_for 7 10 []).num_hashes ≡ 10)
    × ((head_for 7 10 []).num_words ≡ 7)
head-fields = (refl, refl, refl, refl, refl)
