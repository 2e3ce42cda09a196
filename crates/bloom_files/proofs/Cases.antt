-- Files that the facts of this crate share, as a program in Python wrote them (`dev/blocked-model`
-- those of lines). Each has the key bytes 0 to 15 and 3 hashes, and `crab` and `lobster` were
-- inserted into its filter, which has one word, or one line of eight.
use Rattle.std.proofs.Common.{ℕ, List, [], ◌∷◌, ◌++◌}
use Rattle.bloom_files.proofs.Common.{start, Head, DefaultFilter}

-- the codes of `fbloom` and 0
abbrev pub name : List ℕ
name = 102 ∷ 98 ∷ 108 ∷ 111 ∷ 111 ∷ 109 ∷ 0 ∷ []

-- with the version `1` behind them
abbrev pub first : List ℕ
first = name ++ 49 ∷ []

-- seven bytes that are 0
abbrev pub seven : List ℕ
seven = 0 ∷ 0 ∷ 0 ∷ 0 ∷ 0 ∷ 0 ∷ 0 ∷ []

-- the bytes of a number of which only the lowest isn't 0, and of one of which only the highest
-- isn't
abbrev pub low : ℕ → List ℕ
low number = number ∷ seven

abbrev pub high : ℕ → List ℕ
high number = seven ++ number ∷ []

-- the bytes of the first word of the key, 0 to 7, and of the second, 8 to 15
abbrev pub key_first : List ℕ
key_first = 0 ∷ 1 ∷ 2 ∷ 3 ∷ 4 ∷ 5 ∷ 6 ∷ 7 ∷ []

abbrev pub key_last : List ℕ
key_last = 8 ∷ 9 ∷ 10 ∷ 11 ∷ 12 ∷ 13 ∷ 14 ∷ 15 ∷ []

-- the head of a file of 3 hashes and this many words, with a seal and two numbers behind it
abbrev pub start_with : ℕ → List ℕ → List ℕ → List ℕ → List ℕ
start_with words seal sixth seventh =
    first ++ low 3 ++ low words ++ key_first ++ key_last ++ seal ++ sixth ++ seventh

-- the same of one word
abbrev pub head_with : List ℕ → List ℕ → List ℕ → List ℕ
head_with seal sixth seventh = start_with 1 seal sixth seventh

-- the bytes of the seal of the file of one word, and those of the word
abbrev pub its_seal : List ℕ
its_seal = 168 ∷ 27 ∷ 10 ∷ 212 ∷ 238 ∷ 141 ∷ 157 ∷ 93 ∷ []

abbrev pub its_word : List ℕ
its_word = 0 ∷ 20 ∷ 0 ∷ 64 ∷ 128 ∷ 0 ∷ 128 ∷ 16 ∷ []

-- the file of one word, and the same without a seal
abbrev pub worked : List ℕ
worked = head_with its_seal (low 0) (low 0) ++ its_word

abbrev pub unsealed : List ℕ
unsealed = head_with (low 0) (low 0) (low 0) ++ its_word

-- the bytes of the seal of the file of one line, and those of its eight words
abbrev pub line_seal : List ℕ
line_seal = 203 ∷ 147 ∷ 242 ∷ 208 ∷ 198 ∷ 136 ∷ 251 ∷ 244 ∷ []

abbrev pub line_body : List ℕ
line_body =
    low 0 ++ (0 ∷ 0 ∷ 0 ∷ 0 ∷ 0 ∷ 4 ∷ 0 ∷ 0 ∷ []) ++ low 0 ++ high 1
    ++ (128 ∷ 0 ∷ 2 ∷ 16 ∷ 0 ∷ 0 ∷ 0 ∷ 0 ∷ []) ++ (0 ∷ 0 ∷ 0 ∷ 64 ∷ 0 ∷ 0 ∷ 0 ∷ 0 ∷ []) ++ low 0
    ++ low 0

-- the file of one line, and the same without a seal
abbrev pub line_file : List ℕ
line_file = start_with 8 line_seal (low 1) (low 0) ++ line_body

abbrev pub line_unsealed : List ℕ
line_unsealed = start_with 8 (low 0) (low 1) (low 0) ++ line_body

-- what a head says of this many words
abbrev pub head_of_words : ℕ → Head
head_of_words words = record {
  num_hashes = 3;
  num_words = words;
  k0 = 0x0706_0504_0302_0100;
  k1 = 0x0f0e_0d0c_0b0a_0908;
}

-- what the heads of both files say
abbrev pub its_head : Head
its_head = head_of_words 1

abbrev pub line_head : Head
line_head = head_of_words 8

-- a filter of words, under a key
abbrev pub filter : List ℕ → ℕ → ℕ → ℕ → DefaultFilter
filter words hashes k0 k1 = record {
  words = words;
  hashes = hashes;
  hasher = record {
    hasher = record { low = k0; high = k1; words = start k0 k1; held = []; count = 0 };
  };
}

-- the filter of one word
abbrev pub crabs : DefaultFilter
crabs = filter (0x1080_0080_4000_1400 ∷ []) 3 0x0706_0504_0302_0100 0x0f0e_0d0c_0b0a_0908

-- the words of the filter of one line, and that filter
abbrev pub line_words : List ℕ
line_words =
    0 ∷ 0x0400_0000_0000 ∷ 0 ∷ 0x0100_0000_0000_0000 ∷ 0x1002_0080 ∷ 0x4000_0000 ∷ 0 ∷ 0 ∷ []

abbrev pub line_crabs : DefaultFilter
line_crabs = filter line_words 3 0x0706_0504_0302_0100 0x0f0e_0d0c_0b0a_0908
