-- Heads of files, as C gives and takes them. The form of a file is that of `bloom_files`.
use Rattle.std.specs.Prelude.{ℕ, ◌%◌, ◌^◌, max, List, Option, Some, None, nat_eq, nat_le, if◌then◌else◌}
use Rattle.bloom_parts.specs.Keys.{key_low, key_high}
use Rattle.bloom_files.specs.declared.head.Head.{Head}
use Rattle.bloom_files.specs.declared.error.FileError.{FileError}
use Rattle.bloom_files.specs.declared.error.FileError.TheVariants.{EmptyWords, TooManyWords, PartOfALine}
use Rattle.bloom_files.specs.FileCodes.{file_code_of}

-- the head of a filter with this many words and hashes, where 0 hashes count as 1, under a key of
-- sixteen bytes
abbrev pub head_for : ℕ → ℕ → List ℕ → Head
head_for num_words num_hashes key = record {
  num_hashes = max 1 num_hashes;
  num_words = num_words;
  k0 = key_low key;
  k1 = key_high key;
}

-- why a head with this many words is refused, if it is
abbrev pub head_words_refusal : ℕ → Option FileError
head_words_refusal num_words =
    if nat_eq num_words 0 then Some EmptyWords
    else if nat_le (2 ^ 58) num_words then Some TooManyWords
    else None

-- why a head of a blocked filter with this many words is refused, if it is: lines have eight each
abbrev pub line_words_refusal : ℕ → Option FileError
line_words_refusal num_words =
    if nat_eq num_words 0 then Some EmptyWords
    else if nat_le (2 ^ 58) num_words then Some TooManyWords
    else if nat_eq (num_words % 8) 0 then None
    else Some PartOfALine

-- the number of a refusal, or 0 where nothing is refused
abbrev pub file_code_or_zero : Option FileError → ℕ
file_code_or_zero None = 0
file_code_or_zero (Some error) = file_code_of error
