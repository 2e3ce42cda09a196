-- Why bytes are refused that are no file of a filter. The order of the reasons is this project's
-- choice.
use Rattle.std.specs.Prelude.{ℕ, ◌+◌, ◌*◌, ◌%◌, ◌^◌, List, length, slice_index, Bool, not, ◌&&◌, ◌||◌, nat_eq, nat_le, nat_lt, if◌then◌else◌, Option, Some, None}
use Rattle.std.specs.Option.{option_or}
use Rattle.bloom_parts.specs.Sip.{whole_words}
use Rattle.bloom_files.specs.declared.head.Head.{Head}
use Rattle.bloom_files.specs.declared.error.FileError.{FileError}
use Rattle.bloom_files.specs.declared.error.FileError.TheVariants.{NotAFilter, Version, HashCount, EmptyWords, TooManyWords, Cut, TooLong, Reserved, Blocked, Seal}
use Rattle.bloom_files.specs.File.{mark}

-- the number at an index in a file, counted from 0; it is 0 where the file ends before
abbrev pub number_at : List ℕ → ℕ → ℕ
number_at bytes place = slice_index (whole_words bytes) place

-- whether a file has all bytes of the number at an index
abbrev pub has_number : List ℕ → ℕ → Bool
has_number bytes place = nat_le (8 * place + 8) (length bytes)

-- whether a filter may have this many hashes
abbrev pub is_hash_count : ℕ → Bool
is_hash_count n = nat_lt 0 n && nat_lt n (2 ^ 32)

-- why the first numbers of a file are refused, if they are; of several reasons the first counts.
-- The last byte of the mark is the version; fewer than eight bytes have no mark, whatever they are
abbrev pub head_refusal : List ℕ → Option FileError
head_refusal bytes =
    if not (nat_eq (number_at bytes 0 % 2 ^ 56) (mark % 2 ^ 56)) then Some NotAFilter
    else if not (nat_eq (number_at bytes 0) mark) then Some Version
    else if has_number bytes 1 && not (is_hash_count (number_at bytes 1)) then Some HashCount
    else if has_number bytes 2 && nat_eq (number_at bytes 2) 0 then Some EmptyWords
    else if has_number bytes 2 && nat_le (2 ^ 58) (number_at bytes 2) then Some TooManyWords
    else None

-- how many bytes a file has whose head tells its number of words
abbrev pub file_size : List ℕ → ℕ
file_size bytes = 64 + 8 * number_at bytes 2

-- why a file of another size is refused
abbrev pub length_refusal : List ℕ → Option FileError
length_refusal bytes =
    if nat_lt (length bytes) (file_size bytes) then Some Cut
    else if nat_lt (file_size bytes) (length bytes) then Some TooLong
    else None

-- whether the last two numbers of a head are those of any layout of words: 0 or 1, and then 0
abbrev pub has_layout : List ℕ → Bool
has_layout bytes = nat_lt (number_at bytes 6) 2 && nat_eq (number_at bytes 7) 0

-- why the end of a head is refused: it has the numbers of no layout, or those of a blocked filter
abbrev pub reserved_refusal : List ℕ → Option FileError
reserved_refusal bytes =
    if not (has_layout bytes) then Some Reserved
    else if nat_eq (number_at bytes 6) 1 then Some Blocked
    else None

-- why a seal is refused, if it is: it is another than the right one, and isn't 0
abbrev pub wrong_seal : ℕ → ℕ → Option FileError
wrong_seal found right = if nat_eq found 0 || nat_eq found right then None else Some Seal

-- why a head of 64 bytes is refused, if it is
abbrev pub whole_head_refusal : List ℕ → Option FileError
whole_head_refusal bytes = option_or (head_refusal bytes) (reserved_refusal bytes)

-- what the numbers of a file's head say
abbrev pub head_in : List ℕ → Head
head_in bytes = record {
  num_hashes = number_at bytes 1;
  num_words = number_at bytes 2;
  k0 = number_at bytes 3;
  k1 = number_at bytes 4;
}
