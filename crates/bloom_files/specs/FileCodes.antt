-- The numbers of the refusals of files. They are this project's choice.
use Rattle.std.specs.Prelude.{ℕ}
use Rattle.bloom_files.specs.declared.error.FileError.{FileError}
use Rattle.bloom_files.specs.declared.error.FileError.TheVariants.{NotAFilter, Version, HashCount, EmptyWords, TooManyWords, Cut, TooLong, Reserved, Blocked, NotBlocked, PartOfALine, Seal, Memory, Input}

-- the number of a refusal; one that a filter's own refusals have too has the same number there
abbrev pub file_code_of : FileError → ℕ
file_code_of EmptyWords = 2
file_code_of TooManyWords = 3
file_code_of Memory = 6
file_code_of HashCount = 7
file_code_of NotAFilter = 9
file_code_of Version = 10
file_code_of Cut = 11
file_code_of TooLong = 12
file_code_of Reserved = 13
file_code_of Seal = 14
file_code_of (Input kind) = 15
file_code_of PartOfALine = 16
file_code_of Blocked = 17
file_code_of NotBlocked = 18
