-- The numbers of the refusals. They are this project's choice.
use Rattle.std.specs.Prelude.{ℕ}
use Rattle.bloom_parts.specs.declared.error.FilterError.{FilterError}
use Rattle.bloom_parts.specs.declared.error.FilterError.TheVariants.{ZeroBits, EmptyWords, TooManyWords, ZeroRate, SizeOverflow, Memory, HashCount, Worker}

-- the number of a refusal
abbrev pub code_of : FilterError → ℕ
code_of ZeroBits = 1
code_of EmptyWords = 2
code_of TooManyWords = 3
code_of ZeroRate = 4
code_of SizeOverflow = 5
code_of Memory = 6
code_of HashCount = 7
code_of Worker = 8
