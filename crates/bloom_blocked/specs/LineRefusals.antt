-- Why words are refused that are no lines. The order of the reasons is this project's choice.
use Rattle.std.specs.Prelude.{ℕ, ◌%◌, ◌^◌, Option, Some, None, nat_eq, nat_le, if◌then◌else◌}
use Rattle.bloom_blocked.specs.declared.error.LinesError.{LinesError}
use Rattle.bloom_blocked.specs.declared.error.LinesError.TheVariants.{EmptyWords, TooManyWords, PartOfALine}

-- why this many words are refused, if they are
abbrev pub lines_refusal : ℕ → Option LinesError
lines_refusal w =
    if nat_eq w 0 then Some EmptyWords
    else if nat_le (2 ^ 58) w then Some TooManyWords
    else if nat_eq (w % 8) 0 then None
    else Some PartOfALine

-- the number of a refusal; one that a filter's own refusals have too has the same number there
abbrev pub lines_code_of : LinesError → ℕ
lines_code_of EmptyWords = 2
lines_code_of TooManyWords = 3
lines_code_of PartOfALine = 16
