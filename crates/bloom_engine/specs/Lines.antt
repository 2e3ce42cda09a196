-- Which lines are good, and what they ask for. The commands are this project's own.
use Rattle.std.specs.Prelude.{ℕ, ◌+◌, ◌*◌, ◌-◌, ◌^◌, ◌==◌, ◌&&◌, Bool, nat_lt, nat_le, if◌then◌else◌, List, [], ◌∷◌, length, fold, filter_map, Option, Some, None}
use Rattle.std.specs.List.{list_all}
use Rattle.std.specs.Char.{is_ascii_digit}
use Rattle.bloom_parts.specs.Operations as command
use Rattle.bloom_parts.specs.Operations.{Operation}
use Rattle.bloom_engine.specs.declared.engine.line.Line.{Line}
use Rattle.bloom_engine.specs.declared.engine.line.Line.TheVariants.{Insert, Contains, Clear, Words}

-- the number that decimal digits spell
abbrev pub value_of : List ℕ → ℕ
value_of digits = fold (λ n d. n * 10 + (d - 48)) 0 digits

-- whether a text is 1 to 20 decimal digits of a number below 2^64
abbrev pub is_number : List ℕ → Bool
is_number text =
    nat_le 1 (length text) && nat_le (length text) 20 && list_all is_ascii_digit text
    && nat_lt (value_of text) (2 ^ 64)

-- the number that a text is, if it is one
unfoldable pub number_of : List ℕ → Option ℕ
number_of text = if is_number text then Some (value_of text) else None

-- a letter that stands before a number: `i` inserts, `c` looks up
abbrev pub command_with_number : ℕ → Option ℕ → Option Line
command_with_number letter None = None
command_with_number letter (Some n) =
    if letter == 105 then Some (Insert n) else if letter == 99 then Some (Contains n) else None

-- a letter that stands alone: `z` clears, `w` writes the words
abbrev pub command_of_letter : ℕ → Option Line
command_of_letter letter =
    if letter == 122 then Some Clear else if letter == 119 then Some Words else None

-- the length of the longest good line, which is a letter, a space and twenty digits
abbrev pub longest_line : ℕ
longest_line = 22

-- what a line asks for, if it is good: a letter, one space and a number, or a letter alone
unfoldable pub line_of : List ℕ → Option Line
line_of [] = None
line_of (letter ∷ []) = command_of_letter letter
line_of (letter ∷ space ∷ text) =
    if space == 32 then command_with_number letter (number_of text) else None

-- the command to the filter that a line is
abbrev pub operation_of_line : Line → Option Operation
operation_of_line (Insert hash) = Some (command.Insert hash)
operation_of_line (Contains hash) = Some (command.Contains hash)
operation_of_line Clear = Some command.Clear
operation_of_line Words = None

-- the commands to the filter among lines
abbrev pub operations : List Line → List Operation
operations lines = filter_map operation_of_line lines
