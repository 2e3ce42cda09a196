-- What the next line comes to, from what a reader of lines and its input have left.
use Rattle.std.specs.Prelude.{◌≡◌, ◌⊎◌, List, Option, Some, None, ℕ, MatchOption}
use Rattle.bloom_engine.specs.declared.engine.line.Line.{Line}
use Rattle.bloom_engine.specs.declared.engine.commands.Next.{Next}
use Rattle.bloom_engine.specs.declared.engine.commands.Next.TheVariants.{End, Good, Bad}
use Rattle.lines.specs.Reading.{Ends, TakesLineBy, TakesLongBy}
use Rattle.bloom_engine.specs.Lines.{line_of, longest_line}

-- what a line comes to
abbrev pub Asks : List ℕ → Next → Type 0
Asks line came = MatchOption (line_of line) (came ≡ Bad) (λ good. came ≡ Good good)

-- a line was taken that asks for this, or for nothing
pub record TakesAsking (old new : Option (List ℕ)) (asked : Option Line) : Type 0 where
  pub text : List ℕ
  pub takes : TakesLineBy 10 old new text
  pub asks : line_of text ≡ asked

-- what the next line comes to
abbrev pub NextCommand : Option (List ℕ) → Option (List ℕ) → Next → Type 0
NextCommand old new End = Ends old new
NextCommand old new (Good line) = TakesAsking old new (Some line)
NextCommand old new Bad = TakesAsking old new None ⊎ TakesLongBy 10 longest_line old new
