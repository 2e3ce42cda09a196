-- What is read of several inputs, one after the other. Of the inputs that come it is known which
-- bytes each has, or None where that isn't known. The byte `end` ends a line.
use Rattle.std.specs.Prelude.{◌≡◌, ℕ, ◌+◌, ◌-◌, ◌^◌, min, false, List, [], ◌∷◌, ◌++◌, length, flat_map, Option, None, Some, IfSome}
use Rattle.lines.specs.Lines.{lines_by}
use Rattle.lines.specs.Reading.{Waiting, AreBeforeLongBy, Ends, TakesShortBy, TakesLongBy}
use Rattle.duplicates_engine.specs.declared.opened.Step.{Step}
use Rattle.duplicates_engine.specs.declared.opened.Step.TheVariants.{End, Opened, Line, TooLong}

-- an input was opened: the first of those that came
abbrev pub Opens : Option (List (List ℕ)) → Option (List (List ℕ)) → Option (List ℕ) → Type 0
Opens None new input = Unit {0}
Opens (Some []) new input = ⊥
Opens (Some (bytes ∷ rest)) new input = (new ≡ Some rest) × (input ≡ Some bytes)

-- no input comes
abbrev pub NoneComes : Option (List (List ℕ)) → Option (List (List ℕ)) → Type 0
NoneComes None new = Unit {0}
NoneComes (Some inputs) new = (inputs ≡ []) × (new ≡ Some [])

-- all lines of inputs, in order; the last line of an input ends with it
abbrev pub lines_in : ℕ → List (List ℕ) → List (List ℕ)
lines_in end inputs = flat_map (lines_by end) inputs

-- these are all lines of the inputs that came, and none comes any more
pub record AreAll (end : ℕ) (inputs : List (List ℕ)) (left : Option (List (List ℕ)))
    (lines : List (List ℕ)) : Type 0 where
  pub are_lines : lines_in end inputs ≡ lines
  pub none_left : left ≡ Some []

-- the same, where it may not be known which inputs come
abbrev pub AreAllRead : ℕ → Option (List (List ℕ)) → Option (List (List ℕ)) → List (List ℕ)
    → Type 0
AreAllRead end come left lines = IfSome come (λ inputs. AreAll end inputs left lines)

-- these are the first lines of the inputs
pub record AreFirstIn (end : ℕ) (inputs lines : List (List ℕ)) : Type 0 where
  pub later : List (List ℕ)
  pub cut : lines_in end inputs ≡ lines ++ later

-- the same, where it may not be known which inputs come
abbrev pub AreFirstRead : ℕ → Option (List (List ℕ)) → List (List ℕ) → Type 0
AreFirstRead end come lines = IfSome come (λ inputs. AreFirstIn end inputs lines)

-- of these inputs the earlier lines are those of the first ones, and the lines before stand in the
-- next, before a line that is longer than a line may be
pub record StandBeforeLong (end longest : ℕ) (inputs earlier before : List (List ℕ)) : Type 0 where
  pub done : List (List ℕ)
  pub input : List ℕ
  pub rest : List (List ℕ)
  pub cut : inputs ≡ done ++ input ∷ rest
  pub are_earlier : lines_in end done ≡ earlier
  pub is_long : AreBeforeLongBy end longest input before

-- the lines are followed by one that is longer than a line may be, and its number is that in its
-- own input; the number stays at 2^64 - 1
pub record AreReadToLong (end longest number : ℕ) (come : Option (List (List ℕ)))
    (lines : List (List ℕ)) : Type 0 where
  pub earlier : List (List ℕ)
  pub before : List (List ℕ)
  pub cut : lines ≡ earlier ++ before
  pub is_number : number ≡ min (length before + 1) (2 ^ 64 - 1)
  pub is_long : IfSome come (λ inputs. StandBeforeLong end longest inputs earlier before)

-- a step of a reader took a line that is short enough
pub record TakesNext (end longest : ℕ) (old new : Option (List ℕ))
    (come left : Option (List (List ℕ))) (number next : ℕ) (line : List ℕ) : Type 0 where
  pub takes : TakesShortBy end longest old new line
  pub same : left ≡ come
  pub counts : next ≡ min (number + 1) (2 ^ 64 - 1)

-- it found a line that is too long
pub record FindsLong (end longest : ℕ) (old new : Option (List ℕ)) (number next : ℕ) : Type 0 where
  pub long : TakesLongBy end longest old new
  pub same : next ≡ number

-- all of an input was read, and the next was opened
pub record OpensNext (old new : Option (List ℕ)) (come left : Option (List (List ℕ))) (next : ℕ)
    : Type 0 where
  pub last : Option (List ℕ)
  pub ends : Ends old last
  pub opens : Opens come left new
  pub none_read : next ≡ 0

-- all of an input was read, and none comes
pub record EndsAll (old : Option (List ℕ)) (come left : Option (List (List ℕ))) : Type 0 where
  pub last : Option (List ℕ)
  pub ends : Ends old last
  pub none : NoneComes come left

-- what a step of a reader came to, by what was told
abbrev pub Steps : ℕ → ℕ → Option (List ℕ) → Option (List ℕ) → Option (List (List ℕ))
    → Option (List (List ℕ)) → ℕ → ℕ → List ℕ → Step → Type 0
Steps end longest old new come left number next line End = EndsAll old come left
Steps end longest old new come left number next line Opened = OpensNext old new come left next
Steps end longest old new come left number next line Line =
    TakesNext end longest old new come left number next line
Steps end longest old new come left number next line TooLong =
    FindsLong end longest old new number next

-- a reader of lines of which nothing was read yet
pub record IsFresh (longest : ℕ) (waiting : Waiting) (number : ℕ) : Type 0 where
  pub empty : waiting.bytes ≡ []
  pub untold : waiting.ended ≡ false
  pub has_longest : waiting.longest ≡ longest
  pub none_read : number ≡ 0
