-- What is reported about two filters of one shape and key, in lines of text. The text is this
-- project's own.
use Rattle.std.specs.Prelude.{◌≡◌, ◌⊎◌, ◌&&◌, ℕ, ◌-◌, ◌*◌, ◌/◌, ◌%◌, ◌^◌, codes, decimal, List, [], ◌∷◌, ◌++◌}
use Rattle.std.specs.Fmt.{format_spec, styled_decimal}
use Rattle.std.specs.Int.{div_ceil}
use Rattle.bloom_parts.specs.Alike.{EstimatesEach, IsCommon, IsPartOf}
use Rattle.bloom_parts.specs.Brackets.{low_of, high_of}
use Rattle.bloom_parts.specs.Content.{content}
use Rattle.bloom_parts.specs.Counts.{count_on}
use Rattle.bloom_parts.specs.declared.math.bracket.Bracket.{Bracket}
use Rattle.bloom_parts.specs.declared.math.estimate.Estimate.{Estimate}
use Rattle.fastbloom.specs.Data.{DefaultFilter}
use Rattle.fastbloom.specs.Filter.{num_bits_of}
use Rattle.fastbloom.specs.Ones.{ones_of, ones_of_either}
use Rattle.summaries_engine.specs.declared.kinds.AnyFilter.{AnyFilter}
use Rattle.summaries_engine.specs.declared.kinds.AnyFilter.TheVariants.{Classic, Blocked}
use Rattle.summaries_engine.specs.declared.stop.Stop.{Stop}
use Rattle.summaries_engine.specs.Facts.{items_text}
use Rattle.summaries_engine.specs.Named.{Named, StopsUniting}
use Rattle.summaries_engine.specs.Refusals.{IsUnitable}
use Rattle.summaries_engine.specs.Stops.{IsMemory}

-- the lower bound of a part, in hundredths of a percent, rounded down
abbrev pub least_share : Bracket → ℕ
least_share part = low_of part * 10000 / 2 ^ 63

-- the upper bound of a part, in hundredths of a percent, rounded up
abbrev pub most_share : Bracket → ℕ
most_share part = div_ceil (high_of part * 10000) (2 ^ 63)

-- two digits behind the point
abbrev pub hundredths_text : ℕ → List ℕ
hundredths_text part = styled_decimal (format_spec 32 0 4 2 (2 ^ 64 - 1)) part

-- the line of a likeness, by its bounds in hundredths of a percent
abbrev pub likeness_text : ℕ → ℕ → List ℕ
likeness_text least most =
    codes "likeness: " ++ (decimal (least / 100) ++ (codes "."
    ++ (hundredths_text (least % 100) ++ (codes " to " ++ (decimal (most / 100) ++ (codes "."
    ++ (hundredths_text (most % 100) ++ codes " %\n")))))))

-- the lines that tell two filters: estimates of the items of each, of their union and of what they
-- have in common, and which part of all that is
abbrev pub compared_text : Estimate → Estimate → Estimate → Estimate → Bracket → List ℕ
compared_text first second all common part =
    codes "first: " ++ (items_text first
    ++ (codes "\nsecond: " ++ (items_text second
    ++ (codes "\nunion: " ++ (items_text all
    ++ (codes "\ncommon: " ++ (items_text common
    ++ (codes "\n" ++ likeness_text (least_share part) (most_share part)))))))))

-- a text tells two filters
pub record TellsBoth (f g : DefaultFilter) (text : List ℕ) : Type 0 where
  pub first : Estimate
  pub second : Estimate
  pub all : Estimate
  pub common : Estimate
  pub part : Bracket
  pub each : EstimatesEach (num_bits_of f) f.hashes (ones_of f) (ones_of g) (ones_of_either f g)
      first second all
  pub is_common : IsCommon first second all common
  pub is_part : IsPartOf common all part
  pub is : text ≡ compared_text first second all common part

-- how many bits are set in both of two filters of one shape
abbrev pub ones_of_both : DefaultFilter → DefaultFilter → ℕ
ones_of_both f g = count_on (λ p. content f.words p && content g.words p) (num_bits_of f)

-- the lines that tell how many bits are set in each of two filters, in either and in both
abbrev pub bits_text : ℕ → ℕ → ℕ → ℕ → List ℕ
bits_text first second either both =
    codes "bits set in first: " ++ (decimal first
    ++ (codes "\nbits set in second: " ++ (decimal second
    ++ (codes "\nbits set in union: " ++ (decimal either
    ++ (codes "\nbits set in both: " ++ (decimal both ++ codes "\n")))))))

-- a text tells two filters of one kind: of blocked ones how many bits are set
abbrev pub TellsTwo : AnyFilter → AnyFilter → List ℕ → Type 0
TellsTwo (Classic f) (Classic g) text = TellsBoth f g text
TellsTwo (Blocked f) (Blocked g) text =
    text ≡ bits_text (ones_of f) (ones_of g) (ones_of_either f g) (ones_of_both f g)
TellsTwo f g text = ⊥

-- the filters of two names have one kind, shape and key, and a text tells them
pub record ComparesNamed (has : Named) (one other : List ℕ) (text : List ℕ) : Type 0 where
  pub first : AnyFilter
  pub second : AnyFilter
  pub is_first : has one first
  pub is_second : has other second
  pub fits : IsUnitable first second
  pub tells : TellsTwo first second text

-- two filters aren't compared: memory was out, or they couldn't be united
abbrev pub StopsComparing : Named → (List ℕ → Stop → Type 0) → List ℕ → List ℕ → Stop → Type 0
StopsComparing has fails one other stop =
    IsMemory stop ⊎ StopsUniting has fails (one ∷ other ∷ []) stop
