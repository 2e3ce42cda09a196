-- What is reported about a filter, in lines of text. The text is this project's own.
use Rattle.std.specs.Prelude.{◌≡◌, ℕ, ◌+◌, ◌-◌, ◌*◌, ◌/◌, ◌%◌, ◌^◌, false, codes, decimal, List, [], ◌++◌, Option, None, Some}
use Rattle.std.specs.Fmt.{digits, format_spec, padded_integral, styled_decimal}
use Rattle.std.specs.Int.{w64, div_ceil, swap_bytes}
use Rattle.bloom_parts.specs.Estimates.{EstimatesItems, least_of, most_of}
use Rattle.bloom_parts.specs.FalsePositives.{positives_low, positives_high}
use Rattle.bloom_parts.specs.Keys.{key_of}
use Rattle.bloom_parts.specs.declared.math.estimate.Estimate.{Estimate}
use Rattle.fastbloom.specs.Data.{DefaultFilter}
use Rattle.fastbloom.specs.Filter.{num_bits_of}
use Rattle.fastbloom.specs.Ones.{ones_of}
use Rattle.summaries_engine.specs.declared.form.Form.{Form}
use Rattle.summaries_engine.specs.declared.form.Form.TheVariants.{Sealed, Unsealed, Json}
use Rattle.summaries_engine.specs.declared.kinds.AnyFilter.{AnyFilter}
use Rattle.summaries_engine.specs.declared.kinds.AnyFilter.TheVariants.{Classic, Blocked}

-- what a form is called
abbrev pub form_text : Form → List ℕ
form_text Sealed = codes "file, sealed"
form_text Unsealed = codes "file, no seal"
form_text Json = codes "JSON"

-- the eight bytes of a word, the lowest first, by two hexadecimal digits each
abbrev pub bytes_text : ℕ → List ℕ
bytes_text word =
    padded_integral (format_spec 32 0 4 16 (2 ^ 64 - 1)) false []
    (digits 16 false (swap_bytes w64 word))

-- the line of a key, of which these are the two words
abbrev pub key_text : ℕ → ℕ → List ℕ
key_text k0 k1 = codes "key: " ++ (bytes_text k0 ++ (bytes_text k1 ++ codes "\n"))

-- the share of some bits in all, in hundredths of a percent, rounded half up
abbrev pub share_of : ℕ → ℕ → ℕ
share_of ones bits = (ones * 10000 + bits / 2) / bits

-- the line of the bits that are set, with their share in percent: two digits behind the point
abbrev pub set_text : ℕ → ℕ → List ℕ
set_text ones share =
    codes "bits set: " ++ (decimal ones ++ (codes " (" ++ (decimal (share / 100) ++ (codes "."
    ++ (styled_decimal (format_spec 32 0 4 2 (2 ^ 64 - 1)) (share % 100) ++ codes " %)\n")))))

-- two bounds of a number, the upper of which may be missing
abbrev pub bounds_text : ℕ → Option ℕ → List ℕ
bounds_text low (Some high) = decimal low ++ (codes " to " ++ decimal high)
bounds_text low None = decimal low ++ codes " or more"

-- the bounds of a number of items
abbrev pub items_text : Estimate → List ℕ
items_text items = bounds_text (least_of items) (most_of items)

-- a fraction in billionths, with nine digits behind the point
abbrev pub billionths_text : ℕ → List ℕ
billionths_text part =
    decimal (part / 10 ^ 9) ++ (codes "."
    ++ styled_decimal (format_spec 32 0 4 9 (2 ^ 64 - 1)) (part % 10 ^ 9))

-- the lines of a filter in a form
unfoldable pub lines_text : DefaultFilter → Form → List ℕ
lines_text f form =
    codes "form: " ++ (form_text form
    ++ (codes "\nbits: " ++ (decimal (num_bits_of f)
    ++ (codes "\nhashes: " ++ (decimal f.hashes
    ++ (codes "\n" ++ (key_text (key_of f.hasher).0 (key_of f.hasher).1
    ++ set_text (ones_of f) (share_of (ones_of f) (num_bits_of f)))))))))

-- the line of a rate of false positives, by two bounds in units of 2^-63: the lower one is rounded
-- down to billionths, and the upper one up, so that the rate lies between what is reported
abbrev pub rate_text : ℕ → ℕ → List ℕ
rate_text low high =
    codes "false positive rate: " ++ (billionths_text (low * 10 ^ 9 / 2 ^ 63)
    ++ (codes " to " ++ (billionths_text (div_ceil (high * 10 ^ 9) (2 ^ 63)) ++ codes "\n")))

-- the line of the rate of a filter as it is
unfoldable pub rate_of_text : DefaultFilter → List ℕ
rate_of_text f =
    rate_text (positives_low (num_bits_of f) f.hashes (ones_of f))
    (positives_high (num_bits_of f) f.hashes (ones_of f))

-- the lines of a Bloom filter besides: an estimate of its items, and its rate as it is
unfoldable pub estimates_text : DefaultFilter → Estimate → List ℕ
estimates_text f items =
    codes "items: " ++ (items_text items ++ (codes "\n" ++ rate_of_text f))

-- a text tells a Bloom filter by an estimate of its items
pub record TellsItems (f : DefaultFilter) (text_of : Estimate → List ℕ) (text : List ℕ) : Type 0
  where
    pub items : Estimate
    pub estimates : EstimatesItems (num_bits_of f) f.hashes (ones_of f) items
    pub is : text ≡ text_of items

-- a text tells a filter in a form. The estimates of a Bloom filter aren't true of a blocked one
abbrev pub TellsFilter : AnyFilter → Form → List ℕ → Type 0
TellsFilter (Classic f) form text =
    TellsItems f (λ items. lines_text f form ++ estimates_text f items) text
TellsFilter (Blocked f) form text = text ≡ codes "kind: blocked\n" ++ lines_text f form
