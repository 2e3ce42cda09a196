-- What is reported about a filter to scripts: one line of JSON (RFC 8259). The names in it are this
-- project's own.
use Rattle.std.specs.Prelude.{◌≡◌, ℕ, ◌*◌, ◌/◌, ◌^◌, codes, decimal, List, ◌++◌, Option, None, Some}
use Rattle.std.specs.Int.{div_ceil}
use Rattle.bloom_parts.specs.Estimates.{least_of, most_of}
use Rattle.bloom_parts.specs.FalsePositives.{positives_low, positives_high}
use Rattle.bloom_parts.specs.Keys.{key_of}
use Rattle.bloom_parts.specs.declared.math.estimate.Estimate.{Estimate}
use Rattle.fastbloom.specs.Data.{DefaultFilter}
use Rattle.fastbloom.specs.Filter.{num_bits_of}
use Rattle.fastbloom.specs.Ones.{ones_of}
use Rattle.summaries_engine.specs.declared.form.Form.{Form}
use Rattle.summaries_engine.specs.declared.kinds.AnyFilter.{AnyFilter}
use Rattle.summaries_engine.specs.declared.kinds.AnyFilter.TheVariants.{Classic, Blocked}
use Rattle.summaries_engine.specs.Facts.{TellsItems, billionths_text, bytes_text, form_text}

-- the members of any filter: its form, what it is made of, and how many bits are set
unfoldable pub parts_script : DefaultFilter → Form → List ℕ
parts_script f form =
    codes "\"form\":\"" ++ (form_text form
    ++ (codes "\",\"bits\":" ++ (decimal (num_bits_of f)
    ++ (codes ",\"hashes\":" ++ (decimal f.hashes
    ++ (codes ",\"key\":\"" ++ (bytes_text (key_of f.hasher).0 ++ (bytes_text (key_of f.hasher).1
    ++ (codes "\",\"bits_set\":" ++ decimal (ones_of f))))))))))

-- two bounds of a number of items, the upper of which may be missing
abbrev pub bounds_script : ℕ → Option ℕ → List ℕ
bounds_script low (Some high) =
    codes ",\"items_low\":" ++ (decimal low ++ (codes ",\"items_high\":" ++ decimal high))
bounds_script low None =
    codes ",\"items_low\":" ++ (decimal low ++ codes ",\"items_high\":null")

-- the members of a Bloom filter's items, by an estimate
abbrev pub items_script : Estimate → List ℕ
items_script items = bounds_script (least_of items) (most_of items)

-- the members of a Bloom filter's rate of false positives as it is, in billionths: the lower bound
-- is rounded down, and the upper one up
unfoldable pub rate_script : DefaultFilter → List ℕ
rate_script f =
    codes ",\"rate_low\":"
    ++ (billionths_text (positives_low (num_bits_of f) f.hashes (ones_of f) * 10 ^ 9 / 2 ^ 63)
    ++ (codes ",\"rate_high\":"
    ++ billionths_text
    (div_ceil (positives_high (num_bits_of f) f.hashes (ones_of f) * 10 ^ 9) (2 ^ 63))))

-- a line tells a filter in a form, of a Bloom filter with an estimate of its items
abbrev pub TellsScript : AnyFilter → Form → List ℕ → Type 0
TellsScript (Classic f) form text =
    TellsItems f (λ items. codes "{\"kind\":\"classic\"," ++ (parts_script f form
    ++ ((items_script items ++ rate_script f) ++ codes "}\n"))) text
TellsScript (Blocked f) form text =
    text ≡ codes "{\"kind\":\"blocked\"," ++ (parts_script f form ++ codes "}\n")
