-- The names that most proofs of this crate cite, besides those of the standard library, passed on
-- from one place. Declares nothing.
pub use Rattle.bloom_growing.specs.Growing.{AreFull, Growing, IsNextRate, IsNumber, IsSound, Setup, Took, any_contains, den_at, has, newest_room, rate_start, room_at, setup_of}
pub use Rattle.bloom_growing.specs.GrowingInserts.{Accepts, Adds, BeginsNext, RefusesNumber, of_builders}
pub use Rattle.bloom_growing.specs.GrowingRates.{BoundsAny, Part, part_after, part_now, parts_full, parts_grown, parts_now}
pub use Rattle.bloom_growing.specs.Kinds.{Blocked, IsMadeIn, IsSizeIn, Kind, Plain, placement_of, size_refusal_in}
pub use Rattle.bloom_growing.specs.Rotating.{Rotating, both_now}
unfoldable pub use Rattle.bloom_parts.specs.Chain.{chain}
pub use Rattle.bloom_parts.specs.Content.{AreWords, EqualWordsLaw}
unfoldable pub use Rattle.bloom_parts.specs.Content.{content}
unfoldable pub use Rattle.bloom_parts.specs.Places.{are_in, positions}
pub use Rattle.bloom_parts.specs.Rates.{den_of, num_of}
pub use Rattle.bloom_parts.specs.declared.error.FilterError.TheVariants.{Memory}
pub use Rattle.bloom_parts.specs.declared.math.bracket.Bracket.{Bracket}
pub use Rattle.bloom_parts.specs.declared.math.rate.Rate.{Rate}
pub use Rattle.bloom_plain.specs.Builders.{RateStart, words_for}
pub use Rattle.bloom_plain.specs.Filter.{Clears, Filter, Inserts, contains}
pub use Rattle.std.proofs.Math.Nat.{one-le-pow, pow-suc}
pub use Rattle.std.proofs.lemmas.Bool.{cases_lt, or_left, or_right, true≢false}
pub use Rattle.std.proofs.lemmas.List.{map-append, map-id}
pub use Rattle.std.proofs.lemmas.List.Folds.{list_any-append}
pub use Rattle.std.proofs.lemmas.Result.{err_from_is_err_and}
pub use Rattle.std.specs.Prelude.{MatchOption}
