-- The names that most proofs of this crate cite, besides those of the standard library, passed on
-- from one place. Declares nothing.
pub use Rattle.atomic_table.specs.Seated.{TableId}
pub use Rattle.atomic_table.specs.Table.{Allows, keeps, step}
pub use Rattle.bloom_parts.proofs.PublishedLemmas.{bit_is_on-mask, content-past, part-from}
pub use Rattle.bloom_parts.specs.Chain.{IsAt}
unfoldable pub use Rattle.bloom_parts.specs.Chain.{chain}
pub use Rattle.bloom_parts.specs.Content.{bit_is_on}
unfoldable pub use Rattle.bloom_parts.specs.Content.{content}
pub use Rattle.bloom_parts.specs.Made.{BeganWith, FoundByLoad, SharedWords}
pub use Rattle.bloom_parts.specs.Places.{IsPart, place}
unfoldable pub use Rattle.bloom_parts.specs.Places.{are_in, positions}
pub use Rattle.bloom_plain.specs.Builders.{IsSizeOf, RateStart, empty_start, sized_filter, words_for}
pub use Rattle.bloom_plain.specs.Filter.{Filter}
pub use Rattle.bloom_plain.specs.SharedFilters.{HasFormOf, SharedFilter}
pub use Rattle.fastbloom.specs.Fill.{AnyCuttingLaw, FilledByInsertsLaw, FilledByUnionLaw, FilledContainsLaw, HaveSameHashes, IsFilledWith, IsPositionOfOne, UnionOfPositionsLaw, hashes_of, positions_of_all, words_of}
pub use Rattle.fastbloom.specs.Loads.{LooksAt, Views}
pub use Rattle.fastbloom.specs.Passes.{Closes, Finds, GrowsBeside, InsertsAs, IsNewPass, IsSamePass, IsSure, Looks, Meets, SeatedFilter, Sight, contains_known, gained_of, known_of, seated_num_bits, seated_positions, sight_of, sure_of}
pub use Rattle.fastbloom.specs.Plays.{FilterSeat, IsFirst, IsFresh, Puts, Shows, after_load, after_or, informed, note_of, sure_in, with_bits}
pub use Rattle.fastbloom.specs.Rule.{Has, IsGained, IsSeated, Standing, first_view, passes_of}
pub use Rattle.fastbloom.specs.Sets.{fresh_in, ones_in}
unfoldable pub use Rattle.fastbloom.specs.Sets.{set_of}
pub use Rattle.fastbloom.specs.Shared.{HasFormFor, MakesInserts}
pub use Rattle.fastbloom.specs.declared.seated.rule.Role.TheVariants.{First, Note, Pass, Spent}
pub use Rattle.fastbloom.specs.declared.seated.rule.Sets.{Sets}
pub use Rattle.std.proofs.Math.Bool.{or-false, or_assoc}
pub use Rattle.std.proofs.lemmas.Bool.{and_from, and_parts, both_ways, cases_Bool, cases_eq, cases_lt, eq-eqb, eqb-true, false_from_ne_true, ne_eqb, or_cases, or_left, or_right}
pub use Rattle.std.proofs.lemmas.List.{length-replicate, map-append}
pub use Rattle.std.proofs.lemmas.List.Elements.{All-push}
pub use Rattle.std.specs.List.{Contains, concat}
pub use Rattle.std.specs.Prelude.{All}
