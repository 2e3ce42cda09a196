-- The names that most proofs of this crate cite, besides those of the standard library, passed on
-- from one place. Declares nothing.
pub use Rattle.bloom_blocked.specs.Blocked.{InsertsAllInLines, InsertsItemsInLines, in_lines, num_lines_of}
pub use Rattle.bloom_blocked.specs.BlockedSizing.{IsMadeInLinesFor, IsSizeInLines, IsSizeInLinesOf, IsTooLargeInLines, line_size_refusal, sized_in_lines}
pub use Rattle.bloom_blocked.specs.LineCourses.{IsLineScript, IsMadeAsScript, taken_from}
pub use Rattle.bloom_blocked.specs.LineRates.{BoundsLines, BoundsLoadedLines, LineWasLoaded, line_words}
pub use Rattle.bloom_blocked.specs.LineSteps.{LooksInLine, SetsInLine, SetsInTurn, WasSetInLine, start_of}
pub use Rattle.bloom_blocked.specs.Lines.{LinePositionsLaw, LineRangeLaw, LineSubsetLaw, are_in_line, in_line, inner_of, line_of, line_place, line_positions}
pub use Rattle.bloom_blocked.specs.Many.{TellsNewInLines, all_are_in_lines, positions_in_lines}
pub use Rattle.bloom_parts.proofs.PublishedLemmas.{bits-next, content-zeros, many-contained, many-stretch, no-bit, place-position, position-to, range_law}
unfoldable pub use Rattle.bloom_parts.specs.Chain.{chain}
pub use Rattle.bloom_parts.specs.Content.{bit_is_on}
unfoldable pub use Rattle.bloom_parts.specs.Content.{content}
pub use Rattle.bloom_parts.specs.Made.{FoundByLoad, SharedWords}
pub use Rattle.bloom_parts.specs.Many.{is_found, is_new, with_all}
pub use Rattle.bloom_parts.specs.Places.{IsPart, place}
unfoldable pub use Rattle.bloom_parts.specs.Places.{are_in, positions}
pub use Rattle.bloom_plain.proofs.BuilderLemmas.{inserts_all-same, size_of-rate}
pub use Rattle.bloom_plain.specs.Filter.{Filter, Inserts, contains}
pub use Rattle.bloom_steps.specs.ByWords.{Lacks, SetsByWords, SetsItsPart}
pub use Rattle.bloom_steps.specs.LiveSteps.{EachInTurn, IsMade, IsMadeFrom, step_from}
pub use Rattle.bloom_steps.specs.Scripts.{Any, IsScript, Taken}
pub use Rattle.bloom_steps.specs.declared.steps.vocabulary.Call.TheVariants.{Contains, Insert}
pub use Rattle.bloom_steps.specs.declared.steps.vocabulary.End.TheVariants.{Answer}
pub use Rattle.bloom_steps.specs.declared.steps.vocabulary.Step.TheVariants.{Load}
pub use Rattle.std.proofs.Math.Bool.{or-false}
pub use Rattle.std.proofs.Math.Seq.{take-length}
pub use Rattle.std.proofs.lemmas.Bool.{both_ways, cases_eq, cases_lt, eq-eqb, eqb-true, le-ltb, lt-ltb, ne_eqb, or_left}
pub use Rattle.std.proofs.lemmas.List.{length-map}
pub use Rattle.std.proofs.lemmas.Option.{none-some, same_Some}
pub use Rattle.std.specs.Int.{bit_at, div_ceil}
