-- The names that most proofs of this crate cite, besides those of the standard library, passed on
-- from one place. Declares nothing.
pub use Rattle.anyhow.specs.Error.{HasMessage, error_message}
pub use Rattle.anyhow.specs.declared.error.Error.{Error}
pub use Rattle.bloom_files.specs.FileLayouts.{refusal_in}
pub use Rattle.bloom_files.specs.FileRefusals.{number_at}
pub use Rattle.bloom_files.specs.declared.layout.Layout.{Layout}
pub use Rattle.bloom_files.specs.declared.layout.Layout.TheVariants.{Lines, Whole}
pub use Rattle.bloom_parts.proofs.PublishedLemmas.{content-zeros}
unfoldable pub use Rattle.bloom_parts.specs.Chain.{chain}
pub use Rattle.bloom_parts.specs.Content.{AreWords}
unfoldable pub use Rattle.bloom_parts.specs.Content.{content}
unfoldable pub use Rattle.bloom_parts.specs.Counts.{count_on}
pub use Rattle.bloom_parts.specs.Keys.{HasKey, key_of}
unfoldable pub use Rattle.bloom_parts.specs.Places.{are_in, positions}
unfoldable pub use Rattle.bloom_parts.specs.Sip.{absorb, answer, rest, round, sip, start, whole_words}
pub use Rattle.bloom_plain.proofs.CaseLemmas.{alike_below, content-case, content-past}
pub use Rattle.fastbloom.specs.Data.{DefaultFilter}
pub use Rattle.fastbloom.specs.Fill.{AnyCuttingLaw, FilledContainsLaw, HaveSameHashes, hashes_of, positions_of_all, words_of}
pub use Rattle.fastbloom.specs.Filter.{SameShape, num_bits_of}
pub use Rattle.fastbloom.specs.Laws.{EqualContentLaw, EqualityLaw}
pub use Rattle.fastbloom.specs.Lines.{LineRangeLaw, LineSubsetLaw, line_positions}
pub use Rattle.fastbloom.specs.Replies.{InsertsAll}
pub use Rattle.fastbloom.specs.declared.parallel.shape.Shape.{Shape}
pub use Rattle.lines.proofs.WritingLemmas.{part-second}
unfoldable pub use Rattle.lines.specs.Lines.{lines_by}
pub use Rattle.lines.specs.Reading.{AreShort, Ends, IsReadFromBy, KnowsEnd, TakesShortBy, Waiting, left_of}
pub use Rattle.lines.specs.Writing.{AppendsPart, Begins}
pub use Rattle.std.proofs.KnownBytes.{Appends-kept, Appends-nil, Appends-trans}
pub use Rattle.std.proofs.lemmas.Grind.{flat_map-append}
pub use Rattle.std.proofs.lemmas.List.{get_or-map, length-map, map-append, nil_from_length}
pub use Rattle.std.proofs.lemmas.List.Elements.{All-append, All-from_recursion, All-head, All-nil, All-push, All-tail}
pub use Rattle.std.proofs.lemmas.List.Folds.{list_any-append}
pub use Rattle.std.proofs.lemmas.Result.{IfOk-weaker}
unfoldable pub use Rattle.std.specs.Fmt.{char_count, digits, padded_integral}
pub use Rattle.std.specs.Io.KnownBytes.{Appends, Keeps}
pub use Rattle.std.specs.List.{Contains, list_any, starts_with}
pub use Rattle.std.specs.Prelude.{All, IfOk, Result, if◌then◌else◌, nat_eq, nat_le, slice_index_or, ◌&&◌}
pub use Rattle.summaries_engine.specs.Answers.{IsKeyed, WritesWanted, is_wanted, wanted_text}
pub use Rattle.summaries_engine.specs.Batches.{AnswersFirst, AnswersPart, CutsKeys, HashesFirst}
pub use Rattle.summaries_engine.specs.Comparing.{TellsBoth}
pub use Rattle.summaries_engine.specs.Crews.{HoldTogether, InsertParts}
pub use Rattle.summaries_engine.specs.Fillers.{FillsMore, HasTaken}
pub use Rattle.summaries_engine.specs.Inputs.{HashesInputs, HaveKeys, Lies, SummarizesInputs}
pub use Rattle.summaries_engine.specs.Kinds.{HaveOneShape, HaveSameKind, IsFileOfKind, TellsEach, UnitesParts, has_hash, layout_of, parts_of}
pub use Rattle.summaries_engine.specs.Named.{AreNamed, Named, StopsUniting}
pub use Rattle.summaries_engine.specs.Refusals.{DiffersBy, IsUnitable, too_long_text}
pub use Rattle.summaries_engine.specs.Sizes.{HasSeed, IsEmpty, IsShapeOf}
pub use Rattle.summaries_engine.specs.Stops.{IsBad, IsReasonAfter, IsUnwritten, Says, StopsAnswers}
pub use Rattle.summaries_engine.specs.Summaries.{HaveSameKey, HaveSameKeys, IsFilled, IsSummaryOf, IsUnionOf, UnitesShards, hash_in, joined, positions_in}
pub use Rattle.summaries_engine.specs.declared.answers.Wanted.{Wanted}
pub use Rattle.summaries_engine.specs.declared.form.Form.{Form}
pub use Rattle.summaries_engine.specs.declared.form.Form.TheVariants.{Json, Sealed, Unsealed}
pub use Rattle.summaries_engine.specs.declared.kinds.AnyFilter.{AnyFilter}
pub use Rattle.summaries_engine.specs.declared.kinds.AnyFilter.TheVariants.{Blocked, Classic}
pub use Rattle.summaries_engine.specs.declared.stop.Stop.{Stop}
pub use Rattle.summaries_engine.specs.declared.stop.Stop.TheVariants.{Bad, Input, Memory, Output}
