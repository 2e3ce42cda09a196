-- The names that most proofs of this crate cite, besides those of the standard library, passed on
-- from one place. Declares nothing.
pub use Rattle.bloom_growing.specs.Kinds.{Kind}
pub use Rattle.bloom_growing.specs.Rotating.{Receives, Rotating}
pub use Rattle.bloom_parts.specs.Operations.{Insert}
pub use Rattle.bloom_plain.specs.Filter.{Filter}
pub use Rattle.bloom_plain.specs.Replies.{CarriesOut}
pub use Rattle.duplicates_engine.specs.Ahead.{AreLookedAt, AreLookedAtUpTo, IsLookedAt}
pub use Rattle.duplicates_engine.specs.Causes.{AreOfFirst, FailsBehind, TellsWrite}
pub use Rattle.duplicates_engine.specs.Choices.{AllLinesLaw, IsLongerAt, IsNewAt, LastLinesLaw, LeavesOutNew, WritesChoice, WritesChoiceUntil, WritesNew}
pub use Rattle.duplicates_engine.specs.Counts.{Counts, CountsLine}
pub use Rattle.duplicates_engine.specs.Faults.{IsOfSystem, IsOfWriter, IsReadAt, IsWrittenAt}
pub use Rattle.duplicates_engine.specs.Inputs.{AreFirstRead, Opens, OpensNext, TakesNext, lines_in}
pub use Rattle.duplicates_engine.specs.Kept.{EndsEarly, KeepsNew, KeepsUntil, Writes, chosen, lines_text, piece, text_of, writes_line}
pub use Rattle.duplicates_engine.specs.Longer.{is_longer, limit_of, short_lines}
pub use Rattle.duplicates_engine.specs.Sieves.{AreNew, HasSifted, IsNew, IsWithin, Reaches, SiftsAll, SiftsShort}
pub use Rattle.duplicates_engine.specs.declared.fault.Fault.{Fault}
pub use Rattle.duplicates_engine.specs.declared.fault.Fault.TheVariants.{Full, Input, Memory, Open, Output, TooLong}
pub use Rattle.duplicates_engine.specs.declared.options.Options.{Options}
pub use Rattle.duplicates_engine.specs.declared.options.Written.{Written}
pub use Rattle.duplicates_engine.specs.declared.options.Written.TheVariants.{HeldBack, New, Nothing}
pub use Rattle.duplicates_engine.specs.declared.sieve.Sieve.{Ghosts}
pub use Rattle.duplicates_engine.specs.declared.tally.Total.{Total}
pub use Rattle.lines.proofs.WritingLemmas.{Begins-whole}
unfoldable pub use Rattle.lines.specs.Lines.{lines_by}
pub use Rattle.lines.specs.Reading.{AreShort, Ends, KnowsEnd, Waiting, left_of}
pub use Rattle.std.proofs.KnownBytes.{Appends-kept}
pub use Rattle.std.proofs.lemmas.Bool.{cases_lt, true≢false}
pub use Rattle.std.proofs.lemmas.Grind.{flat_map-append}
pub use Rattle.std.proofs.lemmas.List.Elements.{All-from_recursion, All-nil}
pub use Rattle.std.specs.Io.KnownBytes.{Appends, Keeps, prepend_known}
pub use Rattle.std.specs.Prelude.{All, IfErr, IfOk, IfSome, codes}
pub use Rattle.std.specs.declared.io.ErrorKind.{ErrorKind}
