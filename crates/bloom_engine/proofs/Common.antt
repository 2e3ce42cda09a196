-- The names that most proofs of this crate cite, besides those of the standard library, passed on
-- from one place. Declares nothing.
pub use Rattle.bloom_engine.specs.Lines.{longest_line, operations}
unfoldable pub use Rattle.bloom_engine.specs.Lines.{line_of, number_of}
pub use Rattle.bloom_engine.specs.Reading.{NextCommand}
pub use Rattle.bloom_engine.specs.Served.{Applied, AreAllGood, AreFirstGood, Carried, IsReadUpTo, ServedAll, ServedBefore, ServedSome, ServedUpTo}
pub use Rattle.bloom_engine.specs.Texts.{text_after, words_text}
unfoldable pub use Rattle.bloom_engine.specs.Texts.{hex_text, word_with_bits, words_with_content}
pub use Rattle.bloom_engine.specs.declared.engine.line.Line.{Line}
pub use Rattle.bloom_engine.specs.declared.engine.line.Line.TheVariants.{Clear, Contains, Insert, Words}
unfoldable pub use Rattle.bloom_parts.specs.Content.{content}
pub use Rattle.bloom_parts.specs.Operations.{state_after}
unfoldable pub use Rattle.bloom_parts.specs.Places.{are_in, positions}
pub use Rattle.bloom_plain.specs.Filter.{Filter}
pub use Rattle.bloom_plain.specs.Laws.{JoinedListsLaw}
unfoldable pub use Rattle.lines.specs.Lines.{lines_by}
pub use Rattle.lines.specs.Reading.{Waiting, left_of}
pub use Rattle.std.proofs.lemmas.Bool.{and_left, and_right, both_ways, cond-false, lt-leb}
pub use Rattle.std.specs.Io.KnownBytes.{Appends, Keeps, prepend_known}
pub use Rattle.std.specs.Prelude.{codes}
