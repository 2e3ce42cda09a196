-- The names that most proofs of this crate cite, besides those of the standard library, passed on
-- from one place. Declares nothing.
pub use Rattle.bloom_files.specs.File.{FitsWords, HasOwnKey, head_of, mark}
unfoldable pub use Rattle.bloom_files.specs.File.{bytes_of}
pub use Rattle.bloom_files.specs.FileLayouts.{AreWhole, IsFileIn, ReadsParts, WritesParts, file_in, layout_number, layout_refusal, numbers_in, refusal_in, right_seal, seal_refusal_in, sealed_bytes, sealed_file, sealed_numbers}
pub use Rattle.bloom_files.specs.FileRefusals.{has_number, head_in, head_refusal, length_refusal, number_at, wrong_seal}
pub use Rattle.bloom_files.specs.FilterFiles.{IsFileOf}
pub use Rattle.bloom_files.specs.declared.error.FileError.{FileError}
pub use Rattle.bloom_files.specs.declared.error.FileError.TheVariants.{Blocked, Cut, EmptyWords, HashCount, Input, Memory, NotAFilter, NotBlocked, PartOfALine, Reserved, Seal, TooLong, TooManyWords, Version}
pub use Rattle.bloom_files.specs.declared.head.Head.{Head}
pub use Rattle.bloom_files.specs.declared.layout.Layout.{Layout}
pub use Rattle.bloom_files.specs.declared.layout.Layout.TheVariants.{Lines, Whole}
pub use Rattle.bloom_parts.specs.Content.{AreWords}
pub use Rattle.bloom_parts.specs.Hashed.{Hashed, SipState, Takes}
unfoldable pub use Rattle.bloom_parts.specs.Sip.{absorb, answer, rest, round, sip, start, whole_words}
pub use Rattle.bloom_plain.specs.Data.{DefaultFilter}
pub use Rattle.lines.proofs.WritingLemmas.{IsWriting}
pub use Rattle.lines.specs.Writing.{AppendsPart}
pub use Rattle.std.proofs.KnownBytes.{Appends-trans}
pub use Rattle.std.proofs.lemmas.Bool.{le-leb}
pub use Rattle.std.proofs.lemmas.Grind.{common_steps}
pub use Rattle.std.proofs.lemmas.List.Elements.{All-from_recursion}
pub use Rattle.std.proofs.lemmas.Result.{on_ok_weaker}
pub use Rattle.std.specs.Int.{from_le_bytes, to_le_bytes, w64}
pub use Rattle.std.specs.Io.KnownBytes.{Appends, Consumes, IsAtEnd}
pub use Rattle.std.specs.Option.{option_or}
pub use Rattle.std.specs.Prelude.{IfSome, map, slice_index, ◌⊎◌}
