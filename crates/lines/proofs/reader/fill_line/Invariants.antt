use Rattle.std.proofs.Common.{◌≡◌, ◌⊎◌, true, []}
use Rattle.std.specs.Io.KnownBytes.{prepend_known}
use Rattle.lines.specs.Reading.{KnowsEnd, is_told_by}
use Rattle.lines.proofs.ReadingLemmas.{IsHalfway}
use Rattle.lines.proofs.reader.fill_line.Given as goal

-- the bytes so far were taken, and none of them ends the line; where the next line is told without
-- a read, the reader wasn't asked, since the end was told or this is the first turn
abbrev pub invariant-pieces : goal.invariant-pieces
invariant-pieces g l = record {
  half : IsHalfway g.row.END l.longest
      (prepend_known l.fn.block.bytes (g.R.Read.remaining l.fn.input))
      (prepend_known l.block.bytes (g.R.Read.remaining l.input)) l.line.items;
  knows : KnowsEnd l.ended (g.R.Read.remaining l.input);
  told : l.fn.ended ≡ true → l.ended ≡ true;
  unasked : is_told_by g.row.END l.fn.ended l.longest l.fn.block.bytes ≡ true
      → l.input ≡ l.fn.input;
  first : is_told_by g.row.END l.fn.ended l.longest l.fn.block.bytes ≡ true
      → (l.ended ≡ true)
      ⊎ record { empty : l.line.items ≡ []; block : l.block.bytes ≡ l.fn.block.bytes };
}
