use Rattle.std.proofs.Common.{◌≡◌, ◌++◌, take, vec_capacity}
use Rattle.bloom_files.proofs.Common.{map, w64, from_le_bytes}
use Rattle.bloom_files.proofs.numbers.push_numbers.Given as goal

-- the numbers so far were appended, and lie in the room that was there
abbrev pub invariant-numbers : goal.invariant-numbers
invariant-numbers l = record {
  items : l.words.items
      ≡ l.fn.words.items ++ map (from_le_bytes w64) (take l.number-index l.numbers);
  capacity : vec_capacity l.words ≡ vec_capacity l.fn.words;
}
