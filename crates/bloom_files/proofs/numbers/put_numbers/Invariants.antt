use Rattle.std.proofs.Common.{◌≡◌, ◌*◌, length, take}
use Rattle.bloom_files.specs.File.{bytes_of}
use Rattle.bloom_files.proofs.numbers.put_numbers.Given as goal

-- the numbers so far were put
abbrev pub invariant-numbers : goal.invariant-numbers
invariant-numbers l = record {
  so_far : take (8 * l.place) l.bytes ≡ bytes_of (take l.place l.numbers);
  room : length l.bytes ≡ 8 * length l.numbers;
}
