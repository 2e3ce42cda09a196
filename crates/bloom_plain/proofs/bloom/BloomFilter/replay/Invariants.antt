use Rattle.std.proofs.Common.{◌≤◌, length, map, take, vec_len, vec_capacity}
use Rattle.bloom_plain.proofs.Common.{operation_of, CarriesOut}
use Rattle.bloom_plain.proofs.bloom.BloomFilter.replay.Given as goal

-- the commands so far were carried out, and there is room for a reply to each of the others
abbrev pub invariant-commands : goal.invariant-commands
invariant-commands g l = record {
  did : CarriesOut l.fn.self (map operation_of (take l.command-index l.list)) l.self
      l.replies.items;
  few : vec_len l.replies ≤ l.command-index;
  room : length l.list ≤ vec_capacity l.replies;
}
