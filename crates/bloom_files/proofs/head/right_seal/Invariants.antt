use Rattle.std.proofs.Common.{◌++◌, take}
use Rattle.bloom_files.proofs.Common.{Hashed, bytes_of, sealed_numbers}
use Rattle.bloom_files.proofs.head.right_seal.Given as goal

-- what the seal covers of the head, and the words so far, are taken in
abbrev pub invariant-words : goal.invariant-words
invariant-words l =
    Hashed l.hasher 0 0
    (bytes_of (sealed_numbers l.fn.layout l.fn.head) ++ bytes_of (take l.word-index l.words))
