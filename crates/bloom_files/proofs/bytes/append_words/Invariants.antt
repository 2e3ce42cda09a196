use Rattle.std.proofs.Common.{◌≡◌, ◌++◌, take}
use Rattle.bloom_files.specs.File.{bytes_of}
use Rattle.bloom_files.proofs.bytes.append_words.Given as goal

-- the bytes of the words so far were appended
abbrev pub invariant-words : goal.invariant-words
invariant-words l = l.bytes.items ≡ l.fn.bytes.items ++ bytes_of (take l.word-index l.words)
