use Rattle.std.proofs.Common.{◌≡◌, take, fold}
use Rattle.bloom_parts.proofs.Common.{map, w64, from_le_bytes, absorb}
use Rattle.bloom_parts.specs.States.{state_words}
use Rattle.bloom_parts.proofs.hasher.sip.RandomDefaultHasher.push_words.Given as goal

-- the words so far are taken in
abbrev pub invariant-words : goal.invariant-words
invariant-words l =
    state_words l.state
    ≡ fold absorb (state_words l.self-inside.state)
    (map (from_le_bytes w64) (take l.word-index l.words))
