use Rattle.bloom_parts.proofs.FillLemmas.{IsFilled}
use Rattle.bloom_parts.proofs.hasher.sip.number_with.Given as goal

-- the word is that of the bytes held and of the first that come
abbrev pub invariant-bytes : goal.invariant-bytes
invariant-bytes l = IsFilled l.fn.buffer l.count l.bytes l.byte-index l.word l.held
