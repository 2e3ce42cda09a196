use Rattle.bloom_parts.proofs.bit_vector.BitVec.from_words.Goals as goal

pub returns-clause-words : goal.returns-clause-words
returns-clause-words g c = let r = c.in_ok-words.ensures in (r.0, r.1, r.2, r.3.0)
