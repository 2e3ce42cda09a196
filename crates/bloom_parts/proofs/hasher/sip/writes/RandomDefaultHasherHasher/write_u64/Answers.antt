use Rattle.std.proofs.Common.{[], ◌∷◌, ◌∙◌, ap}
use Rattle.bloom_parts.proofs.Common.{concat, w64, to_le_bytes, write}
use Rattle.bloom_parts.proofs.HashedLemmas.{takes}
use Rattle.bloom_parts.proofs.hasher.sip.writes.RandomDefaultHasherHasher.write_u64.Goals as goal

pub returns-then-self-eq0-clause-taken : goal.returns-then-self-eq0-clause-taken
returns-then-self-eq0-clause-taken c =
    takes c.args.self.now c.push_words.new.self (to_le_bytes w64 c.args.i)
    (c.push_words.ensures
    ∙ ap (λ word. write c.args.self.now (concat (word ∷ []))) c.to_le_bytes.ensures)
