use Rattle.bloom_parts.proofs.HasherWordLemmas.{hashed-again}
use Rattle.bloom_parts.proofs.hasher.sip.RandomDefaultHasher.from_words.Goals as goal

pub returns : goal.returns
returns c = record {
  hasher = λ k0 k1 bytes is.
      hashed-again k0 k1 bytes c.args.words.now c.first_bytes.result is c.first_bytes.ensures.held;
}
