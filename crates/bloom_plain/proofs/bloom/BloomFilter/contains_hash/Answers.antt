use Rattle.std.proofs.Common.{◌≡◌, subst}
use Rattle.bloom_plain.specs.Filter.{contains, anywhere}
use Rattle.bloom_plain.proofs.ReplyLemmas.{carries_out-contains}
use Rattle.bloom_plain.proofs.bloom.BloomFilter.contains_hash.Goals as goal

pub returns-clause-found : goal.returns-clause-found
returns-clause-found g c =
    subst (λ f. c.contains_positions.result ≡ contains anywhere f c.args.hash) c.self.view_is
    c.contains_positions.ensures

pub returns-clause-same : goal.returns-clause-same
returns-clause-same g c = carries_out-contains _ _ _ (returns-clause-found g c)
