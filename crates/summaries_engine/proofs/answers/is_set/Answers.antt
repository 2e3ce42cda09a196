use Rattle.std.proofs.Common.{refl}
use Rattle.bloom_parts.specs.Content.{content}
use Rattle.summaries_engine.proofs.answers.is_set.Goals as goal

pub returns : goal.returns
unfolding content
returns c = refl
