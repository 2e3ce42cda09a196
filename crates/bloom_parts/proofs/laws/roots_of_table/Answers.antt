use Rattle.std.proofs.Common.{refl}
use Rattle.bloom_parts.specs.declared.math.roots.TheConstants.{ROOTS}
use Rattle.bloom_parts.proofs.RootLemmas.{root-in}
use Rattle.bloom_parts.proofs.laws.roots_of_table.Goals as goal

pub returns : goal.returns
returns c j within = root-in ROOTS j refl within
