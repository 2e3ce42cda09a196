use Rattle.std.proofs.Common.{refl}
use Rattle.bloom_parts.specs.declared.math.roots.TheConstants.{ROOTS}
use Rattle.bloom_parts.proofs.RootLemmas.{root-in}
use Rattle.bloom_parts.proofs.math.roots.root.Goals as goal

pub returns : goal.returns
returns c = root-in ROOTS c.args.j refl c.requires
