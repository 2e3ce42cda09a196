use Rattle.bloom_plain.proofs.LawLemmas.{rebuilt_law}
use Rattle.bloom_plain.proofs.laws.rebuilt_answers_alike.Goals as goal

pub returns : goal.returns
returns g c = rebuilt_law _
