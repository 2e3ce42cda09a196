use Rattle.bloom_parts.proofs.bit_vector.gathered.gather.Goals as goal

pub returns : goal.returns
returns g c = c.in_ok-gathered.ensures.runs tt
