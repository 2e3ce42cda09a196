-- Lemmas by which `src/laws.rt` is proved with no answer.
use Rattle.bloom_parts.proofs.DensityLemmas.{density_law}
use Rattle.bloom_parts.proofs.FormulaLemmas.{formula_law}
use Rattle.bloom_parts.proofs.HalvingLemmas.{cover_law}
use Rattle.bloom_parts.proofs.HashedLemmas.{joining_law}
use Rattle.bloom_parts.proofs.MeanLemmas.{lists_law, mean_law, positives_law, powers_law}
use Rattle.bloom_parts.proofs.PlaceLemmas.{positions_law, range_law, subset_law}
use Rattle.bloom_parts.proofs.RoundingLemmas.{half_up_law}
use Rattle.bloom_parts.proofs.ShareLemmas.{even_law, reached_law}
use Rattle.bloom_parts.proofs.UpperLemmas.{upper_law}
use Rattle.bloom_parts.proofs.WordLemmas.{bound_law, equal_words_law}

pub ruleset laws = (
  equal_words_law,
  bound_law,
  density_law,
  lists_law,
  mean_law,
  half_up_law,
  cover_law,
  joining_law,
  positions_law,
  range_law,
  formula_law,
  upper_law,
  positives_law,
  powers_law,
  reached_law,
  even_law,
  subset_law,
)
