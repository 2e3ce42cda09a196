use Rattle.bloom_steps.proofs.RunLemmas.AtMostOne.{at_most_one}
use Rattle.bloom_steps.proofs.laws.at_most_one_course.Goals as goal

pub returns : goal.returns
returns c = at_most_one c.content_of_words.ensures.equality
