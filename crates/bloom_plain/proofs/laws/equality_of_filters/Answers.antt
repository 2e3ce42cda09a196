use Rattle.bloom_plain.proofs.LawLemmas.{equality_law, equal_content_law}
use Rattle.bloom_plain.proofs.laws.equality_of_filters.Goals as goal

pub returns-clause-words : goal.returns-clause-words
returns-clause-words g c = equality_law _

pub returns-clause-content : goal.returns-clause-content
returns-clause-content g c = equal_content_law _ c.content_of_words.ensures.equality
