use Rattle.std.specs.List.{concat}
use Rattle.bloom_parts.specs.Sip.{sip}
use Rattle.bloom_plain.proofs.DataLemmas.{data_law, same_items_law}
use Rattle.bloom_plain.proofs.laws.data_answer_alike.Goals as goal

pub returns-clause-filters : goal.returns-clause-filters
returns-clause-filters g c = data_law

pub returns-clause-items : goal.returns-clause-items
returns-clause-items g c =
    same_items_law _ (λ k0 k1 item. sip k0 k1 (concat (g.T.Hash.hash_input item)))
    (λ b k0 k1 item key. c.source_hash_by_default.ensures.item b k0 k1 item key)
