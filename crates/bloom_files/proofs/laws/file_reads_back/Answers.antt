use Rattle.std.specs.List.{concat}
use Rattle.bloom_parts.specs.Sip.{sip}
use Rattle.bloom_files.proofs.FileLawLemmas.{blocked_refused_law, file_law, not_blocked_refused_law, readable_law, same_file_items_law}
use Rattle.bloom_files.proofs.laws.file_reads_back.Goals as goal

pub returns-clause-filters : goal.returns-clause-filters
returns-clause-filters g c = file_law

pub returns-clause-items : goal.returns-clause-items
returns-clause-items g c =
    same_file_items_law _ (λ k0 k1 item. sip k0 k1 (concat (g.T.Hash.hash_input item)))
    (λ b k0 k1 item key. c.source_hash_by_default.ensures.item b k0 k1 item key)

pub returns-clause-readable : goal.returns-clause-readable
returns-clause-readable g c = readable_law

pub returns-clause-blocked : goal.returns-clause-blocked
returns-clause-blocked g c = blocked_refused_law

pub returns-clause-not_blocked : goal.returns-clause-not_blocked
returns-clause-not_blocked g c = not_blocked_refused_law
