use Rattle.summaries_engine.proofs.TreeLemmas.{tree_summary_law, any_parts_law, any_part_found_law}
use Rattle.summaries_engine.proofs.laws.union_of_any_parts.Goals as goal

pub returns-clause-summary : goal.returns-clause-summary
returns-clause-summary c = tree_summary_law

pub returns-clause-same : goal.returns-clause-same
returns-clause-same c =
    any_parts_law c.equality_of_filters.ensures.words c.equality_of_filters.ensures.content
    c.fill_of_any_cutting.ensures

pub returns-clause-found : goal.returns-clause-found
returns-clause-found c = any_part_found_law c.filled_contains.ensures c.test_of_hash.ensures
