use Rattle.std.proofs.Common.{◌≤◌, ℕ, List, [], sym, ◌∙◌, subst, arith}
use Rattle.atomic_table.specs.Table.{opening}
use Rattle.fastbloom.specs.Rule.{IsSeated, first_view}
use Rattle.fastbloom.proofs.SeatedLemmas.Opening.{opens}
use Rattle.fastbloom.proofs.seated.filter.SeatedBloomFilter.new.Goals as goal

-- at words that are all zero the first seat keeps the rule
pub of_words-requires : goal.of_words-requires
of_words-requires c =
    let least : 1 ≤ c.max.result = omega (arith, c.max.ensures) in
    subst (λ (l : List ℕ). IsSeated c.len-num_words.result c.max.result
    (opening l [] (first_view c.len-num_words.result c.max.result)))
    (sym (c.as_slice.ensures.value ∙ c.in_ok-zeros.ensures.items_if_clones_equal (λ y same. same)))
    (opens c.len-num_words.result c.max.result least)
