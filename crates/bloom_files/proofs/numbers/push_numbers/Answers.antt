use Rattle.std.proofs.Common.{◌++◌, ap, sym, ◌∙◌, arith, take_all}
use Rattle.bloom_files.proofs.Common.{map, w64, from_le_bytes}
use Rattle.bloom_files.proofs.NumberLemmas.{bytes-again, whole_words-chunks}
use Rattle.bloom_files.proofs.numbers.push_numbers.Goals as goal

pub returns-clause-words : goal.returns-clause-words
returns-clause-words c =
    let numbers = c.as_chunks.result.0.now in
    let all = take_all c.numbers.number-index numbers (omega arith) in
    c.numbers.invariant.items
    ∙ ap (λ l. c.args.words.now.items ++ map (from_le_bytes w64) l)
    (all ∙ c.as_chunks.ensures.front)
    ∙ ap (λ l. c.args.words.now.items ++ l) (sym (whole_words-chunks c.args.bytes.now))

pub returns-clause-bytes : goal.returns-clause-bytes
returns-clause-bytes c =
    bytes-again c.args.bytes.now (λ i. omega (arith, c.type_inv.bytes i))
