use Rattle.std.proofs.Common.{◌∙◌, sym}
use Rattle.bloom_parts.specs.Made.{made_by_start}
use Rattle.bloom_parts.proofs.bit_vector.atomic.AtomicBitVec.from_words.Goals as goal

pub returns-clause-words : goal.returns-clause-words
returns-clause-words g c =
    let made = c.in_ok-words.ensures in
    let source = c.map.ensures.runs made.0 made.0.seen made.1 in
    let same = source.2 in
    let count = made.3.1 ∙ sym made.0.long ∙ same.1 ∙ source.0.long in
    (source.0, source.1, same.0 ∙ made.2, made_by_start _ _ count)

pub returns-clause-count : goal.returns-clause-count
returns-clause-count g c =
    let made = c.in_ok-words.ensures in
    let source = c.map.ensures.runs made.0 made.0.seen made.1 in
    let same = source.2 in
    (source.0, source.1, same.0 ∙ made.2, made.3.1 ∙ sym made.0.long ∙ same.1 ∙ source.0.long)
