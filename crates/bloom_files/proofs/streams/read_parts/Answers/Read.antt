-- What `read_parts` has read where it refuses nothing.
use Rattle.std.proofs.Common.{ap, sym, ◌∙◌}
use Rattle.bloom_files.proofs.Common.{Head, wrong_seal}
use Rattle.bloom_files.proofs.ReadLemmas.{reads-parts}
use Rattle.bloom_files.proofs.streams.read_parts.Goals as goal

-- the head and the words of the file
pub parts-read : goal.returns-clause-file
parts-read g c =
    let begun = c.in_ok-start.ensures in
    let read = c.in_ok-read_words.ensures in
    let ended = c.in_ok-read_end.ensures in
    let head = c.head_in-head.ensures in
    let none = sym c.in_ok-check_layout.ensures in
    rw head.head
    (reads-parts _ _ _ _ begun.size begun.good begun.taken _ _ _ read.taken
    (read.count ∙ ap (λ (h : Head). h.num_words) head.head) _ ended.nothing ended.end
    c.args.layout c.finish.result c.begin_seal-hasher.ensures c.finish.ensures.hash none
    (ap (λ n. wrong_seal n c.finish.result) (sym c.number_at.ensures.value)
    ∙ sym c.in_ok-check_seal.ensures) head.seal (head.bytes c.args.layout begun.size none))
