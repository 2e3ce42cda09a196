-- Where `read_parts` may tell a failed read.
use Rattle.std.proofs.Common.{◌≡◌, Err, rules, ap, ◌∙◌}
use Rattle.bloom_files.specs.declared.head.Head.{Head}
use Rattle.bloom_files.proofs.ReadLemmas.{end-early, words-early}
use Rattle.bloom_files.proofs.streams.read_parts.Goals as goal

-- the words weren't read
pub input-words : goal.returns-in_err-read_words-clause-input
input-words g c =
    let is : c.from_residual-in_err-read_words.result ≡ Err c.in_err-read_words.field-0.0 =
    search rules in
    let begun = c.in_ok-start.ensures in
    rw is (words-early _ _ _ begun.size begun.good begun.taken _ _
    (ap (λ (h : Head). h.num_words) c.head_in-head.ensures.head) _
    c.in_err-read_words.ensures.input)

-- the end wasn't read
pub input-end : goal.returns-in_err-read_end-clause-input
input-end g c =
    let is : c.from_residual-in_err-read_end.result ≡ Err c.in_err-read_end.field-0.0 =
    search rules in
    let begun = c.in_ok-start.ensures in
    let read = c.in_ok-read_words.ensures in
    rw is (end-early _ _ _ _ begun.size begun.good begun.taken _ _ _ read.taken
    (read.count ∙ ap (λ (h : Head). h.num_words) c.head_in-head.ensures.head) _ _
    c.in_err-read_end.ensures.input)
