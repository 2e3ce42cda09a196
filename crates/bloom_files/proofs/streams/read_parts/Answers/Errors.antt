-- Why `read_parts` refuses a file, before the seal is compared.
use Rattle.std.proofs.Common.{◌≡◌, Err, rules, ap, ◌∙◌}
use Rattle.bloom_files.specs.declared.head.Head.{Head}
use Rattle.bloom_files.proofs.ReadLemmas.{reported-end, reported-head, reported-layout, reported-words}
use Rattle.bloom_files.proofs.streams.read_parts.Goals as goal

-- the head is refused, or wasn't read
pub error-start : goal.returns-in_err-start-clause-refused
error-start g c =
    let is : c.from_residual.result ≡ Err c.in_err-start.field-0.0 = search rules in
    rw is (reported-head c.args.layout _ _ (c.in_err-start.ensures.refused c.args.layout))

-- the words weren't read
pub error-words : goal.returns-in_err-read_words-clause-refused
error-words g c =
    let is : c.from_residual-in_err-read_words.result ≡ Err c.in_err-read_words.field-0.0 =
    search rules in
    let begun = c.in_ok-start.ensures in
    rw is (reported-words _ _ _ begun.size begun.good begun.taken c.args.layout _
    (ap (λ (h : Head). h.num_words) c.head_in-head.ensures.head) _
    c.in_err-read_words.ensures.stops)

-- the reader isn't at its end
pub error-end : goal.returns-in_err-read_end-clause-refused
error-end g c =
    let is : c.from_residual-in_err-read_end.result ≡ Err c.in_err-read_end.field-0.0 =
    search rules in
    let begun = c.in_ok-start.ensures in
    let read = c.in_ok-read_words.ensures in
    rw is (reported-end _ _ _ _ begun.size begun.good begun.taken _ _ _ read.taken
    (read.count ∙ ap (λ (h : Head). h.num_words) c.head_in-head.ensures.head)
    c.args.layout _ c.in_err-read_end.ensures.more)

-- the end of the head is refused
pub error-layout : goal.returns-in_err-check_layout-clause-refused
error-layout g c =
    let is : c.from_residual-in_err-check_layout.result ≡ Err c.in_err-check_layout.field-0.0 =
    search rules in
    let begun = c.in_ok-start.ensures in
    let read = c.in_ok-read_words.ensures in
    let ended = c.in_ok-read_end.ensures in
    rw is (reported-layout _ _ _ _ begun.size begun.good begun.taken _ _ _ read.taken
    (read.count ∙ ap (λ (h : Head). h.num_words) c.head_in-head.ensures.head) _ ended.nothing
    ended.end c.args.layout _ c.in_err-check_layout.ensures)
