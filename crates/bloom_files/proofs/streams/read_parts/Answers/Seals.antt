-- What `read_parts` answers where it comes to the seal.
use Rattle.std.proofs.Common.{◌≡◌, Err, rules, ap, sym, ◌∙◌}
use Rattle.bloom_files.proofs.Common.{Head, wrong_seal}
use Rattle.bloom_files.proofs.ReadLemmas.{reported-seal}
use Rattle.bloom_files.proofs.streams.read_parts.Goals as goal

-- the seal is wrong
pub error-seal : goal.returns-in_err-check_seal-clause-refused
error-seal g c =
    let is : c.from_residual-in_err-check_seal.result ≡ Err c.in_err-check_seal.field-0.0 =
    search rules in
    let begun = c.in_ok-start.ensures in
    let read = c.in_ok-read_words.ensures in
    let ended = c.in_ok-read_end.ensures in
    rw is (reported-seal _ _ _ _ begun.size begun.good begun.taken _ _ _ read.taken
    (read.count ∙ ap (λ (h : Head). h.num_words) c.head_in-head.ensures.head) _ ended.nothing
    ended.end c.args.layout _ c.finish.result c.begin_seal-hasher.ensures
    c.finish.ensures.hash (sym c.in_ok-check_layout.ensures)
    (c.in_err-check_seal.ensures
    ∙ ap (λ n. wrong_seal n c.finish.result) c.number_at.ensures.value))

-- nothing is refused
pub none-refused : goal.returns-clause-refused
none-refused g c =
    let begun = c.in_ok-start.ensures in
    let read = c.in_ok-read_words.ensures in
    let ended = c.in_ok-read_end.ensures in
    reported-seal _ _ _ _ begun.size begun.good begun.taken _ _ _ read.taken
    (read.count ∙ ap (λ (h : Head). h.num_words) c.head_in-head.ensures.head) _ ended.nothing
    ended.end c.args.layout _ c.finish.result c.begin_seal-hasher.ensures
    c.finish.ensures.hash (sym c.in_ok-check_layout.ensures)
    (c.in_ok-check_seal.ensures ∙ ap (λ n. wrong_seal n c.finish.result) c.number_at.ensures.value)
