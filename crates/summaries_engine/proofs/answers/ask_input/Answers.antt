use Rattle.std.proofs.Common.{◌≡◌, ◌∙◌, ap, inl, Err, rules}
use Rattle.std.proofs.lemmas.Result.{IfErr-weaker}
use Rattle.summaries_engine.proofs.Common.{IsUnwritten, has_hash, hash_in}
use Rattle.summaries_engine.proofs.AskingLemmas.{answering-front, answering-kept, asking-front, asking-stops, asking-unflushed, asking-within, on-ok, writes-cut, writes-none, writes-reply}
use Rattle.summaries_engine.proofs.KeyLemmas.{next-long, read-next, read-none, read-whole}
use Rattle.summaries_engine.proofs.answers.ask_input.Goals as goal

-- no key yet
pub keys-init : goal.keys-init
keys-init g c =
    let new = c.new.ensures in
    read-none g.row.END c.in-Ok.is new.empty new.«open» new.longest
    (writes-none c.args.filter.now c.args.wanted g.row.END _)

-- a write failed within the keys that waited
pub returns-in_err-number-clause-stops : goal.returns-in_err-number-clause-stops
returns-in_err-number-clause-stops g c =
    let cut = c.in_err-number in
    let is : c.from_residual.result ≡ Err cut.field-0.0 = search rules in
    rw is
    (asking-front c.keys.invariant c.args.name.now cut.field-0.0 cut.ensures.part
    cut.ensures.failed)

-- a flush of the answers failed
pub returns-in_err-flush_before_a_read-clause-stops
    : goal.returns-in_err-flush_before_a_read-clause-stops
returns-in_err-flush_before_a_read-clause-stops g c =
    let cut = c.in_err-flush_before_a_read in
    let is : c.from_residual-in_err-flush_before_a_read.result ≡ Err cut.field-0.0 = search rules in
    rw is
    (asking-unflushed
    (answering-front c.keys.invariant c.answer_waiting.new.lines c.in_ok-number.ensures.wrote
    c.answer_waiting.ensures.ended c.answer_waiting.ensures.longest) c.args.name.now
    cut.field-0.0 c.flush_before_a_read.ensures.kept cut.ensures.failed)

-- all keys
pub returns-in-Ok-End-clause-all : goal.returns-in-Ok-End-clause-all
returns-in-Ok-End-clause-all g c =
    let so_far = answering-kept
    (answering-front c.keys.invariant c.answer_waiting.new.lines c.in_ok-number.ensures.wrote
    c.answer_waiting.ensures.ended c.answer_waiting.ensures.longest)
    c.flush_before_a_read.ensures.kept in
    on-ok c.flush.result _
    (read-whole (answering-kept so_far c.flush.ensures.kept) c.next_line.new.self _
    (rw c.in-Ok-End.field-0-is at c.in-Ok-End.ensures.next))

-- the last flush failed
pub returns-in-Ok-End-clause-stops : goal.returns-in-Ok-End-clause-stops
returns-in-Ok-End-clause-stops g c =
    let so_far = answering-kept
    (answering-front c.keys.invariant c.answer_waiting.new.lines c.in_ok-number.ensures.wrote
    c.answer_waiting.ensures.ended c.answer_waiting.ensures.longest)
    c.flush_before_a_read.ensures.kept in
    IfErr-weaker c.flush.result IsUnwritten _
    (λ stop says. asking-unflushed so_far c.args.name.now stop c.flush.ensures.kept says)
    c.flush.ensures.failed

-- a key is too long
pub returns-in-Ok-TooLong-clause-stops : goal.returns-in-Ok-TooLong-clause-stops
returns-in-Ok-TooLong-clause-stops g c =
    let so_far = answering-kept
    (answering-front c.keys.invariant c.answer_waiting.new.lines c.in_ok-number.ensures.wrote
    c.answer_waiting.ensures.ended c.answer_waiting.ensures.longest)
    c.flush_before_a_read.ensures.kept in
    let name = c.args.name.now in
    asking-stops so_far name c.too_long.result
    (next-long so_far name c.too_long.result c.next_line.new.self _
    (rw c.in-Ok-TooLong.field-0-is at c.in-Ok-TooLong.ensures.next) c.too_long.ensures)

-- a read failed
pub returns-in-Err-clause-stops : goal.returns-in-Err-clause-stops
returns-in-Err-clause-stops g c =
    let so_far = answering-kept
    (answering-front c.keys.invariant c.answer_waiting.new.lines c.in_ok-number.ensures.wrote
    c.answer_waiting.ensures.ended c.answer_waiting.ensures.longest)
    c.flush_before_a_read.ensures.kept in
    asking-stops so_far c.args.name.now c.unread.result (inl c.unread.ensures.failed)

-- a write failed
pub returns-in_err-write_if-clause-stops : goal.returns-in_err-write_if-clause-stops
returns-in_err-write_if-clause-stops g c =
    let so_far = answering-kept
    (answering-front c.keys.invariant c.answer_waiting.new.lines c.in_ok-number.ensures.wrote
    c.answer_waiting.ensures.ended c.answer_waiting.ensures.longest)
    c.flush_before_a_read.ensures.kept in
    let now = c.in-Ok-Line.ensures in
    let cut = c.in_err-write_if in
    let f = c.args.filter.now in
    let new = c.next_line.new.self in
    let hashed : c.hash_of-hash.result ≡ hash_in f new.line = search rules in
    let is : c.from_residual-in_err-write_if.result ≡ Err cut.field-0.0 = search rules in
    rw is
    (asking-within c.args.name.now cut.field-0.0
    (read-next so_far new (rw c.in-Ok-Line.field-0-is at now.next) now.knows now.longest
    (writes-cut so_far.done new.line c.contains_hash.result
    (c.contains_hash.ensures ∙ ap (has_hash f) hashed)
    (rw c.line-in-keys.ensures at cut.ensures.part))) cut.ensures.failed)

-- one key more
pub keys-preserved : goal.keys-preserved
keys-preserved g c =
    let so_far = answering-kept
    (answering-front c.keys.invariant c.answer_waiting.new.lines c.in_ok-number.ensures.wrote
    c.answer_waiting.ensures.ended c.answer_waiting.ensures.longest)
    c.flush_before_a_read.ensures.kept in
    let now = c.in-Ok-Line.ensures in
    let f = c.args.filter.now in
    let new = c.next_line.new.self in
    let hashed : c.hash_of-hash.result ≡ hash_in f new.line = search rules in
    read-next so_far new (rw c.in-Ok-Line.field-0-is at now.next) now.knows now.longest
    (writes-reply so_far.done new.line c.contains_hash.result
    (c.contains_hash.ensures ∙ ap (has_hash f) hashed)
    (rw c.line-in-keys.ensures at c.in_ok-write_if.ensures.wrote))
