use Rattle.std.proofs.Common.{[], ◌∷◌, ◌∙◌, ap, inl}
use Rattle.summaries_engine.proofs.Common.{sip}
use Rattle.summaries_engine.proofs.KeyLemmas.{next-long, read-first, read-next, read-none, read-whole, takes-keys, takes-no_keys, taking-front}
use Rattle.summaries_engine.proofs.keys.take_keys.Goals as goal

-- no key yet
pub keys-init : goal.keys-init
keys-init g c =
    let new = c.new.ensures in (
      read-none g.row.END c.in-Ok.is new.empty new.«open» new.longest takes-no_keys,
      c.requires,
    )

-- all keys
pub returns-in-Ok-End-clause-all : goal.returns-in-Ok-End-clause-all
returns-in-Ok-End-clause-all g c =
    let so_far = taking-front c.keys.invariant.0 c.take_waiting.new.lines
    (c.in_ok-number.ensures.taken c.args.key.0 c.args.key.1 c.keyed-builder.ensures)
    c.take_waiting.ensures.ended c.take_waiting.ensures.longest in
    read-whole so_far c.next_line.new.self _
    (rw c.in-Ok-End.field-0-is at c.in-Ok-End.ensures.next)

-- a key is too long
pub returns-in-Ok-TooLong-clause-stops : goal.returns-in-Ok-TooLong-clause-stops
returns-in-Ok-TooLong-clause-stops g c =
    let so_far = taking-front c.keys.invariant.0 c.take_waiting.new.lines
    (c.in_ok-number.ensures.taken c.args.key.0 c.args.key.1 c.keyed-builder.ensures)
    c.take_waiting.ensures.ended c.take_waiting.ensures.longest in
    read-first so_far
    (next-long so_far c.args.name.now c.too_long.result c.next_line.new.self _
    (rw c.in-Ok-TooLong.field-0-is at c.in-Ok-TooLong.ensures.next) c.too_long.ensures)

-- a read failed
pub returns-in-Err-clause-stops : goal.returns-in-Err-clause-stops
returns-in-Err-clause-stops g c =
    let so_far = taking-front c.keys.invariant.0 c.take_waiting.new.lines
    (c.in_ok-number.ensures.taken c.args.key.0 c.args.key.1 c.keyed-builder.ensures)
    c.take_waiting.ensures.ended c.take_waiting.ensures.longest in
    read-first so_far (inl c.unread.ensures.failed)

-- one key more
pub keys-preserved : goal.keys-preserved
keys-preserved g c =
    let so_far = taking-front c.keys.invariant.0 c.take_waiting.new.lines
    (c.in_ok-number.ensures.taken c.args.key.0 c.args.key.1 c.keyed-builder.ensures)
    c.take_waiting.ensures.ended c.take_waiting.ensures.longest in
    let now = c.in-Ok-Line.ensures in
    let new = c.next_line.new.self in
    let hashed = c.hash_of.ensures c.args.key.0 c.args.key.1 c.keyed-builder.ensures
    ∙ ap (sip c.args.key.0 c.args.key.1) c.line.ensures in (
      read-next so_far new (rw c.in-Ok-Line.field-0-is at now.next) now.knows now.longest
          (takes-keys (new.line ∷ []) so_far.done (ap (λ h. h ∷ []) hashed)
          c.in_ok-take_hashes.ensures.taken),
      c.in_ok-take_hashes.ensures.ready,
    )
