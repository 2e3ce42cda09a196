-- Passed words may go to any thread: what is known of them names no thread.
use Rattle.atomic_table.proofs.Names.{List, [], ◌∷◌, ℕ, ◌+◌, RawPtr, usize, Ptr, block_of, count_of}
use base.Shift.{Keyless}
use denote.Struct.Struct.{exits_of}
use denote.Struct.Owning.{shape, fields, to}
use denote.Param.Send.{IsSend, AllSend, owning_send, struct_send, sendable}
use Rattle.std_alloc.proofs.SendSync.{quiet}
use Rattle.atomic_table.specs.Seated.{row}
use Rattle.fastbloom_c.specs.Passed.{words_lie}
use Rattle.fastbloom_c.specs.contracts.passed_words.PassedWords.{the_row, the_type}

ps : IsSend RawPtr
ps = search sendable

ns : IsSend usize
ns = search sendable

row_keyless : (b o : ℕ) (ms : List ℕ) → Keyless (row b o ms)
row_keyless b o [] = tt
row_keyless b o (m ∷ ms) = (tt, row_keyless b (o + 8) ms)

lie_keyless : (p : Ptr) (n : ℕ) → Keyless (words_lie p n)
lie_keyless p n = ((λ _. tt), λ ms. ((λ _. tt), row_keyless (block_of p) (count_of p) ms))

pub send : IsSend the_row
send = let all : AllSend (fields the_type) = (ps, (ns, tt)) in
    owning_send the_type all (λ d. lie_keyless d.at d.len) (λ k. quiet (to the_type) (exits_of k
    (fields the_type)) ((struct_send (shape the_type) all).leaving k))
