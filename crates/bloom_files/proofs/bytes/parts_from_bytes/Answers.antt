use Rattle.std.proofs.Common.{ap, arith, length, sym}
use Rattle.bloom_files.specs.declared.head.Head.{Head}
use Rattle.bloom_files.proofs.AcceptedLemmas.{accepted, body-size, end-good, head-good, head-size}
use Rattle.bloom_files.proofs.bytes.parts_from_bytes.Goals as goal

pub head_in-head-requires : goal.head_in-head-requires
head_in-head-requires c =
    let cut = c.split_at.ensures in
    head-good c.args.layout c.args.bytes.now _ _ cut.front cut.back (sym c.in_ok-check_file.ensures)

-- there is room for all words
pub push_numbers-requires : goal.push_numbers-requires
push_numbers-requires c =
    let cut = c.split_at.ensures in
    omega (
      arith,
      body-size c.args.layout c.args.bytes.now _ _ cut.front cut.back
          (sym c.in_ok-check_file.ensures),
      ap (λ (h : Head). h.num_words) c.head_in-head.ensures.head,
      c.in_ok-words.ensures.capacity,
      ap length c.in_ok-words.ensures.items,
    )

-- it is the file of the head and the words
pub returns-clause-file : goal.returns-clause-file
returns-clause-file c =
    let cut = c.split_at.ensures in
    let none = sym c.in_ok-check_file.ensures in
    let layout = c.args.layout in
    let bytes = c.args.bytes.now in
    let pushed = c.push_numbers.ensures in
    let head = c.head_in-head.ensures in
    rw head.head
    (accepted layout bytes _ _ cut.front cut.back none _ _ c.in_ok-words.ensures.items
    pushed.words pushed.bytes head.seal
    (head.bytes layout (head-size layout bytes _ _ cut.front cut.back none)
    (end-good layout bytes _ _ cut.front cut.back none)))
