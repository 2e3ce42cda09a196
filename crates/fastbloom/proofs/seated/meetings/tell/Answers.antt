use Rattle.std.proofs.Common.{◌∙◌, ap}
use Rattle.fastbloom.proofs.SeatedLemmas.Steps.Splitting.{tells, hears, informed-note}
use Rattle.fastbloom.proofs.seated.meetings.tell.Goals as goal

-- the split keeps the rule
pub split_seat-note-requires : goal.split_seat-note-requires
split_seat-note-requires c =
    (c.requires.from.here, c.requires.some, tells _ _ _ _ c.requires.from_pass)

-- the join keeps the rule
pub join_seat-requires : goal.join_seat-requires
join_seat-requires c =
    let note = c.split_seat-note.ensures in
    let kept = hears _ _ _ _ _ c.args.from.now.me.0 _ c.requires.to_pass note.4 in
    (c.requires.to.here, note.3 ∙ c.requires.from.here, ap (λ m. m.1) note.4, c.requires.some, kept)

-- the pass that the note joined knows what is in it
pub returns-clause-to_informed : goal.returns-clause-to_informed
returns-clause-to_informed c =
    informed-note _ c.args.from.now.me.0 _ _ _ c.join_seat.ensures.2 c.split_seat-note.ensures.4
