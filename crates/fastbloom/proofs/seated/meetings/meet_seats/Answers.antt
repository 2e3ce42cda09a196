use Rattle.std.proofs.Common.{◌∙◌, ap, sym}
use Rattle.atomic_table.specs.Seated.{TableId}
use Rattle.fastbloom.proofs.SeatedLemmas.Meets.{meets, informed-same}
use Rattle.fastbloom.proofs.seated.meetings.meet_seats.Goals as goal

-- what each heard of stays known as it looks at the words
pub returns-clause-meets : goal.returns-clause-meets
returns-clause-meets c =
    let first = c.tell.ensures in
    let second = c.tell-2.ensures in
    meets c.args.a.now c.args.b.now c.tell-2.new.to c.tell-2.new.from c.view_words.new.seat
    c.view_words-2.new.seat c.args.table.now.shared.table_id.words
    (second.to_table ∙ first.from_table) (second.from_table ∙ first.to_table)
    (second.from_same ∙ first.to_informed)
    (second.to_informed ∙ informed-same _ _ _ _ first.from_same (sym second.from_same))
    c.view_words.ensures.views c.view_words-2.ensures.views
    (c.requires.a_pass.whole ∙ ap (λ (t : TableId). t.words) c.requires.a)
    (c.requires.b_pass.whole ∙ ap (λ (t : TableId). t.words) c.requires.b)
