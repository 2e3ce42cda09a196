use Rattle.std.proofs.Common.{◌≡◌, false, sym, ◌∙◌, subst}
use Rattle.bloom_plain.specs.Filter.{contains}
use Rattle.bloom_growing.specs.Kinds.{placement_of}
use Rattle.bloom_growing.proofs.GrowingTakesLemmas.{takes-full}
use Rattle.bloom_growing.proofs.growing.GrowingFilterOf.insert_past.Goals as goal

pub add-requires-clause-room : goal.add-requires-clause-room
add-requires-clause-room g c = c.in_ok-begin.ensures.room

pub returns-clause-takes : goal.returns-clause-takes
returns-clause-takes g c =
    let kind = g.F.GrowableFilter.kind in
    let hash = c.args.hash in
    let none =
    subst (λ v. contains (placement_of kind) v.newest hash ≡ false) c.self.view_is
    (sym c.contains_hash.ensures ∙ c.if-contains_hash.false) in
    takes-full kind c.args.self.now hash c.begin.new.self c.add.new.self _ c.requires.new
    c.requires.full none c.in_ok-begin.ensures.begins (c.in_ok-begin.ensures.new hash)
    c.add.ensures.reply c.add.ensures.adds
