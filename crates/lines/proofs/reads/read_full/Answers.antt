use Rattle.std.proofs.Common.{◌≡◌, ◌-◌, Err, length, length-take, take, arith, rules, ◌∙◌}
use Rattle.std.proofs.KnownBytes.{Consumes-kept, Consumes-trans}
use Rattle.lines.specs.Filling.{GivesFewer}
use Rattle.lines.proofs.RoomLemmas.{take-filled}
use borrow.Rule.Slice.PartMut.{same_len_mid}
use Rattle.lines.proofs.reads.read_full.Goals as goal

pub reads-preserved : goal.reads-preserved
reads-preserved g c =
    let so_far = c.reads.invariant in
    let now = c.in_ok-more.ensures in
    let buffer = c.reads.bytes in
    let part = c.read_some.new.bytes in
    let room = length buffer - c.reads.count in
    let same = take-filled buffer part c.reads.count room c.in_ok-more.more so_far.count
    c.in_ok-more.ensures.count in
    let long = same_len_mid c.reads.count room buffer part c.read_some.ensures.room in
    record {
      taken = rw (same) (Consumes-trans _ _ _ _ _ so_far.taken c.in_ok-more.ensures.taken);
      count = omega (arith, long, now.count, now.room, so_far.count);
      room = long ∙ so_far.room;
    }

pub returns-in_err-more-clause-part : goal.returns-in_err-more-clause-part
returns-in_err-more-clause-part g c =
    let is : c.from_residual.result ≡ Err c.in_err-more.field-0.0 = search rules in
    let so_far = c.reads.invariant in
    let size = length-take c.reads.count c.reads.bytes in
    let fewer : GivesFewer (length c.args.bytes.now) (g.R.Read.remaining c.args.input.now)
    (g.R.Read.remaining c.read_some.new.input) =
    record {
      given = take c.reads.count c.reads.bytes;
      taken = Consumes-kept _ _ _ _ so_far.taken c.in_err-more.ensures.kept;
      few = omega (arith, c.reads-test.true, so_far.count, so_far.room, size);
    } in
    rw is fewer
