use Rattle.std.proofs.Common.{◌≡◌, true, refl, rules}
use Rattle.duplicates_engine.specs.Kept.{writes_line}
use Rattle.duplicates_engine.proofs.WriteLemmas.{tells-writer, writes-all, writes-part}
use Rattle.duplicates_engine.proofs.output.put_chosen.Goals as goal

pub returns-in-Ok : goal.returns-in-Ok
returns-in-Ok g c =
    let is : writes_line c.args.options c.args.line.now c.args.is_held ≡ true = search rules in
    rw is (writes-all _ _ _ _ c.in-Ok.ensures.whole refl)

pub returns-in-Err : goal.returns-in-Err
returns-in-Err g c =
    let is : writes_line c.args.options c.args.line.now c.args.is_held ≡ true = search rules in
    rw is (writes-part _ _ _ _ (tells-writer _ _ c.of_writer.ensures) c.in-Err.ensures.part)
