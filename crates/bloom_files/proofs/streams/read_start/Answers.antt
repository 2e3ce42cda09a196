use Rattle.std.proofs.Common.{◌≡◌, Err, rules, sym, inr}
use Rattle.bloom_files.proofs.ReportLemmas.{reported-start}
use Rattle.bloom_files.proofs.streams.read_start.Goals as goal

pub returns-in_err-check_head-clause-refused : goal.returns-in_err-check_head-clause-refused
returns-in_err-check_head-clause-refused g c =
    let is : c.from_residual.result ≡ Err c.in_err-check_head.field-0.0 = search rules in
    let read = c.in-Ok.ensures in
    rw is (λ layout. inr (reported-start layout _ _ c.read_full.new.bytes c.in-Ok.count _
    c.read_full.ensures.room read.count read.taken read.end (sym c.in_err-check_head.ensures)))
