use Rattle.std.proofs.Common.{take, ◌∙◌, subst, length-set, arith}
use Rattle.std.proofs.lemmas.List.{take_more_set}
use Rattle.duplicates_engine.specs.declared.ahead.Looked.{Looked}
use Rattle.duplicates_engine.specs.Ahead.{IsLookedAt}
use Rattle.duplicates_engine.proofs.AheadLemmas.{behind-end, looked-more}
use Rattle.duplicates_engine.proofs.ahead.find_lines.Goals as goal

pub lines-preserved : goal.lines-preserved
lines-preserved g c =
    let so_far = c.lines.invariant in
    let has_hash = g.V.Sieve.has_hash c.args.sieve.now in
    let one : Looked =
    record { length = c.in-Some.length; hash = c.hash_of-hash.result } in
    let is : IsLookedAt has_hash g.row.END c.args.longest c.lines.rest.now one = record {
      ends = c.in-Some.ensures;
      short = c.if-length-longest.false;
      hashed = subst (λ b. has_hash b one.hash) c.split_at.ensures.front c.hash_of-hash.ensures;
    } in
    let more = looked-more has_hash g.row.END c.args.longest c.args.waiting.now c.lines.rest.now
    (take c.lines.count c.lines.lines) one so_far.looked is in
    record {
      looked =
          rw (
            take_more_set c.lines.lines c.lines.count one
                (omega (arith, so_far.room, c.lines-test.true)),
            behind-end c.in-Some.length c.lines.rest.now c.split_at.result.1.now
                c.split_at.ensures.back,
          )
          more;
      count = omega (arith, c.lines-test.true);
      room = length-set c.lines.lines c.lines.count one ∙ so_far.room;
    }
