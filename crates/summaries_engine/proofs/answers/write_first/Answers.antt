use Rattle.std.proofs.Common.{◌≡◌, Err, arith, rules, ◌∙◌}
use Rattle.summaries_engine.proofs.BatchLemmas.{answers-cut, answers-more, answers-none, found-is}
use Rattle.summaries_engine.proofs.answers.write_first.Goals as goal

-- no key yet
pub keys-init : goal.keys-init
keys-init g c = record {
  few = omega arith;
  done = answers-none c.args.filter.now c.args.wanted g.row.END c.args.bytes.now _;
}

-- a write failed
pub returns-in_err-write_if-clause-part : goal.returns-in_err-write_if-clause-part
returns-in_err-write_if-clause-part g c =
    let is : c.from_residual.result ≡ Err c.in_err-write_if.field-0.0 = search rules in
    let done = c.keys.invariant.done in
    rw is
    (answers-cut done c.in-Some.ensures
    (c.is_set.ensures
    ∙ found-is c.args.filter.now c.contains_hashes.new.found c.contains_hashes.ensures.found
    c.requires.hashes done.cuts c.in-Some.ensures c.keys.count done.counted c.keys-test.true)
    c.in_err-write_if.ensures.part)

-- one key more
pub keys-preserved : goal.keys-preserved
keys-preserved g c =
    let done = c.keys.invariant.done in record {
      few = omega (arith, c.keys-test.true);
      done = answers-more done c.in-Some.ensures
          (c.is_set.ensures
          ∙ found-is c.args.filter.now c.contains_hashes.new.found c.contains_hashes.ensures.found
          c.requires.hashes done.cuts c.in-Some.ensures c.keys.count done.counted
          c.keys-test.true)
          c.in_ok-write_if.ensures.wrote;
    }
