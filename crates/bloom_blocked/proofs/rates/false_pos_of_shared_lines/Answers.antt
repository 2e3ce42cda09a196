use Rattle.std.proofs.Common.{add-one, ◌≡◌, ◌/◌, [], sym, arith}
use Rattle.bloom_blocked.proofs.LineRateLemmas.{summed-none, loaded-next, loaded-mean}
use Rattle.bloom_blocked.proofs.rates.false_pos_of_shared_lines.Goals as goal

pub lines-init : goal.lines-init
lines-init g c = record {
  words = λ line. [];
  loaded = λ line within. absurd (omega (arith, within));
  sums = summed-none (λ line. []) c.args.num_hashes;
}

-- the sums are below 2 ^ 63 a line
pub overflow_add-low : goal.overflow_add-low
overflow_add-low g c = omega (
  arith,
  c.lines.invariant.sums.ordered,
  c.lines.invariant.sums.in_range,
  c.lines-test.true,
  c.len-lines.ensures.most,
  c.low.ensures,
  c.rate_of_line-rate.result.ordered,
  c.rate_of_line-rate.result.in_range,
)

pub overflow_add-high : goal.overflow_add-high
overflow_add-high g c = omega (
  arith,
  c.lines.invariant.sums.in_range,
  c.lines-test.true,
  c.len-lines.ensures.most,
  c.high.ensures,
  c.rate_of_line-rate.result.in_range,
)

pub lines-preserved : goal.lines-preserved
lines-preserved g c =
    rw (add-one, c.low.ensures, c.high.ensures)
    (loaded-next (g.W.TurnWords.vector c.args.words.now) c.args.num_hashes c.lines.line
    c.lines.low c.lines.high c.load_line.result c.rate_of_line-rate.result c.lines.invariant
    c.load_line.ensures c.rate_of_line-rate.ensures)

pub mean-requires-clause-ordered : goal.mean-requires-clause-ordered
mean-requires-clause-ordered g c = c.lines.invariant.sums.ordered

pub mean-requires-clause-in_range : goal.mean-requires-clause-in_range
mean-requires-clause-in_range g c =
    let all : c.lines.line ≡ c.len-lines.result / 8 = omega arith in
    rw (sym all) c.lines.invariant.sums.in_range

pub returns : goal.returns
returns g c =
    let vector = g.W.TurnWords.vector c.args.words.now in
    let all : c.lines.line ≡ vector.count / 8 = omega (arith, c.len-lines.ensures.value) in
    loaded-mean vector c.args.num_hashes (vector.count / 8) c.lines.low c.lines.high c.mean.result
    (omega (arith, c.requires)) (rw all at c.lines.invariant)
    (rw c.len-lines.ensures.value at c.mean.ensures.low)
    (rw c.len-lines.ensures.value at c.mean.ensures.high)
