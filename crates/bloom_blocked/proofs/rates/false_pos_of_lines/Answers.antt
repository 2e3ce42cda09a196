use Rattle.std.proofs.Common.{add-one, ◌≡◌, ◌/◌, length, sym, arith, rules}
use Rattle.bloom_blocked.specs.LineRates.{line_words}
use Rattle.bloom_blocked.proofs.LineRateLemmas.{summed-none, summed-next, summed-mean}
use Rattle.bloom_blocked.proofs.rates.false_pos_of_lines.Goals as goal

pub lines-init : goal.lines-init
lines-init c = summed-none (line_words c.args.words.now) c.args.num_hashes

-- the sums are below 2 ^ 63 a line
pub overflow_add-low : goal.overflow_add-low
overflow_add-low c = omega (
  arith,
  c.lines.invariant.ordered,
  c.lines.invariant.in_range,
  c.lines-test.true,
  c.requires.few,
  c.low.ensures,
  c.rate_of_line-rate.result.ordered,
  c.rate_of_line-rate.result.in_range,
)

pub overflow_add-high : goal.overflow_add-high
overflow_add-high c = omega (
  arith,
  c.lines.invariant.in_range,
  c.lines-test.true,
  c.requires.few,
  c.high.ensures,
  c.rate_of_line-rate.result.in_range,
)

pub lines-preserved : goal.lines-preserved
lines-preserved c =
    rw (add-one, c.low.ensures, c.high.ensures)
    (summed-next (line_words c.args.words.now) c.args.num_hashes c.lines.line c.lines.low
    c.lines.high c.rate_of_line-rate.result c.lines.invariant (search rules))

pub mean-requires-clause-ordered : goal.mean-requires-clause-ordered
mean-requires-clause-ordered c = c.lines.invariant.ordered

pub mean-requires-clause-in_range : goal.mean-requires-clause-in_range
mean-requires-clause-in_range c =
    let all : c.lines.line ≡ length c.args.words.now / 8 = omega arith in
    rw (sym all) c.lines.invariant.in_range

pub returns : goal.returns
returns c =
    let all : c.lines.line ≡ length c.args.words.now / 8 = omega arith in
    summed-mean (line_words c.args.words.now) c.args.num_hashes (length c.args.words.now / 8)
    c.lines.low c.lines.high c.mean.result (omega (arith, c.requires.some))
    (rw all at c.lines.invariant) c.mean.ensures.low c.mean.ensures.high
