use Rattle.std.proofs.Common.{◌≡◌, ◌/◌, arith, rules}
use Rattle.bloom_blocked.specs.Lines.{line_of}
use Rattle.fastbloom_c.proofs.LineAloneLemmas.{alone, elsewhere, here}
use Rattle.fastbloom_c.proofs.blocked.fastbloom_blocked_line.Goals as goal

pub returns-clause-alone : goal.returns-clause-alone
returns-clause-alone c _ k A =
    let line : c.line_start-first.result / 8 ≡ line_of (c.args.num_words / 8) c.args.hash =
    omega (arith, c.line_start-first.ensures.start) in
    alone A (c.args.num_words / 8) k c.args.hash _ (search rules) line

pub returns-clause-here : goal.returns-clause-here
returns-clause-here c _ k q below =
    let line : c.line_start-first.result / 8 ≡ line_of (c.args.num_words / 8) c.args.hash =
    omega (arith, c.line_start-first.ensures.start) in
    here (c.args.num_words / 8) k c.args.hash _ q (search rules) line below

pub returns-clause-elsewhere : goal.returns-clause-elsewhere
returns-clause-elsewhere c _ k p is =
    let line : c.line_start-first.result / 8 ≡ line_of (c.args.num_words / 8) c.args.hash =
    omega (arith, c.line_start-first.ensures.start) in
    elsewhere (c.args.num_words / 8) k c.args.hash _ p line is
