use Rattle.std.proofs.Common.{◌≡◌, ◌≤◌, ◌*◌, count_by, nat_lt, take}
use Rattle.bloom_blocked.proofs.sizing.steps_passed.Given as goal

-- as many of the numbers so far were passed
abbrev pub invariant-steps : goal.invariant-steps
invariant-steps l = record {
  value : l.passed
      ≡ count_by (λ t. nat_lt (t * l.num_items) (100 * l.num_bits)) (take l.step-index l.steps);
  most : l.passed ≤ l.step-index;
}
