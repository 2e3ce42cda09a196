use Rattle.std.proofs.Common.{◌≡◌, ◌≤◌, max, refl, ap, arith}
use Rattle.bloom_growing.proofs.Common.{err_from_is_err_and, setup_of}
use Rattle.bloom_growing.proofs.GrowingKeptLemmas.{next-first}
use Rattle.bloom_growing.proofs.RotatingLemmas.{rotating-none}
use Rattle.bloom_growing.proofs.rotating.RotatingFilterOf.with_hasher.Goals as goal

pub returns-in_err-older-clause-refused : goal.returns-in_err-older-clause-refused
returns-in_err-older-clause-refused g c =
    let refusal = c.from_residual in
    let refused = err_from_is_err_and refusal.result refusal.ensures.1 in
    rw (refused.1, refused.2)
    (c.in_err-older.ensures.refused _ _ 0
    (next-first c.args.rate (max 1 c.args.items) c.max-room.result
    (omega (arith, c.max-room.ensures)) (omega arith)))

pub returns-in_err-newer-clause-refused : goal.returns-in_err-newer-clause-refused
returns-in_err-newer-clause-refused g c =
    let refusal = c.from_residual-in_err-newer in
    let refused = err_from_is_err_and refusal.result refusal.ensures.1 in
    rw (refused.1, refused.2)
    (c.in_err-newer.ensures.refused _ _ 0
    (next-first c.args.rate (max 1 c.args.items) c.max-room.result
    (omega (arith, c.max-room.ensures)) (omega arith)))

pub returns-clause-refused : goal.returns-clause-refused
returns-clause-refused g c =
    c.in_ok-newer.ensures.refused _ _ 0
    (next-first c.args.rate (max 1 c.args.items) c.max-room.result
    (omega (arith, c.max-room.ensures)) (omega arith))

pub invariant_of-result : goal.invariant_of-result
invariant_of-result g c =
    let room = c.max-room.result in
    let some : 1 ≤ room = omega (arith, c.max-room.ensures) in
    let next = next-first c.args.rate room room refl some in
    rotating-none _ _ some (c.in_ok-older.ensures.made c.args.rate room 0 next).number
    (c.in_ok-newer.ensures.made c.args.rate room 0 next).number refl refl

pub returns-clause-unused : goal.returns-clause-unused
returns-clause-unused g c =
    let asked = max 1 c.args.items in
    let is : c.max-room.result ≡ asked = omega (arith, c.max-room.ensures) in
    let next = next-first c.args.rate asked c.max-room.result is (omega arith) in
    record {
      setup = ap (λ r. setup_of c.args.rate r c.args.hasher) is;
      older = (c.in_ok-older.ensures.made c.args.rate asked 0 next).number;
      newer = (c.in_ok-newer.ensures.made c.args.rate asked 0 next).number;
      taken = refl;
      turns = refl;
    }
