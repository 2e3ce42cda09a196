use Rattle.std.proofs.Common.{sym, ◌∙◌}
use Rattle.std.proofs.lemmas.Nat.{one_shl}
use Rattle.std.proofs.lemmas.Nat.Bits.{shr_and_one}
use Rattle.fastbloom.proofs.SeatedLemmas.Puts.{puts-on, puts-off}
use Rattle.fastbloom.proofs.seated.opening.put_word.Goals.{then-value-bit-eq1, else-value-bit-eq1}
use Rattle.fastbloom.proofs.seated.opening.put_word.Goals as goal

-- a bit that is set is put in, and one that is clear is there
pub bits-preserved : goal.bits-preserved
bits-preserved c =
    let digit = shr_and_one c.args.value c.bits.bit in
    elim c.if-value-bit-eq1.branch [
      | then-value-bit-eq1 w ↦
          puts-on _ _ _ _ _ _ c.args.value c.bits.bit _ c.requires.has c.bits.invariant
          w.put_bits.ensures w.seat-is (one_shl c.bits.bit 64 c.bits-test.true)
          (sym digit ∙ w.if-value-bit-eq1.true)
      | else-value-bit-eq1 w ↦
          puts-off _ _ _ _ _ c.args.value c.bits.bit c.bits.invariant w.seat-is
          (λ on. w.if-value-bit-eq1.false (digit ∙ on))
    ]
