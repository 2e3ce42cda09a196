-- Words that are put in bit by bit.
use Rattle.std.proofs.Common.{◌≡◌, ◌≢◌, ℕ, ◌+◌, ◌*◌, ◌%◌, ◌^◌, ◌<◌, ◌≤◌, List, length, get_or, set, bit_or, sym, ap, ◌∙◌, subst, arith, get_or-set_same}
use Rattle.std.proofs.lemmas.Nat.{mod-pow-add, or_shifted, or_comm, pow_pos}
use Rattle.std.proofs.lemmas.Nat.Bits.{bit_at-lt}
use Rattle.std.specs.Int.{bit_at}
use lib.Seq.{set-set}
use Rattle.fastbloom.proofs.Common.{FilterSeat, IsFirst, Puts, with_bits, Sets}

-- the low bits of a number, and one more
low-more : (value bit : ℕ) → value % 2 ^ (bit + 1) ≡ bit_at value bit * 2 ^ bit + value % 2 ^ bit
low-more value bit =
    let next : bit + 1 ≡ 1 + bit = omega arith in
    ap (λ j. value % 2 ^ j) next ∙ mod-pow-add value 1 bit

-- where the next bit is set it is put in
low-on : (value bit : ℕ) → bit_at value bit ≡ 1
    → bit_or (value % 2 ^ bit) (2 ^ bit) ≡ value % 2 ^ (bit + 1)
low-on value bit on =
    let small : value % 2 ^ bit < 2 ^ bit = omega (arith, pow_pos bit) in
    let one : 1 * 2 ^ bit ≡ 2 ^ bit = omega arith in
    or_comm (value % 2 ^ bit) (2 ^ bit)
    ∙ ap (λ z. bit_or z (value % 2 ^ bit)) (sym one)
    ∙ or_shifted 1 bit (value % 2 ^ bit) small
    ∙ ap (λ z. z * 2 ^ bit + value % 2 ^ bit) (sym on)
    ∙ sym (low-more value bit)

-- where the next bit is clear nothing is done
low-off : (value bit : ℕ) → bit_at value bit ≢ 1 → value % 2 ^ bit ≡ value % 2 ^ (bit + 1)
low-off value bit off =
    let digit = bit_at-lt value bit in
    let none : 0 ≡ bit_at value bit = omega arith in
    let zero_times : value % 2 ^ bit ≡ 0 * 2 ^ bit + value % 2 ^ bit = omega arith in
    zero_times ∙ ap (λ k. k * 2 ^ bit + value % 2 ^ bit) none ∙ sym (low-more value bit)

-- a word with its low bits, and one more
word-on : (start words : List ℕ) (i value bit mask : ℕ) → i < length start
    → words ≡ set start i (value % 2 ^ bit) → mask ≡ 2 ^ bit → bit_at value bit ≡ 1
    → with_bits words i mask ≡ set start i (value % 2 ^ (bit + 1))
word-on start words i value bit mask within is is_mask on =
    let low : ℕ = value % 2 ^ bit in
    ap (λ l. with_bits l i mask) is
    ∙ set-set start i low (bit_or (get_or (set start i low) i 0) mask)
    ∙ ap (λ k. set start i (bit_or k mask)) (get_or-set_same start i low 0 within)
    ∙ ap (λ k. set start i (bit_or low k)) is_mask
    ∙ ap (set start i) (low-on value bit on)

-- a step of the first seat that changes its start alone
pub puts-by : (old new : FilterSeat) (words : List ℕ) → IsFirst old.me.0
    → new.table_id ≡ old.table_id → new.me.0 ≡ record old.me.0 { start = words }
    → Puts old new words
puts-by old new words was table is = record {
  table = table;
  first = record {
    role = ap (λ (v : Sets). v.role) is ∙ was.role;
    known = ap (λ (v : Sets). v.known) is ∙ was.known;
    gained = ap (λ (v : Sets). v.gained) is ∙ was.gained;
    some = subst (λ (v : Sets). 1 ≤ v.passes) (sym is) was.some;
  };
  passes = ap (λ (v : Sets). v.passes) is;
  start_is = ap (λ (v : Sets). v.start) is;
}

-- a seat that put in the low bits of a word puts in the next, which is set
pub puts-on : (a b c d : FilterSeat) (start : List ℕ) (i value bit mask : ℕ) → i < length start
    → Puts a b (set start i (value % 2 ^ bit)) → Puts b c (with_bits b.me.0.start i mask)
    → d ≡ c → mask ≡ 2 ^ bit → bit_at value bit ≡ 1
    → Puts a d (set start i (value % 2 ^ (bit + 1)))
puts-on a b c d start i value bit mask within first second is is_mask on =
    subst (λ (seat : FilterSeat). Puts a seat (set start i (value % 2 ^ (bit + 1)))) (sym is)
    record {
      table = second.table ∙ first.table;
      first = second.first;
      passes = second.passes ∙ first.passes;
      start_is = second.start_is
          ∙ word-on start b.me.0.start i value bit mask within first.start_is is_mask on;
    }

-- a seat that put in the low bits of a word leaves the next, which is clear
pub puts-off : (a b c : FilterSeat) (start : List ℕ) (i value bit : ℕ)
    → Puts a b (set start i (value % 2 ^ bit)) → c ≡ b → bit_at value bit ≢ 1
    → Puts a c (set start i (value % 2 ^ (bit + 1)))
puts-off a b c start i value bit first is off =
    subst (λ (seat : FilterSeat). Puts a seat (set start i (value % 2 ^ (bit + 1)))) (sym is)
    (subst (Puts a b) (ap (set start i) (low-off value bit off)) first)
