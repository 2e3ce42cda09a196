-- The line of a hash, kept by itself: as a filter of one line it has the positions of the hash.
use Rattle.std.proofs.Common.{◌≡◌, ℕ, ◌+◌, ◌*◌, ◌/◌, ◌%◌, ◌^◌, ◌<◌, Bool, ◌&&◌, true, eqb, sym, ◌∙◌, ap, arith}
use Rattle.std.proofs.lemmas.Bool.{and_parts, eqb-true, eq-eqb}
use Rattle.bloom_parts.specs.Places.{are_in, positions}
use Rattle.bloom_blocked.specs.Lines.{line_of, inner_of, in_line, line_positions, are_in_line}

-- among one line a hash has the first
first-line : (hash : ℕ) → hash < 2 ^ 64 → line_of 1 hash ≡ 0
first-line hash fits = omega (arith, fits)

-- the first line of the line of a set is that line
part-of : (A : ℕ → Bool) (line one q : ℕ) → one ≡ 0
    → in_line (in_line A line) one q ≡ in_line A line q
part-of A line one q zero =
    let same : 512 * one + q ≡ q = omega (arith, zero) in
    ap (λ p. A (512 * line + p)) same

-- the line alone contains a hash exactly if all lines do
pub alone : (A : ℕ → Bool) (lines k hash line : ℕ) → hash < 2 ^ 64 → line ≡ line_of lines hash
    → are_in_line 1 k hash (in_line A line) ≡ are_in_line lines k hash A
alone A lines k hash line fits same =
    let zero = first-line hash fits in
    ap (are_in 512 k (inner_of hash))
    (λ i. λ q. part-of A line (line_of 1 hash) q zero i)
    ∙ ap (λ l. are_in 512 k (inner_of hash) (in_line A l)) same

-- the positions of a hash in the line alone are those in all lines
pub here : (lines k hash line q : ℕ) → hash < 2 ^ 64 → line ≡ line_of lines hash → q < 512
    → line_positions 1 k hash q ≡ line_positions lines k hash (512 * line + q)
here lines k hash line q fits same below =
    let zero : q / 512 ≡ line_of 1 hash = omega (arith, below, first-line hash fits) in
    let start : (512 * line + q) / 512 ≡ line_of lines hash = omega (arith, below, same) in
    let rest : q % 512 ≡ (512 * line + q) % 512 = omega (arith, below) in
    let is_line = eqb ((512 * line + q) / 512) (line_of lines hash) in
    ap (λ b. b && positions 512 k (inner_of hash) (q % 512))
    (eq-eqb (q / 512) (line_of 1 hash) zero
    ∙ sym (eq-eqb ((512 * line + q) / 512) (line_of lines hash) start))
    ∙ ap (λ r. is_line && positions 512 k (inner_of hash) r) rest

-- each position of a hash is in its line
pub elsewhere : (lines k hash line p : ℕ) → line ≡ line_of lines hash
    → line_positions lines k hash p ≡ true → p / 512 ≡ line
elsewhere lines k hash line p same is =
    let parts = and_parts (eqb (p / 512) (line_of lines hash))
    (positions 512 k (inner_of hash) (p % 512)) is in
    eqb-true (p / 512) (line_of lines hash) parts.0 ∙ sym same
