-- How many bits are set in both of two filters.
use Rattle.std.proofs.Common.{◌≡◌, ◌≤◌, ℕ, zero, suc, ◌+◌, ◌-◌, ◌*◌, Bool, true, ◌||◌, refl, ap, ◌∙◌, arith}
use Rattle.summaries_engine.proofs.Common.{◌&&◌, if◌then◌else◌, content, count_on, DefaultFilter, SameShape, num_bits_of}
use Rattle.fastbloom.specs.Ones.{ones_of, ones_of_either}
use Rattle.summaries_engine.specs.Comparing.{ones_of_both}

-- one position more
one-more : (a b : Bool) (either both one other : ℕ) → either + both ≡ one + other
    → (either + (if a || b then 1 else 0)) + (both + (if a && b then 1 else 0))
    ≡ (one + (if a then 1 else 0)) + (other + (if b then 1 else 0))
one-more true true either both one other is = omega (arith, is)
one-more a b either both one other is = omega (arith, is)

-- the members of either set, and those of both, are as many as those of each
pub count-both : (A B : ℕ → Bool) (n : ℕ)
    → count_on (λ p. A p || B p) n + count_on (λ p. A p && B p) n ≡ count_on A n + count_on B n
unfolding count_on
count-both A B zero = refl
count-both A B (suc n) =
    one-more (A n) (B n) (count_on (λ p. A p || B p) n) (count_on (λ p. A p && B p) n)
    (count_on A n) (count_on B n) (count-both A B n)

-- no more, with one position more
less-more : (a b : Bool) (both one : ℕ) → both ≤ one
    → both + (if a && b then 1 else 0) ≤ one + (if a then 1 else 0)
less-more true true both one is = omega (arith, is)
less-more a b both one is = omega (arith, is)

-- those of both are no more than those of one
pub count-less : (A B : ℕ → Bool) (n : ℕ) → count_on (λ p. A p && B p) n ≤ count_on A n
unfolding count_on
count-less A B zero = omega arith
count-less A B (suc n) =
    less-more (A n) (B n) (count_on (λ p. A p && B p) n) (count_on A n) (count-less A B n)

-- of two filters of one shape, by how many bits are set in each
pub ones-both : (f g : DefaultFilter) → SameShape f g
    → (ones_of_either f g + ones_of_both f g ≡ ones_of f + ones_of g)
    × (ones_of_both f g ≤ ones_of f)
ones-both f g same = (
  count-both (content f.words) (content g.words) (num_bits_of f)
      ∙ ap (λ w. ones_of f + count_on (content g.words) (64 * w)) same.words,
  count-less (content f.words) (content g.words) (num_bits_of f),
)

-- and what is left of the first, once what only it has is taken away
pub ones-left : (f g : DefaultFilter) (one other either : ℕ) → SameShape f g
    → one ≡ ones_of f → other ≡ ones_of g → either ≡ ones_of_either f g
    → (other ≤ either) × (either - other ≤ one) × (one - (either - other) ≡ ones_of_both f g)
ones-left f g one other either same is_one is_other is_either =
    let are = ones-both f g same in (
      omega (arith, are.0, are.1, is_one, is_other, is_either),
      omega (arith, are.0, are.1, is_one, is_other, is_either),
      omega (arith, are.0, are.1, is_one, is_other, is_either),
    )
