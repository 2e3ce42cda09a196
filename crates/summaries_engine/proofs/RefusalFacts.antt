-- How filters differ: cases that hold, and the nearest that don't.
use Rattle.std.proofs.Common.{◌≡◌, [], refl, ap, arith}
use Rattle.summaries_engine.proofs.Common.{Whole, Lines, Classic, Blocked, DiffersBy, IsUnitable}
use Rattle.summaries_engine.specs.declared.unions.Difference.TheVariants as difference
use Rattle.summaries_engine.proofs.Cases.{made_of, of_three, of_two}

-- a filter fits itself, and none of another kind, shape or key
fits : IsUnitable of_two of_two
    × (IsUnitable of_two (Blocked (made_of [] 2 0 0)) → ⊥)
    × (IsUnitable of_two of_three → ⊥)
    × (IsUnitable of_two (Classic (made_of [] 2 1 0)) → ⊥)
fits = (
  record { kind = refl; shape = record { words = refl; hashes = refl }; key = refl },
  λ fits. let wrong : Whole ≡ Lines = fits.kind in cc,
  λ fits. let wrong : 2 ≡ 3 = fits.shape.hashes in omega (arith, wrong),
  λ fits. let wrong : 0 ≡ 1 = ap (λ pair. pair.0) fits.key in omega (arith, wrong),
)

-- the kind is reported before the shape, and the shape before the key
differs : DiffersBy of_two (Blocked (made_of [] 3 1 0)) difference.Kind
    × DiffersBy of_two (Classic (made_of [] 3 1 0)) difference.Shape
    × DiffersBy of_two (Classic (made_of [] 2 1 0)) difference.Key
    × (DiffersBy of_two of_three difference.Kind → ⊥)
    × (DiffersBy of_two of_two difference.Shape → ⊥)
    × (DiffersBy of_two (Blocked (made_of [] 3 1 0)) difference.Shape → ⊥)
    × (DiffersBy of_two of_two difference.Key → ⊥)
    × (DiffersBy of_two (Classic (made_of [] 3 1 0)) difference.Key → ⊥)
    × (DiffersBy of_two (Blocked (made_of [] 2 1 0)) difference.Key → ⊥)
differs = (
  λ same. let wrong : Whole ≡ Lines = same in cc,
  (refl, λ same. let wrong : 2 ≡ 3 = same.hashes in omega (arith, wrong)),
  (
    refl,
    record { words = refl; hashes = refl },
    λ same. let wrong : 0 ≡ 1 = ap (λ pair. pair.0) same in omega (arith, wrong),
  ),
  λ differs. differs refl,
  λ differs. differs.1 (record { words = refl; hashes = refl }),
  λ differs. let wrong : Whole ≡ Lines = differs.0 in cc,
  λ differs. differs.2 refl,
  λ differs. let wrong : 2 ≡ 3 = differs.1.hashes in omega (arith, wrong),
  λ differs. let wrong : Whole ≡ Lines = differs.0 in cc,
)
