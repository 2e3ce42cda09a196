-- Filters that have names, of one byte, which is the number of hashes of what lies under it: cases
-- that hold, and the nearest that don't.
use Rattle.std.proofs.Common.{◌≡◌, ℕ, List, [], ◌∷◌, ◌++◌, codes, length, length-append, inl, inr, refl, ap, arith}
use Rattle.summaries_engine.proofs.Common.{All-nil, Error, Stop, Bad, AreNamed, StopsUniting, IsUnitable, Says}
use Rattle.summaries_engine.specs.declared.unions.Difference.TheVariants as difference
use Rattle.summaries_engine.proofs.Cases.{counted, never, of_three, of_two}

-- the filters lie under their names in order, and neither a name nor a filter is left over
named : AreNamed counted ((2 ∷ []) ∷ (3 ∷ []) ∷ []) (of_two ∷ of_three ∷ [])
    × (AreNamed counted ((2 ∷ []) ∷ (3 ∷ []) ∷ []) (of_three ∷ of_two ∷ []) → ⊥)
    × (AreNamed counted ((2 ∷ []) ∷ (3 ∷ []) ∷ []) (of_two ∷ []) → ⊥)
    × (AreNamed counted ((2 ∷ []) ∷ []) (of_two ∷ of_three ∷ []) → ⊥)
named = (
  (refl, (refl, tt)),
  λ are. let wrong : ◌≡◌ {A = List ℕ} (2 ∷ []) (3 ∷ []) = are.0 in cc,
  λ are. are.1,
  λ are. are.1,
)

-- the third filter can't be had
abbrev third : List ℕ → Stop → Type 0
third name stop = name ≡ 3 ∷ []

module _ (said : Error) where
  -- filters aren't united where none is named, where one can't be had, and where one differs from
  -- the first
  uniting : (Says (codes "no filter was named") said → StopsUniting counted never [] (Bad said))
      × ((stop : Stop) → StopsUniting counted third ((2 ∷ []) ∷ (3 ∷ []) ∷ []) stop)
      × (Says ((3 ∷ []) ++ (codes ": its shape isn't that of " ++ (2 ∷ []))) said
      → StopsUniting counted never ((2 ∷ []) ∷ (3 ∷ []) ∷ []) (Bad said))
  uniting = (
    λ says. inl (refl, says),
    λ stop. inr (inl (record {
      filters = of_two ∷ [];
      name = 3 ∷ [];
      reaches =
          record { before = (2 ∷ []) ∷ []; after = []; are = refl; loaded = (refl, tt) };
      fit = All-nil (IsUnitable of_two);
      failed = refl;
    })),
    λ says. inr (inr (record {
      first = of_two;
      filters = [];
      name = 3 ∷ [];
      shard = of_three;
      how = difference.Shape;
      reaches =
          record { before = (2 ∷ []) ∷ []; after = []; are = refl; loaded = (refl, tt) };
      fit = All-nil (IsUnitable of_two);
      loaded = refl;
      differs = (refl, λ same. let wrong : 2 ≡ 3 = same.hashes in omega (arith, wrong));
      says = says;
    })),
  )

-- a name alone whose filter is had stops nothing
uniting-one : (stop : Stop) → StopsUniting counted never ((2 ∷ []) ∷ []) stop → ⊥
uniting-one stop (inl none) =
    let wrong : ◌≡◌ {A = List (List ℕ)} ((2 ∷ []) ∷ []) [] = none.0 in cc
uniting-one stop (inr (inl unloaded)) = unloaded.failed
uniting-one stop (inr (inr misfit)) = of misfit.reaches.before misfit.reaches.are
    misfit.reaches.loaded
  where
    of : (before : List (List ℕ))
        → (2 ∷ []) ∷ [] ≡ before ++ misfit.name ∷ misfit.reaches.after
        → AreNamed counted before (misfit.first ∷ misfit.filters) → ⊥
    of [] are loaded = loaded
    of (name ∷ before) are loaded =
        let none : ◌≡◌ {A = List (List ℕ)} [] (before ++ misfit.name ∷ misfit.reaches.after) =
        cc (are) in
        absurd (omega (
          arith,
          ap length none,
          length-append before (misfit.name ∷ misfit.reaches.after),
        ))
