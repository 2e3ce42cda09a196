-- What takes the hashes of keys, some at once, and what it took so far. This project's own.
use Rattle.std.proofs.Common.{◌≡◌, ℕ, List, [], ◌++◌, map, sym, subst, refl, append-nil}
use Rattle.bloom_parts.specs.Sip.{sip}
use Rattle.fastbloom.specs.declared.parallel.shape.Shape.{Shape}
use Rattle.summaries_engine.specs.declared.kinds.AnyFilter.{AnyFilter}
use Rattle.summaries_engine.specs.Kinds.{HaveSameKind, parts_of}
use Rattle.summaries_engine.specs.Summaries.{IsFilled}

-- hashes were inserted: in each shape that the old filter has, the new one is filled with these
-- besides those that the old one was filled with
pub record FillsMore (old : AnyFilter) (hashes : List ℕ) (new : AnyFilter) : Type 0 where
  pub filled : (shape : Shape) (before : List ℕ) → IsFilled shape before old
      → IsFilled shape (before ++ hashes) new
  pub kind : HaveSameKind old new
  pub hasher : (parts_of new).hasher ≡ (parts_of old).hasher

-- no hash was inserted
pub takes-none : (f : AnyFilter) → FillsMore f [] f
takes-none f = record {
  filled = λ shape before is. subst (λ l. IsFilled shape l f) (sym (append-nil before)) is;
  kind = refl;
  hasher = refl;
}

-- of these hashes the first were taken, by what `took` says, and the others wait
pub record HasTaken {F : Type 0} (took : F → List ℕ → F → Type 0) (first now : F)
    (waiting hashes : List ℕ) : Type 0 where
  pub earlier : List ℕ
  pub taken : took first earlier now
  pub are : hashes ≡ earlier ++ waiting

-- the hashes, under a key, of these keys were taken behind whatever hashes came before
pub record TakesKeys {F : Type 0} (took : F → List ℕ → F → Type 0) (key : ℕ × ℕ) (from : F)
    (waited : List ℕ) (now : F) (waits : List ℕ) (keys : List (List ℕ)) : Type 0 where
  pub taken : (first : F) (hashes : List ℕ) → HasTaken took first from waited hashes
      → HasTaken took first now waits (hashes ++ map (sip key.0 key.1) keys)
