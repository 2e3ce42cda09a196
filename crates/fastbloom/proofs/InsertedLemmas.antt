-- Many items of an iterator, each inserted into a filter that threads share.
use Rattle.std.proofs.Common.{◌≡◌, ℕ, Option, subst}
use Rattle.std.specs.Iterator.Runs.{WholeRun}
use Rattle.fastbloom.proofs.Common.{MakesInserts, SharedFilter}

module _ {S T : Type 0} (hash_of : S → T → ℕ) (f : SharedFilter S) where
  -- a filter has the form for as many items as an iterator has left, and the items of an equal
  -- iterator were inserted into it
  pub made_inserts-same : {I : Type 0} (comes : I → Type 0) (form : ℕ → Type 0) (left : I → ℕ)
      (steps : I → Option T → I → Type 0) (it : I) (count : ℕ) → comes it → count ≡ left it
      → form count
      → (same : I) × (same ≡ it) × WholeRun steps same (λ run. MakesInserts hash_of f run.items)
      → (from : I) × comes from × form (left from)
      × WholeRun steps from (λ run. MakesInserts hash_of f run.items)
  made_inserts-same comes form left steps it count first is made all = (
    it,
    first,
    subst form is made,
    subst (λ i. WholeRun steps i (λ run. MakesInserts hash_of f run.items)) all.1 all.2,
  )
