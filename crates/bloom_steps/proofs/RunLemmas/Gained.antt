-- Each position is set once, and taking loses nothing, in lawful courses, also where calls have not
-- ended.
use Rattle.std.proofs.Common.{◌≡◌, Some, arith, inl, inr, length, slice_get, ℕ}
use Rattle.bloom_steps.proofs.Common.{Call, Began, Course, IsLawful, CountsGains, TakesLoseNothing, EveryCall, goes_by_hash, plan_of}
use Rattle.bloom_steps.proofs.RunLemmas.Balances.{AddsOrLoads, AddsOrTakes}
use Rattle.bloom_steps.proofs.RunLemmas.Bounds.{stays_to_end}
use Rattle.bloom_steps.proofs.RunLemmas.KindSteps.{of-adder, of-hash}
use Rattle.bloom_steps.proofs.RunLemmas.LawfulWithin.{lawful-within}
use Rattle.bloom_steps.proofs.RunLemmas.Origins.{growing}
use Rattle.bloom_steps.proofs.RunLemmas.OwnScripts.{lawful-finds}
use Rattle.bloom_steps.proofs.RunLemmas.PlacedSteps.{IsPlacedAt}
use Rattle.bloom_steps.proofs.RunLemmas.RecordedCalls.{step_held}
use Rattle.bloom_steps.proofs.RunLemmas.Scripted.{EachStep}
use Rattle.bloom_steps.proofs.RunLemmas.Taken.{gains_once, loses_nothing}
use Rattle.bloom_steps.proofs.StepLemmas.Plans.{hash-grows}

-- a lawful run
module _ (k : ℕ) (run : Course) (lawful : IsLawful k run) where
  -- inserts and look-ups set bits or load words
  adds-or-loads : EveryCall goes_by_hash run.records → EachStep AddsOrLoads run
  adds-or-loads passes m party did found ended g =
      let h = step_held k run lawful m party did found ended g in
      of-hash (λ call. IsPlacedAt (length run.start) k (plan_of call) h.j did → AddsOrLoads did)
      (λ hash at. inl (_, _, at.2)) (λ hash at. inr (_, at.2)) h.call
      (passes h.began.0 party h.call h.began.1) h.at

  -- where calls insert, look up or take, nothing is lost
  pub takes_lose_nothing : TakesLoseNothing run
  takes_lose_nothing passes =
      loses_nothing run lawful.bits (lawful-finds k run lawful) (lawful-within k run lawful)
      (λ m party did found ended g.
      let h = step_held k run lawful m party did found ended g in
      of-adder (λ call. IsPlacedAt (length run.start) k (plan_of call) h.j did → AddsOrTakes did)
      (λ hash at. inl (inl (_, _, at.2))) (λ hash at. inl (inr (_, at.2)))
      (λ at. inr (h.j, at.2)) h.call (passes h.began.0 party h.call h.began.1) h.at)

  -- each position is set once
  pub counts_gains : CountsGains run
  counts_gains hash =
      let grows = λ (m : ℕ) (party : ℕ) (call : Call)
      (g : slice_get run.records m ≡ Some (Began party call)).
      hash-grows (plan_of call) (hash m party call g) in
      gains_once run lawful.bits (lawful-finds k run lawful) (lawful-within k run lawful)
      (adds-or-loads hash)
      (λ q on. stays_to_end run lawful.bits q (growing k run lawful grows q) 0 (omega arith) on)
