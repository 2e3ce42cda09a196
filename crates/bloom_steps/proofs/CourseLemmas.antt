-- The lemmas on courses that crates above may cite. The other files of lemmas on runs are this
-- crate's own.

-- what every course of a kind gives, and what each step of a course finds
pub use Rattle.bloom_steps.proofs.RunLemmas.Kinds.{Kind}
pub use Rattle.bloom_steps.proofs.RunLemmas.CarriedOut.{carried-finds, course_tells}
-- the steps of inserts, of look-ups and of unions
pub use Rattle.bloom_steps.proofs.RunLemmas.InsertSteps.{FoundOff, InsertSteps, Sets, or-parts, or-sets, set-by}
pub use Rattle.bloom_steps.proofs.RunLemmas.LookSteps.{LookSteps}
pub use Rattle.bloom_steps.proofs.RunLemmas.CopySteps.{union-steps}
-- a set that has all positions of a hash
pub use Rattle.bloom_steps.proofs.RunLemmas.Positions.{are_in-all}
