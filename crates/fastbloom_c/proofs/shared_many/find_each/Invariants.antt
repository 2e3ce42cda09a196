use Rattle.std.proofs.Common.{◌≡◌, Some, length}
use Rattle.bloom_steps.specs.declared.steps.vocabulary.Call.TheVariants.{Contains}
use Rattle.bloom_steps.specs.LiveSteps.{MakesCallOn}
use Rattle.fastbloom_c.specs.Passed.{vector_of}
use Rattle.fastbloom_c.proofs.SharedLemmas.{TellsFirst}
use Rattle.fastbloom_c.proofs.shared_many.find_each.Given as goal

-- the bits of the hashes so far tell what the calls on them returned, and no other is set
abbrev pub invariant-looks : goal.invariant-looks
invariant-looks l = record {
  tells : TellsFirst
      (λ hash reply. MakesCallOn (vector_of l.words.at l.words.len)
      (vector_of l.words.at l.words.len) l.num_hashes (Contains hash) (Some reply))
      l.hashes l.hash-index l.found;
  shape : length l.found ≡ length l.fn.found;
  at : l.i ≡ l.hash-index;
}
