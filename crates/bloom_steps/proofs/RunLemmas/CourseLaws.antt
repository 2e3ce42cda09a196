-- What every lawful course gives.
use Rattle.bloom_steps.proofs.Common.{ℕ, ◌≤◌, length, LawfulTells, Course, IsLawful}
use Rattle.bloom_steps.proofs.RunLemmas.Commands.{acts_as_commands}
use Rattle.bloom_steps.proofs.RunLemmas.Gained.{counts_gains, takes_lose_nothing}
use Rattle.bloom_steps.proofs.RunLemmas.Grows.{ends_with_all}
use Rattle.bloom_steps.proofs.RunLemmas.PlainCalls.{tells}

-- every lawful course of some words and hashes gives it
pub course_law : (k : ℕ) (run : Course) → 1 ≤ k → 1 ≤ length run.start → IsLawful k run
    → LawfulTells k run
course_law k run some_hashes some_words lawful = record {
  each = tells k run lawful some_words some_hashes;
  commands = acts_as_commands k run lawful some_hashes;
  grows = ends_with_all k run lawful;
  gained = counts_gains k run lawful;
  taken = takes_lose_nothing k run lawful;
}
