mod AlgebraLemmas
mod BuilderFacts
pub mod BuilderLemmas
pub mod CaseLemmas
mod Common
mod DataFacts
pub mod DataLemmas
pub mod FilterFacts
pub mod FoundLemmas
mod HashFacts
pub mod InsertFacts
mod LawFacts
pub mod LawLemmas
mod ListFacts
mod ListLemmas
mod OnesLemmas
mod QueueLemmas
mod RateLemmas
pub mod ReplyLemmas
pub mod SetFacts
pub mod TogetherLemmas
mod UnitedLemmas
