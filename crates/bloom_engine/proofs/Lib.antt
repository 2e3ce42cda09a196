mod BadLineLemmas
mod CarriedLemmas
mod Cases
mod Common
mod FailedFacts
mod FailedLemmas
mod HexLemmas
mod LineFacts
mod NumberLemmas
mod ServedFacts
mod ServedLemmas
mod TakenLemmas
pub mod WordLemmas
