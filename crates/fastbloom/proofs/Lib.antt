mod Cases
mod Common
mod DataLemmas
mod FillFacts
mod FillLawLemmas
pub mod FillLemmas
mod FormLemmas
mod InsertedLemmas
mod LoadedFacts
mod MeetingFacts
mod PassFacts
mod ReadingLemmas
mod RuleFacts
mod SeatedLawFacts
mod SeatedLemmas
mod SharedFacts
