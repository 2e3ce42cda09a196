mod FirstEndLemmas
mod LineFacts
pub mod LineLemmas
mod ReadingFacts
pub mod ReadingLemmas
mod RoomLemmas
pub mod TakenLemmas
mod WritingFacts
mod WholeFacts
pub mod WholeLemmas
pub mod WritingLemmas
