pub mod Growing
pub mod GrowingInserts
pub mod GrowingLaws
pub mod GrowingRates
pub mod Kinds
pub mod Rotating
