pub mod Seats
pub mod Splitting
pub mod Stepping
