pub mod Asked
pub mod ByWords
pub mod Calls
pub mod Machines
pub mod Members
pub mod Pairs
pub mod Scripts
pub mod Stores
