pub mod Loading
pub mod Passes
pub mod Setting
pub mod Splitting
