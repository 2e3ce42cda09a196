pub mod Inserting
pub mod Looking
pub mod Positions
pub mod Setting
