pub mod Filling
pub mod Lines
pub mod Losing
pub mod Pieces
pub mod Reading
pub mod Writing
