pub mod Arguments
pub mod Faults
pub mod Lines
pub mod Reading
pub mod Served
pub mod Texts
