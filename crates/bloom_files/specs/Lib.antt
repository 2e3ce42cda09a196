pub mod File
pub mod FileCodes
pub mod FileLayouts
pub mod FileReads
pub mod FileRefusals
pub mod FilterFiles
