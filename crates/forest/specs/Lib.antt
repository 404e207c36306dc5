pub mod Entries
pub mod Hanging
pub mod Laid
