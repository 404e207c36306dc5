pub mod Chained
pub mod Hung
pub mod Growing
pub mod Undoing
pub mod Numbered
