pub mod Entering
pub mod Descents
pub mod Telling
