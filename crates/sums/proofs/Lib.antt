pub mod Lawful
pub mod Reaching
pub mod Pushed
pub mod Tests
pub mod Views
pub mod Searches
pub mod Parting
pub mod Masked
