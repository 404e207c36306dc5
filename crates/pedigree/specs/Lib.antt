pub mod Meioses
pub mod Faults
pub mod Families
pub mod Building
pub mod Slots
