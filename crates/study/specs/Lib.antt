pub mod Faults
pub mod Panels
pub mod Building
pub mod Readings
pub mod Entering
