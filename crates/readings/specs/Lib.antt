pub mod Model
pub mod Tables
pub mod Bytes
pub mod CodominantRules
pub mod DominantRules
pub mod Combined
pub mod CombinedRules
pub mod Printed
