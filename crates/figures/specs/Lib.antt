pub mod Lists
pub mod Assignments
pub mod Locus
pub mod Figure
pub mod Graph
pub mod Statements
pub mod View
pub mod CheckFamilies
