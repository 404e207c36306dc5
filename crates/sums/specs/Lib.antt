pub mod Within
pub mod Ordered
pub mod Seen
pub mod Gathering
pub mod Searching
pub mod Widths
