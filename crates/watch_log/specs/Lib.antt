pub mod Held
pub mod Feed
pub mod Finish
pub mod Theorems
