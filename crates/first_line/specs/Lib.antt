pub mod Start
pub mod Read
pub mod Exact
pub mod Meaning
pub mod Theorems
