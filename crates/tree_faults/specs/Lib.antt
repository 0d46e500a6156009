pub mod Trees
pub mod Theorems
pub mod Cases
