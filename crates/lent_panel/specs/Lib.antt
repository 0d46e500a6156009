pub mod Panel
pub mod Calls
pub mod Theorems
