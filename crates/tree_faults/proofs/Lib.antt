pub mod Numbers
pub mod Nodes
pub mod Places
pub mod Reader
pub mod Cuts
pub mod Searches
pub mod Theorems
pub mod Cases
