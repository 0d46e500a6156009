pub mod Examples
pub mod First
pub mod Ends
pub mod Cuts
pub mod InPlace
pub mod Theorems
