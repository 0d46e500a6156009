pub mod Ring
pub mod Tree
pub mod Table
pub mod TableCalls
pub mod Sound
pub mod Calls
pub mod Theorems
