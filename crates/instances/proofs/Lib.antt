pub mod Ring
pub mod Tree
