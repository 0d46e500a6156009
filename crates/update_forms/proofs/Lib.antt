pub mod Opens
pub mod Exact
pub mod Held
