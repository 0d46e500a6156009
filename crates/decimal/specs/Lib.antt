pub mod Bytes
pub mod Text
pub mod Word
pub mod Number
pub mod Exact
