pub mod Text
pub mod Write
pub mod Read
pub mod View
pub mod Theorems
