pub mod Wrapped
pub mod Read
pub mod Exact
