pub mod Form
pub mod Read
pub mod Exact
pub mod Examples
