pub mod Ends
pub mod Firsts
pub mod Rings
pub mod Tables
pub mod Trees
pub mod Turns
pub mod Waiting
