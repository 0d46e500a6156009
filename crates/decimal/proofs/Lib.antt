pub mod Cases
pub mod Put
pub mod Decimal
pub mod Words
pub mod Numbers
