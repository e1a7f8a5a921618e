-- The laws of specs/, by argument.
pub mod Exponents
pub mod Comparing
pub mod Combining
pub mod Answers
pub mod Joins
pub mod Units
