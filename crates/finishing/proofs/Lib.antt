-- The laws of specs/, by argument.
pub mod Once
pub mod Scaling
pub mod Loops
pub mod Patterns
pub mod Answers
pub mod Cases
pub mod Theorems
