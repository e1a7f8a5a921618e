-- The laws of specs/, by argument.
pub mod OneAxis
pub mod Marks
pub mod Writing
pub mod Codes
pub mod Calls
pub mod Theorems
pub mod Cases
pub mod Columns
pub mod Sharing
pub mod Loops
