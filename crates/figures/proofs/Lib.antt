-- Laws of figures.
pub mod Calls
pub mod Theorems
pub mod Reordered
pub mod Cases
