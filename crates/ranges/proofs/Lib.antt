-- Laws of many ranges, and the proofs of the theorems and of the functions.
pub mod Lists
pub mod Codes
pub mod Writing
pub mod Calls
pub mod Cases
pub mod Theorems
