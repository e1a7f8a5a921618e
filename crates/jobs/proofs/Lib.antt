-- Laws of words, numbers and jobs, and the proofs of the theorems.
pub mod Bytes
pub mod Laying
pub mod Jobs
pub mod Answers
pub mod Coding
pub mod Parts
pub mod Stepping
pub mod Signs
pub mod Grammar
pub mod Carrying
pub mod Fewest
pub mod Encoded
pub mod Decoded
pub mod Shortest
pub mod Theorems
pub mod Cases
