-- What the static library of jobs hands out. Definitions only.
pub mod Answers
pub mod Cases
