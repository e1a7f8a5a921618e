-- What the static libraries hand out. Definitions only.
pub mod Answers
pub mod Cases
