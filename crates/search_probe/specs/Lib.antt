-- What the static library of the search hands out. Definitions only.
pub mod Answers
pub mod Cases
