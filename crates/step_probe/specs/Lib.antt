-- What the static library of the reduction a few pieces at a time hands out. Definitions only.
pub mod Answers
pub mod Cases
