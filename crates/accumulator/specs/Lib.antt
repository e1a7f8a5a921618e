-- The accumulator and joining. Definitions only.
pub mod Joining
