-- A reduction a few pieces at a time. Definitions only.
pub mod Steps
pub mod InnerPortions
pub mod Theorems
pub mod Cases
