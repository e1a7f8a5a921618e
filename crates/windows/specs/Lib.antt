-- A moving stretch of days. Definitions only.
pub mod Windows
pub mod Theorems
pub mod Cases
pub mod InnerEight
