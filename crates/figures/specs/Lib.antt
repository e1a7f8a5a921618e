-- The figure of a range. Definitions only.
pub mod Figures
pub mod Theorems
pub mod Cases
