-- The pieces of a range, their product, and the cases that the rules fix. Definitions only.
pub mod Ranges
pub mod Cases
pub mod InnerStrips
pub mod Theorems
