-- The ordered product, in whole numbers. Definitions only; Inner* serve inner contracts and proofs alone.
pub mod Units
pub mod Ranges
pub mod Theorems
pub mod Cases
pub mod InnerFolds
