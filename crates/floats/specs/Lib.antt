-- The numbers, as the standard and the rules have them. Definitions only.
pub mod Formats
pub mod Rounding
pub mod Product
pub mod Factor
pub mod Fields
pub mod Magnitude
pub mod Splitting
pub mod Cases
pub mod InnerKinds
pub mod Theorems
