-- The first bad rate of a range. Definitions only.
pub mod Searching
pub mod InnerLooks
pub mod Theorems
pub mod Cases
