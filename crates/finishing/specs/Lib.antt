-- Finishing. Definitions only.
pub mod Once
pub mod Finishing
pub mod Cases
pub mod Theorems
