-- All workers' ranges in one call. Definitions only.
pub mod Many
pub mod Theorems
pub mod Cases
