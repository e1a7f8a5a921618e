-- The refusals, and the rank among them. Definitions only.
pub mod Refusals
pub mod Codes
