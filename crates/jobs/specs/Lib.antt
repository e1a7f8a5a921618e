-- Layouts sent as words. Definitions only.
pub mod Words
pub mod Sending
pub mod Writing
pub mod Reading
pub mod InnerParts
pub mod Theorems
pub mod Cases
