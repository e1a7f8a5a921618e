-- Vectors of eight values, and lanes that wait. Definitions only.
pub mod InnerVectors
pub mod InnerSteps
pub mod InnerWaiting
pub mod InnerShort
pub mod InnerMarked
pub mod InnerSplits
