-- Laws of a range's pieces.
pub mod Pieces
pub mod Ranges
pub mod Lines
pub mod Strips
pub mod Calls
pub mod Demand
pub mod Whole
pub mod Reordered
pub mod Cases
