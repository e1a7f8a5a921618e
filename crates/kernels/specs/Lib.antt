-- The plain product, the two ways of working a piece, and their agreement. Definitions only; Inner* serve inner contracts and proofs alone.
pub mod Lanes
pub mod Plain
pub mod Stepped
pub mod Blocks
pub mod Pieces
pub mod Theorems
pub mod InnerPlain
pub mod InnerStrided
pub mod InnerStepped
pub mod InnerLanes
