-- Laws of vectors of eight values and of lanes that wait.
pub mod Vectorwise
pub mod Vectors
pub mod Walks
pub mod Squares
pub mod Magnitudes
pub mod Waits
pub mod Waiting
pub mod Chaining
pub mod Guarding
pub mod Lows
pub mod Mixed
pub mod Feds
pub mod Shorts
pub mod Trying
pub mod Stepping
pub mod Parting
pub mod Folds
