-- Laws of the call.
pub mod Portions
pub mod Joins
pub mod Counting
pub mod OneByOne
pub mod Telling
pub mod Calls
pub mod Stepping
pub mod Theorems
pub mod Cases
