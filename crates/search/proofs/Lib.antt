-- Laws of the search.
pub mod Looking
pub mod Passing
pub mod Strips
pub mod Calls
pub mod Theorems
pub mod Cases
