-- Laws of the ordered product.
pub mod Units
pub mod Folding
pub mod Calls
pub mod Theorems
pub mod Cases
