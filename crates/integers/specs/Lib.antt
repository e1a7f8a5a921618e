pub mod Integers
pub mod InnerChecked
pub mod InnerPlaces
