pub mod Difference
pub mod Machine
pub mod Places
