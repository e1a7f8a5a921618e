-- Laws of truth values, of tests on numbers and of sums, for every crate's proofs.
pub mod Tests
pub mod Sums
