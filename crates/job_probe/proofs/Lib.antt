pub mod Given
pub mod Cases
