-- The cases of what a host is handed of a step.
pub mod Cases
