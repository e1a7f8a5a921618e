-- What every crate's definitions may use. Definitions only.
pub mod Lists
