-- Laws of a call's buffers.
pub mod Buffers
pub mod Numbers
