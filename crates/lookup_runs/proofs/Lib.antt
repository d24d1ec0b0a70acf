-- What follows from that promise.
pub mod Room
