pub mod Received
pub mod Acks
