pub mod Messages
pub mod Received
pub mod RoundTrip
