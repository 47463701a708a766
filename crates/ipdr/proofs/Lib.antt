-- The laws of fields, of reading and writing, both round trips, and the examples.
pub mod Fields
pub mod Messages
pub mod RoundTrip
pub mod Examples
