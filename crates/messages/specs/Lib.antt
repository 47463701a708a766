pub mod Messages
pub mod Received
pub mod Sequence
pub mod Replies
