pub mod Replay
pub mod Turns
pub mod Unused
pub mod Openings
