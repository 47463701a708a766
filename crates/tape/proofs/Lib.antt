pub mod Turns
pub mod Replays
pub mod Unused
pub mod Openings
