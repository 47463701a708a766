-- Messages of either edition, and what is claimed of both (02, ask 1).
pub mod Editions
pub mod Demand2
