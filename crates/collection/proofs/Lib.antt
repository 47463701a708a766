-- Laws of the journal and of the collector's calls.
pub mod Journals
pub mod CollectorSound
pub mod Claims
