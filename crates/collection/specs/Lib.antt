-- The definitions, in reading order: the journal, the collector's calls, and what is claimed of them.
pub mod Journal
pub mod Collector
pub mod Claim
