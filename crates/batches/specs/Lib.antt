-- The definition of a batch and what is claimed of it, and batches that were worked out from the papers.
pub mod Batches
pub mod BatchRows
