-- That the rows are computed, and the claims about a batch and about every list of calls that has batches.
pub mod BatchRows
pub mod Batches
