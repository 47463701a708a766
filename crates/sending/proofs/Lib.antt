-- Laws of what the code finds on the way: of one sending, and of a batch.
pub mod Sends
pub mod Batches
