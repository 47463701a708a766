-- The header that CRANE's and IPDR/SP's messages begin with.
pub mod Headers
