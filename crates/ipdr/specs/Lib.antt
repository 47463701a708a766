-- IPDR/SP 2.2's ten messages (02, ask 1; document 002, sections 3, 4 and 8).
pub mod Fields
pub mod Messages
pub mod Examples
