pub mod Events
pub mod Forms
