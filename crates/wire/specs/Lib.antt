-- The definitions of messages, tables and records, in reading order, passed on from the crates that hold them.
pub use Rattle.field_types.specs.FieldTypes
pub use Rattle.tables.specs.Table
pub use Rattle.records.specs.Record
pub use Rattle.records.specs.Walk
pub use Rattle.readers.specs.Count
pub use Rattle.appending.specs.Append
pub use Rattle.messages.specs.Messages
pub use Rattle.messages.specs.Received
pub use Rattle.messages.specs.Sequence
pub use Rattle.messages.specs.Replies
pub mod Demand2
pub mod Refusals
pub mod OrderExamples
