-- The laws of `numbers`, passed on.
pub use Rattle.numbers.proofs.Numbers
pub use Rattle.numbers.proofs.Stores
pub use Rattle.numbers.proofs.Each
pub use Rattle.numbers.proofs.Rows
pub use Rattle.numbers.proofs.Judging
