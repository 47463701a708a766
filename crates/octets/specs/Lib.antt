-- The definitions of `numbers`, passed on: answer numbers and judging, tests of numbers, numbers in octets.
pub use Rattle.numbers.specs.Answers
pub use Rattle.numbers.specs.Each
pub use Rattle.numbers.specs.Numbers
