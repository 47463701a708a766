-- `u16_of` meets its contract: the definition, written out, is the same sum.
use Rattle.numbers.specs.Numbers.{uint_in, number_of}
use native.Mathlib.Omega.{arith}
use Rattle.number_reading.proofs.u16_of.Goals as goal

pub returns : goal.returns
unfolding uint_in number_of
returns c = omega (arith, c.from_be_bytes.ensures)
