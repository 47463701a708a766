-- `place_in` meets its contract: each arm is given what the order is, and the definition has the same case for it.
use native.Mathlib.Omega.{arith}
use Rattle.number_reading.proofs.place_in.Goals as goal

pub returns-in-LittleEndian : goal.returns-in-LittleEndian
returns-in-LittleEndian c = rw c.in-LittleEndian.is (omega arith)
